-- Exact numbers as proofs take them, and how far an f64 is from one. A number is a difference of two whole numbers over
-- a third, so that what is said of numbers is said by sums and products of whole numbers, of which `omega` decides;
-- proofs/Fractions takes it to floats/specs/Fractions.
use mathlib.Core.Path.{◌≡◌}
use Prim.Native.Nat.{ℕ, ◌+◌, ◌*◌, ◌^◌, ◌≤◌, ◌<◌}
use mathlib.Core.Bool.{true, false}
use lib.Dec.{T}
use lib.Ieee.{Float, nan, inf, fin, up, down}
use lib.Ieee.Scale.{finite}
use lib.Ieee.Positive.{num, den}

-- number p n d is (p − n) / d
pub data Number : Type 0 where
  number : ℕ → ℕ → ℕ → Number

-- a per c is a / c: sizes, and errors
infix 74 ◌per◌
pub data Size : Type 0 where
  ◌per◌ : ℕ → ℕ → Size

infixl 65 ◌plus◌
infixl 65 ◌less◌
infixl 70 ◌times◌
abbrev pub ◌plus◌ : Number → Number → Number
(number p n d) plus (number q m e) = number (p * e + q * d) (n * e + m * d) (d * e)

abbrev pub minus : Number → Number
minus (number p n d) = number n p d

abbrev pub ◌less◌ : Number → Number → Number
x less y = x plus minus y

abbrev pub ◌times◌ : Number → Number → Number
(number p n d) times (number q m e) = number (p * q + n * m) (p * m + n * q) (d * e)

-- divided by an f64 above 0
infixl 70 ◌over◌
abbrev pub ◌over◌ : Number → Float → Number
(number p n d) over y = number (p * den y) (n * den y) (num y * d)

infixl 65 ◌and◌
infixl 70 ◌by◌
abbrev pub ◌and◌ : Size → Size → Size
(a per c) and (b per d) = (a * d + b * c) per (c * d)

abbrev pub ◌by◌ : Size → Size → Size
(a per c) by (b per d) = (a * b) per (c * d)

infixl 70 ◌for◌
abbrev pub ◌for◌ : Size → Float → Size
(a per c) for y = (a * den y) per (num y * c)

-- the unit roundoff is 2^-53: so much of a size
abbrev pub roundoff : Size → Size
roundoff (a per c) = a per (c * 2 ^ 53)

-- k times a size, and k unit roundoffs of it
infix 74 ◌of◌
abbrev pub ◌of◌ : ℕ → Size → Size
k of (a per c) = (k * a) per c

infix 74 ◌roundoffs◌
abbrev pub ◌roundoffs◌ : ℕ → Size → Size
k roundoffs (a per c) = (k * a) per (c * 2 ^ 53)

-- a size is at most another
infix 50 ◌upto◌
abbrev pub ◌upto◌ : Size → Size → Type 0
(a per c) upto (b per d) = a * d ≤ b * c

-- it is a number: what is below the line is not 0
abbrev pub IsNumber : Number → Type 0
IsNumber (number p n d) = 0 < d

abbrev pub IsSize : Size → Type 0
IsSize (a per c) = 0 < c

-- x <= y + e
abbrev pub Over : Size → Number → Number → Type 0
Over (a per c) (number p n d) (number q m e) = (p * e + m * d) * c ≤ (q * d + n * e) * c + a * (d * e)

-- |x − y| <= e
pub record Within (e : Size) (x y : Number) : Type 0 where
  pub below : Over e x y
  pub above : Over e y x

-- x = y
abbrev pub Same : Number → Number → Type 0
Same (number p n d) (number q m e) = p * e + m * d ≡ q * d + n * e

abbrev pub zero_number : Number
zero_number = number 0 0 1

-- |x| <= e
abbrev pub Under : Size → Number → Type 0
Under e x = Within e x zero_number

-- the number that a finite f64 is; of the others it says nothing
abbrev pub value_of : Float → Number
value_of nan = zero_number
value_of (inf s) = zero_number
value_of (fin true m e) = number 0 (m * up e) (down e)
value_of (fin false m e) = number (m * up e) 0 (down e)

-- x is finite, and at most e from v
pub record Near (x : Float) (v : Number) (e : Size) : Type 0 where
  pub finite : T (finite x)
  pub within : Within e (value_of x) v

-- a size from 2^-k to 2^k
abbrev pub Least : ℕ → Size → Type 0
Least k (a per c) = c ≤ a * 2 ^ k

abbrev pub Most : ℕ → Size → Type 0
Most k (a per c) = a ≤ c * 2 ^ k

pub record Ranges (k : ℕ) (S : Size) : Type 0 where
  pub real : IsSize S
  pub least : Least k S
  pub most : Most k S

-- from the least normal f64 on, 2^-1022; and so that a few million times as much is, too
abbrev pub Normal : Size → Type 0
Normal S = Ranges 1022 S

abbrev pub InRange : Size → Type 0
InRange S = Ranges 1000 S

-- the size of an f64 above 0
abbrev pub size_of : Float → Size
size_of x = num x per den x
