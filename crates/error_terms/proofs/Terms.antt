-- Rounded expressions: what each is as an f64, what it is exactly, and a bound on the difference that is computed; `sound`
-- of proofs/Sound is the theorem. Assumes nothing.
use mathlib.Core.Bool.{Bool, true, false, ◌&&◌, ◌||◌, cond}
use mathlib.Core.List.{List, [], ◌∷◌}
use Prim.Native.Nat.{ℕ, zero, suc, ◌+◌, ◌-◌, ◌*◌, ◌/◌, ◌^◌}
use lib.Dec.{T, leb, ltb, eqb}
use lib.ListN.{get_or}
use lib.Ieee.{Float, nan, inf, fin, up, down}
use lib.Ieee.Scale.{finite}
use lib.Ieee.Positive.{num, den, positive}
use Rattle.floats.specs.Operations.{◌⊕◌, ◌⊖◌, ◌⊗◌, ◌⊘◌, bits}
use Rattle.rounding_error.proofs.Numbers.{Number, number, Size, ◌plus◌, ◌less◌, ◌times◌, ◌upto◌}
use Rattle.rounding_error.proofs.Numbers.{zero_number, value_of}
use Rattle.rounding_error.proofs.Chains.{Valued}
use Rattle.rounding_error.proofs.Polynomials as Poly
use Rattle.rounding_error.proofs.Polynomials.{Expression, given as at_place, ratio, Product, factor, normal, evaluate, product, sum_of}
use Rattle.rounding_error.proofs.Polynomials.{◌equals◌, symm}
use Rattle.error_terms.proofs.Monomials.{top, bottom, mono, place, unit, added, total, alike}
use Rattle.error_terms.proofs.Laws.{rounded_up, inverse_of}
use Rattle.error_terms.proofs.Laws.{Reaches, parts}

-- the error in parts of a unit roundoff, the size in parts, 2^30 parts to the unit; the unit by its exponents
pub data Shape : Type 0 where
  shape : (error size : ℕ) → (above below : List ℕ) → Shape

-- an f64, the number that it stands for, how near it is, and how many parts that number is at least, where it is divided by (else 0)
pub data Given : Type 0 where
  entry : Float → Number → Shape → ℕ → Given
  larger : ℕ → ℕ → Given

infixl 65 ◌add◌
infixl 65 ◌take◌
infixl 70 ◌mul◌
infixl 70 ◌over◌
pub data Term : Type 0 where
  var : ℕ → Term
  const : Float → Term
  nought : List ℕ → List ℕ → Term
  ◌add◌ ◌take◌ ◌mul◌ : Term → Term → Term
  ◌over◌ : Term → ℕ → Term
  divided : Float → Term → Term
  tight : Term → Term
  raised : ℕ → Term → Term

abbrev pub none : Given
none = entry (bits 0) (value_of (bits 0)) (shape 0 0 [] []) 0

abbrev pub float_of : Given → Float
float_of (entry x v s low) = x
float_of (larger i j) = bits 0

abbrev pub number_of : Given → Number
number_of (entry x v s low) = v
number_of (larger i j) = value_of (bits 0)

abbrev pub shape_of : Given → Shape
shape_of (entry x v s low) = s
shape_of (larger i j) = shape 0 0 [] []

abbrev pub low_of : Given → ℕ
low_of (entry x v s low) = low
low_of (larger i j) = 0

-- 1 over it, where it is divided by
abbrev pub inverse_by : ℕ → Number → Number
inverse_by zero v = value_of (bits 0)
inverse_by (suc low) v = inverse_of v

abbrev pub inverse_at : Given → Number
inverse_at (entry x v s low) = inverse_by low v
inverse_at (larger i j) = value_of (bits 0)

-- the f64
abbrev pub value : List Given → Term → Float
value G (var i) = float_of (get_or G i none)
value G (const c) = c
value G (nought p q) = bits 0
value G (s add t) = value G s ⊕ value G t
value G (s take t) = value G s ⊖ value G t
value G (s mul t) = value G s ⊗ value G t
value G (s over i) = value G s ⊘ float_of (get_or G i none)
value G (divided c s) = value G s ⊘ c
value G (tight s) = value G s
value G (raised k s) = value G s

-- 1 over a constant above 0
abbrev pub inverse_constant : Float → Expression
inverse_constant c = ratio (den c) (num c - 1)

abbrev pub inverse_number : Float → Number
inverse_number c = number (den c) 0 (suc (num c - 1))

-- the exact number
abbrev pub exact : List Given → Term → Number
exact G (var i) = number_of (get_or G i none)
exact G (const c) = value_of c
exact G (nought p q) = zero_number
exact G (s add t) = exact G s plus exact G t
exact G (s take t) = exact G s less exact G t
exact G (s mul t) = exact G s times exact G t
exact G (s over i) = exact G s times inverse_by (low_of (get_or G i none)) (number_of (get_or G i none))
exact G (divided c s) = exact G s times inverse_number c
exact G (tight s) = exact G s
exact G (raised k s) = exact G s

-- ---- the exact number as a polynomial of the variables, at the even places, and their inverses, at the odd ones
abbrev pub double : ℕ → ℕ
double zero = 0
double (suc i) = suc (suc (double i))

abbrev pub constant : Float → Expression
constant nan = ratio 0 0
constant (inf s) = ratio 0 0
constant (fin true m e) = Poly.◌take◌ (ratio 0 0) (ratio (m * up e) (down e - 1))
constant (fin false m e) = ratio (m * up e) (down e - 1)

-- all constants finite, all divisors above 0
abbrev pub plain_term : Term → Bool
plain_term (var i) = true
plain_term (const c) = finite c
plain_term (nought p q) = true
plain_term (s add t) = plain_term s && plain_term t
plain_term (s take t) = plain_term s && plain_term t
plain_term (s mul t) = plain_term s && plain_term t
plain_term (s over i) = plain_term s
plain_term (divided c s) = plain_term s && positive c
plain_term (tight s) = plain_term s
plain_term (raised k s) = plain_term s

abbrev pub numbers_of : List Given → ℕ → Number
numbers_of [] k = value_of (bits 0)
numbers_of (g ∷ G) zero = number_of g
numbers_of (g ∷ G) (suc zero) = inverse_at g
numbers_of (g ∷ G) (suc (suc k)) = numbers_of G k

-- how large a number is, in parts of a unit
pub data Extent : Type 0 where
  extent : (size : ℕ) → (above below : List ℕ) → Extent

abbrev pub extent_of : Given → Extent
extent_of (entry x v (shape k i p q) low) = extent i p q
extent_of (larger i j) = extent 0 [] []

abbrev pub inverse_extent_by : ℕ → Shape → Extent
inverse_extent_by zero s = extent 0 [] []
inverse_extent_by (suc low) (shape k i p q) = extent (rounded_up (2 ^ 30 * 2 ^ 30) (suc low)) q p

abbrev pub inverse_extent : Given → Extent
inverse_extent (entry x v s low) = inverse_extent_by low s
inverse_extent (larger i j) = extent 0 [] []

abbrev pub extents : List Given → ℕ → Extent
extents [] k = extent 0 [] []
extents (g ∷ G) zero = extent_of g
extents (g ∷ G) (suc zero) = inverse_extent g
extents (g ∷ G) (suc (suc k)) = extents G k

abbrev pub times_extent : Extent → Extent → Extent
times_extent (extent i p q) (extent j p' q') = extent (rounded_up (i * j) (2 ^ 30)) (added p p') (added q q')

abbrev pub product_extent : List Given → List ℕ → Extent
product_extent G [] = extent (2 ^ 30) [] []
product_extent G (i ∷ l) = times_extent (extents G i) (product_extent G l)

abbrev pub apart : ℕ → ℕ → ℕ
apart a b = (a - b) + (b - a)

-- a product with its factor, in parts of a roundoff
abbrev pub factor_reach : ℕ → ℕ → ℕ → Extent → ℕ
factor_reach a b d (extent j p q) = rounded_up (rounded_up (apart a b * (2 ^ 30 * 2 ^ 53)) (suc d) * j) (2 ^ 30)

abbrev pub reach_of : List Given → List Product → ℕ
reach_of G [] = 0
reach_of G (factor a b d l ∷ F) = factor_reach a b d (product_extent G l) + reach_of G F

-- the same unit, or a larger one, by one of the sizes that are larger than others
abbrev pub climb : ℕ → ℕ → ℕ → List ℕ → List ℕ → List ℕ → List ℕ → Bool
climb zero i j p' q' p q = alike (added p' q) (added p q')
climb (suc n) i j p' q' p q = alike (added p' q) (added p q') || climb n i j (added p' (place j)) (added q' (place i)) p q

abbrev pub climbs : List Given → List ℕ → List ℕ → List ℕ → List ℕ → Bool
climbs [] p' q' p q = alike (added p' q) (added p q')
climbs (entry x v s low ∷ G) p' q' p q = climbs G p' q' p q
climbs (larger i j ∷ G) p' q' p q = climb 6 i j p' q' p q || climbs G p' q' p q

abbrev pub unit_test : List Given → Extent → List ℕ → List ℕ → Bool
unit_test G (extent j p' q') p q = climbs G p' q' p q

abbrev pub units_test : List Given → List ℕ → List ℕ → List Product → Bool
units_test G p q [] = true
units_test G p q (factor a b d l ∷ F) = (eqb a b || unit_test G (product_extent G l) p q) && units_test G p q F

-- a number times its inverse is 1
abbrev pub pairs : List Given → ℕ → ℕ → Bool
pairs [] i j = false
pairs (g ∷ G) zero j = eqb j 1 && ltb 0 (low_of g)
pairs (g ∷ G) (suc zero) j = false
pairs (g ∷ G) (suc (suc i)) zero = false
pairs (g ∷ G) (suc (suc i)) (suc zero) = false
pairs (g ∷ G) (suc (suc i)) (suc (suc j)) = pairs G i j

abbrev pub push : List Given → ℕ → List ℕ → List ℕ
push G i [] = i ∷ []
push G i (j ∷ l) = cond (pairs G i j) l (i ∷ j ∷ l)

abbrev pub cancelled_places : List Given → List ℕ → List ℕ
cancelled_places G [] = []
cancelled_places G (i ∷ l) = push G i (cancelled_places G l)

abbrev pub cancelled : List Given → List Product → List Product
cancelled G [] = []
cancelled G (factor a b d l ∷ F) = Poly.insert (factor a b d (cancelled_places G l)) (cancelled G F)

-- the exact number as a sum of products; where it is made tight, what cancels is left out
abbrev pub normal_of : List Given → Term → List Product
normal_of G (var i) = normal (at_place (double i))
normal_of G (const c) = normal (constant c)
normal_of G (nought p q) = []
normal_of G (s add t) = Poly.added (normal_of G s) (normal_of G t)
normal_of G (s take t) = Poly.added (normal_of G s) (Poly.negated (normal_of G t))
normal_of G (s mul t) = Poly.multiplied (normal_of G s) (normal_of G t)
normal_of G (s over i) = Poly.multiplied (normal_of G s) (normal (at_place (suc (double i))))
normal_of G (divided c s) = Poly.multiplied (normal_of G s) (normal (inverse_constant c))
normal_of G (tight s) = cancelled G (normal_of G s)
normal_of G (raised k s) = normal_of G s

abbrev pub tight_size : List Given → List Product → ℕ
tight_size G F = rounded_up (reach_of G F) (2 ^ 53)

-- exponents above and below the line, less what both have
abbrev pub lessened : List ℕ → List ℕ → List ℕ
lessened [] q = []
lessened (e ∷ p) [] = e ∷ p
lessened (e ∷ p) (g ∷ q) = (e - g) ∷ lessened p q

abbrev pub tight_test : List Given → Shape → List Product → Bool
tight_test G (shape k i p q) F = alike (added p (lessened q p)) (added (lessened p q) q) && units_test G (lessened p q) (lessened q p) F

-- ---- the bound
abbrev pub sum_shape : Shape → Shape → Shape
sum_shape (shape k i p q) (shape l j p' q') = shape (suc i + suc j + (k + l)) (i + j) p' q'

abbrev pub product_shape : Shape → Shape → Shape
product_shape (shape k i p q) (shape l j p' q') =
    shape (rounded_up (suc i * suc j + (suc i * l + j * k)) (2 ^ 30)) (rounded_up (i * j) (2 ^ 30)) (added p p') (added q q')

-- what a divisor is at least, what its inverse is at most, and how far that is off
abbrev pub lowest : ℕ → ℕ → ℕ
lowest l low = low - rounded_up l (2 ^ 53)

abbrev pub inverse_size : ℕ → ℕ → ℕ
inverse_size l low = rounded_up (2 ^ 30 * 2 ^ 30) (lowest l low)

abbrev pub inverse_error : ℕ → ℕ → ℕ
inverse_error l low = rounded_up (l * (inverse_size l low * inverse_size l low)) (2 ^ 30 * 2 ^ 30)

abbrev pub quotient_shape : Shape → Shape → ℕ → Shape
quotient_shape (shape k i p q) (shape l j p' q') low =
    shape (rounded_up (suc i * inverse_size l low + (suc i * inverse_error l low + inverse_size l low * k)) (2 ^ 30))
    (rounded_up (i * inverse_size l low) (2 ^ 30)) (added p q') (added q p')

abbrev pub resized_shape : Shape → ℕ → Shape
resized_shape (shape k i p q) j = shape k j (lessened p q) (lessened q p)

abbrev pub raised_by : Given → Shape → Shape
raised_by (entry x v s low) t = t
raised_by (larger i j) (shape k l p q) = shape k l (added p (place j)) (added q (place i))

-- of a constant, and what it is at least, where it is above 0
abbrev pub const_shape : Float → Shape
const_shape c = shape 0 (rounded_up (num c * 2 ^ 30) (den c)) [] []

abbrev pub const_least : Float → ℕ
const_least c = num c * 2 ^ 30 / den c

abbrev pub bound : List Given → Term → Shape
bound G (var i) = shape_of (get_or G i none)
bound G (const c) = const_shape c
bound G (nought p q) = shape 0 0 p q
bound G (s add t) = sum_shape (bound G s) (bound G t)
bound G (s take t) = sum_shape (bound G s) (bound G t)
bound G (s mul t) = product_shape (bound G s) (bound G t)
bound G (s over i) = quotient_shape (bound G s) (shape_of (get_or G i none)) (low_of (get_or G i none))
bound G (divided c s) = quotient_shape (bound G s) (const_shape c) (const_least c)
bound G (tight s) = resized_shape (bound G s) (tight_size G (cancelled G (normal_of G s)))
bound G (raised k s) = raised_by (get_or G k none) (bound G s)

-- ---- what is asked: errors below a part, sizes and units within limits, equal units of what is added
abbrev pub fine : Shape → Bool
fine (shape k i p q) = leb k (2 ^ 53) && leb (suc i) (2 ^ 49) && leb (32 * total p + 32 * total q) 800

abbrev pub sum_test : Shape → Shape → Bool
sum_test (shape k i p q) (shape l j p' q') = alike (added p q') (added p' q)

abbrev pub divides : ℕ → ℕ → Bool
divides l low = ltb 0 (lowest l low) && leb (lowest l low * 2 ^ 53 + l) (low * 2 ^ 53) && leb (inverse_size l low) (2 ^ 49)

abbrev pub quotient_test : Shape → ℕ → Bool
quotient_test (shape l j p q) low = divides l low && leb (32 * total p + 32 * total q) 800

abbrev pub divided_test : Float → Shape → Bool
divided_test c s = positive c && ((fine s && fine (quotient_shape s (const_shape c) (const_least c))) && quotient_test (const_shape c)
    (const_least c))

abbrev pub ok : List Given → Term → Bool
ok G (var i) = true
ok G (const c) = finite c
ok G (nought p q) = true
ok G (s add t) = (ok G s && ok G t) && ((fine (bound G s) && fine (bound G t)) && sum_test (bound G s) (bound G t))
ok G (s take t) = (ok G s && ok G t) && ((fine (bound G s) && fine (bound G t)) && sum_test (bound G s) (bound G t))
ok G (s mul t) = (ok G s && ok G t) && (fine (bound G s) && fine (bound G t) && fine (product_shape (bound G s) (bound G t)))
ok G (s over i) = ok G s && ((fine (bound G s) && fine
    (quotient_shape (bound G s) (shape_of (get_or G i none)) (low_of (get_or G i none)))) && quotient_test (shape_of (get_or G i none))
    (low_of (get_or G i none)))
ok G (divided c s) = ok G s && divided_test c (bound G s)
ok G (tight s) = ok G s && (plain_term s && tight_test G (bound G s) (cancelled G (normal_of G s)))
ok G (raised k s) = ok G s

-- ---- what is known of an f64
abbrev pub unit_by : List Size → List ℕ → List ℕ → Size
unit_by B p q = parts (mono top B p * mono bottom B q) (mono bottom B p * mono top B q)

abbrev pub Known : List Size → Float → Number → Shape → Type 0
Known B x v (shape k i p q) = Valued x v k i (unit_by B p q)

-- where it is divided by
abbrev pub Lowest : List Size → Float → Number → Shape → ℕ → Type 0
Lowest B x v s zero = Unit {0}
Lowest B x v (shape k i p q) (suc low) = T (positive x) × Reaches (suc low) (mono top B p * mono bottom B q)
    (mono bottom B p * mono top B q * 2 ^ 30) v

abbrev pub AllKnown : List Size → List Given → Type 0
AllKnown B [] = Unit {0}
AllKnown B (entry x v s low ∷ G) = (Known B x v s × Lowest B x v s low) × AllKnown B G
AllKnown B (larger i j ∷ G) = (get_or B i unit upto get_or B j unit) × AllKnown B G
