-- From numbers of the proofs to fractions: a polynomial of f64s, and an f64 that is near a quotient, both sides times its divisor. Assumes
-- nothing.
use lib.Ieee.{nan, inf, fin, up, down, Float}
use lib.Ieee.Positive.{num, den, den_pos, positive, positive-finite}
use lib.Pow.{pow_pos}
use mathlib.Core.Bool.{true, false, Bool}
use Rattle.error_terms.proofs.Floors.{positive_from, NotBelow}
use mathlib.Core.Path.{◌≡◌, sym, subst}
use mathlib.Core.List.{List, [], ◌∷◌}
use Prim.Native.Nat.{ℕ, zero, suc, ◌+◌, ◌-◌, ◌*◌, ◌^◌, ◌≤◌, ◌<◌}
use native.Mathlib.Nat.{le_refl, mul-pos, mul-le-mul_left, one-mul, mul-one, zero-mul, mul-zero, zero-add, add-zero, pow-zero, pow-suc}
use native.Mathlib.Omega.{arith}
use lib.ListN.{get_or}
use lib.Dec.{T, ltb, ltb→lt}
use lib.IntN.{pos, negsuc}
use lib.Ieee.Scale.{finite}
use Rattle.floats.specs.Fractions.{Fraction, ◌over◌, ◌plus◌ as sum, minus as negated, ◌times◌ as product, value_of as fraction_of}
use Rattle.rounding_error.specs.Distances.{Within as Apart}
use Rattle.rounding_error.proofs.Numbers.{Number, number, Size, ◌per◌, ◌by◌, ◌upto◌, minus, ◌times◌, IsNumber, IsSize, Within, Under, Near}
use Rattle.rounding_error.proofs.Numbers.{value_of, ◌roundoffs◌}
use Rattle.rounding_error.proofs.Distances.{sorted, within_upto, within_same, within_times, times_comm}
use Rattle.rounding_error.proofs.Counts as Counts
use Rattle.rounding_error.proofs.Fractions.{IsFraction, plus_fraction, minus_fraction, times_fraction, value_fraction, whole_fraction}
use Rattle.rounding_error.proofs.Fractions.{shifted_fraction, within_fraction}
use Rattle.rounding_error.proofs.Polynomials.{◌equals◌, times_is, among, Expression, given, ratio, ◌add◌, ◌take◌, ◌mul◌, evaluate}

ruleset plain = (sorted, one-mul, mul-one, zero-mul, mul-zero, zero-add, add-zero)

-- ---- fractions not below 0
pub own_fraction : (x : Float) → T (finite x) → NotBelow (value_of x) → IsFraction (number (num x) 0 (den x)) (fraction_of x)
own_fraction nan i h = absurd i
own_fraction (inf s) i h = absurd i
own_fraction (fin false m e) i h = value_fraction (fin false m e) i
own_fraction (fin true m e) i h = shifted_fraction (m * up e) 0 0 (m * up e) (down e) (fraction_of (fin true m e)) (omega arith)
    (value_fraction (fin true m e) i)

pub positive_fraction : (x : Float) → T (positive x) → IsFraction (number (num x) 0 (den x)) (fraction_of x)
positive_fraction x p = own_fraction x (positive-finite x p) (positive_from x p)

-- a product of fractions not below 0
pub product_fraction : (a c p e : ℕ) (v w : Fraction) → IsFraction (number a 0 c) v → IsFraction (number p 0 e) w → IsFraction
    (number (a * p) 0 (c * e)) (product v w)
product_fraction a c p e v w h k = shifted_fraction (a * p) 0 (a * p + 0 * 0) (a * 0 + 0 * p) (c * e) (product v w) (none a p)
    (times_fraction (number a 0 c) (number p 0 e) v w h k)
  where
    none : (a p : ℕ) → a * p + (a * 0 + 0 * p) ≡ 0 + (a * p + 0 * 0)
    none a p = omega arith

-- ---- what an expression is of fractions
abbrev pub fraction_in : (ℕ → Fraction) → Expression → Fraction
fraction_in x (given i) = x i
fraction_in x (ratio p d) = pos p over (suc d)
fraction_in x (s add t) = sum (fraction_in x s) (fraction_in x t)
fraction_in x (s take t) = sum (fraction_in x s) (negated (fraction_in x t))
fraction_in x (s mul t) = product (fraction_in x s) (fraction_in x t)

abbrev pub among_fractions : List Fraction → ℕ → Fraction
among_fractions l i = get_or l i (pos 0 over 1)

abbrev pub AreFractions : List Number → List Fraction → Type 0
AreFractions [] [] = Unit {0}
AreFractions [] (v ∷ k) = ⊥
AreFractions (x ∷ l) [] = ⊥
AreFractions (x ∷ l) (v ∷ k) = IsFraction x v × AreFractions l k

among_fraction : (l : List Number) (k : List Fraction) → AreFractions l k → (i : ℕ) → IsFraction (among l i) (among_fractions k i)
among_fraction [] [] h i = whole_fraction 0 1
among_fraction [] (v ∷ k) h i = absurd h
among_fraction (x ∷ l) [] h i = absurd h
among_fraction (x ∷ l) (v ∷ k) h zero = h.0
among_fraction (x ∷ l) (v ∷ k) h (suc i) = among_fraction l k h.1 i

module _ (l : List Number) (k : List Fraction) (are : AreFractions l k) where
  abbrev pub number_of : Expression → Number
  number_of t = evaluate (among l) t

  abbrev pub fraction_by : Expression → Fraction
  fraction_by t = fraction_in (among_fractions k) t

  pub expression_fraction : (t : Expression) → IsFraction (number_of t) (fraction_by t)
  expression_fraction (given i) = among_fraction l k are i
  expression_fraction (ratio p d) = whole_fraction p (suc d)
  expression_fraction (s add t) =
      plus_fraction (number_of s) (number_of t) (fraction_by s) (fraction_by t) (expression_fraction s) (expression_fraction t)
  expression_fraction (s take t) =
      plus_fraction (number_of s) (minus (number_of t)) (fraction_by s) (negated (fraction_by t)) (expression_fraction s)
      (minus_fraction (number_of t) (fraction_by t) (expression_fraction t))
  expression_fraction (s mul t) =
      times_fraction (number_of s) (number_of t) (fraction_by s) (fraction_by t) (expression_fraction s) (expression_fraction t)

-- a fraction that is not below 0 as an expression
abbrev pub fraction_e : Fraction → Expression
fraction_e (pos a over b) = ratio a (b - 1)
fraction_e (negsuc a over b) = ratio 0 0

abbrev pub plain_fraction : Fraction → Bool
plain_fraction (pos a over b) = ltb 0 b
plain_fraction (negsuc a over b) = false

pub fraction_number : (x : ℕ → Number) (f : Fraction) → T (plain_fraction f) → IsFraction (evaluate x (fraction_e f)) f
fraction_number x (pos a over b) t = subst (λ (k : ℕ). IsFraction (number a 0 k) (pos a over b)) (sym (one b (ltb→lt 0 b t)))
    (whole_fraction a b)
  where
    one : (b : ℕ) → 0 < b → suc (b - 1) ≡ b
    one b h = omega arith
fraction_number x (negsuc a over b) t = absurd t

pub first_power : (x : ℕ) → x ^ 1 ≡ x
first_power x = rw (pow-suc x 0, pow-zero x) (one-mul x)

-- ---- from a number near W, of which W·D is N, to fractions
above_of : Number → ℕ
above_of (number p n d) = p - n

below_of : Number → ℕ
below_of (number p n d) = d

own_parts : (D : Number) → NotBelow D → (f : Fraction) → IsFraction D f
    → IsFraction (number (above_of D) 0 (below_of D)) f × Under (above_of D per below_of D) D
unfolding above_of below_of
own_parts (number p n d) l f h = (
  shifted_fraction (p - n) 0 p n d f (back l) h,
  record { below = low (p - n) (split l); above = high (p - n) (split l) },
)
  where
    back : n ≤ p → p - n + n ≡ 0 + p
    back u = omega arith

    split : n ≤ p → p ≡ n + (p - n)
    split u = omega arith

    low : (a : ℕ) → p ≡ n + a → (p * 1 + 0 * d) * d ≤ (0 * d + n * 1) * d + a * (d * 1)
    low a e = subst (λ (p : ℕ). (p * 1 + 0 * d) * d ≤ (0 * d + n * 1) * d + a * (d * 1)) (sym e) (simp plain (omega arith))

    high : (a : ℕ) → p ≡ n + a → (0 * d + n * 1) * d ≤ (p * 1 + 0 * d) * d + a * (1 * d)
    high a e = subst (λ (p : ℕ). (0 * d + n * 1) * d ≤ (p * 1 + 0 * d) * d + a * (1 * d)) (sym e) (simp plain (omega arith))

is_some : (D : Number) → IsNumber D → 0 < below_of D
unfolding below_of
is_some (number p n d) h = h

pub to_fractions : (x : Float) (W D N : Number) (e : Size) (a c : ℕ) (r f h : Fraction) → IsNumber W → IsNumber D → IsNumber N → NotBelow D
    → IsSize e → 0 < c → IsFraction (number a 0 c) r → IsFraction D f → IsFraction N h → Near x W e → e upto (a per c) → W times D equals N
    → Apart (product r f) (product (fraction_of x) f) h
to_fractions x W D N (k per l) a c r f h iW iD i_n from ie C rf df nh near small e =
    let u = above_of D in
    let w = below_of D in
    let o = own_parts D from f df in
    let E = (u per w) by (k per l) in
    let turned : Within E (value_of x times D) (W times D) =
    subst (λ (s : Number). Within E s (W times D)) (times_comm D (value_of x))
    (subst (λ (s : Number). Within E (D times value_of x) s) (times_comm D W)
    (within_times (u per w) (k per l) D (value_of x) W o.1 near.within)) in
    within_fraction (a * u) (c * w) (value_of x times D) N (product r f) (product (fraction_of x) f) h (mul-pos C (is_some D iD))
    (times_is (value_of x) D (Counts.value_is x) iD) i_n (product_fraction a c u w r f rf o.0)
    (times_fraction (value_of x) D (fraction_of x) f (value_fraction x near.finite) df) nh
    (within_upto E ((a * u) per (c * w)) (value_of x times D) N (mul-pos (is_some D iD) ie) (size u w small)
    (within_same E (value_of x times D) (W times D) N (times_is W D iW iD) turned e.same))
  where
    size : (u w : ℕ) → k * c ≤ a * l → u * k * (c * w) ≤ a * u * (w * l)
    size u w h = let y = simp sorted at (mul-le-mul_left (u * w) h) in simp sorted (omega (arith, y))

-- K roundoffs of the size of an f64 z above 0
pub by_size : (x z : Float) → T (positive z) → (W D N : Number) (K : ℕ) (f h : Fraction) → IsNumber W → IsNumber D → IsNumber N → NotBelow D
    → IsFraction D f → IsFraction N h → Near x W ((K * 2 ^ 30) roundoffs (num z per (den z * 2 ^ 30))) → W times D equals N
    → Apart (product (product (pos K over 2 ^ 53) (fraction_of z)) f) (product (fraction_of x) f) h
by_size x z zp W D N K f h iW iD i_n from df nh w e =
    to_fractions x W D N ((K * 2 ^ 30) roundoffs (num z per (den z * 2 ^ 30))) (K * num z) (2 ^ 53 * den z)
    (product (pos K over 2 ^ 53) (fraction_of z)) f h iW iD i_n from (mul-pos (mul-pos (den_pos z) (pow_pos 30)) (pow_pos 53))
    (mul-pos (pow_pos 53) (den_pos z))
    (product_fraction K (2 ^ 53) (num z) (den z) (pos K over 2 ^ 53) (fraction_of z) (whole_fraction K (2 ^ 53))
    (positive_fraction z zp)) df nh w
    (size (num z) (den z) (2 ^ 30) (2 ^ 53)) e
  where
    size : (n d P Q : ℕ) → K * P * n * (Q * d) ≤ K * n * (d * P * Q)
    size n d P Q = simp plain (le_refl _)
