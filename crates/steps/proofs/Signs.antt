-- From a magnitude to a length: what is a whole number of steps, and the sign. Assumes nothing.
use mathlib.Core.Path.{◌≡◌, refl, sym, ap, subst, ◌∙◌}
use mathlib.Core.Bool.{Bool, true, false, beq, ◌&&◌, ◌||◌}
use Prim.Native.Nat.{ℕ, zero, suc, ◌+◌, ◌*◌, ◌/◌, ◌%◌, ◌^◌, ◌<◌, zero-le}
use native.Mathlib.Nat.{mul-pos, zero-mul, zero-div, zero-lt-suc, div-add-mod', lt_irrefl, lt_of_le_of_lt, lt_of_lt_of_le, le_of_eq}
use native.Mathlib.Omega.{arith}
use borrow.Author.Tests.{eqb-true, ltb-true, ltb-false}
use lib.Dec.{T, eqb, eqb-suc-zero}
use lib.IntN.{pos, neg_ℤ, nat_abs}
use lib.Ieee.{Float, nan, inf, fin, up, down, lt, eq, of_bits}
use lib.Ieee.Nearest.{div_same}
use lib.Pow.{pow_pos}
use Rattle.floats.specs.Operations.{bits}
use Rattle.floats.specs.Floats.{abs_of}
use Rattle.floats.specs.Units.{units_of}
use Rattle.limits.specs.Limits.{shortest, longest, is_within, length_within}
use Rattle.steps.specs.Steps.{exact_of, is_whole, steps_of}
use Rattle.steps.specs.Parts.{AreParts}

-- ---- whole numbers

zero_same : (r d r' b : ℕ) → 0 < d → 0 < b → r * d ≡ r' * b → eqb r 0 ≡ eqb r' 0
zero_same zero d zero b p q e = refl
zero_same zero d (suc r') b p q e = absurd (lt_irrefl 0 (subst (λ (n : ℕ). 0 < n) (sym e ∙ zero-mul d) (mul-pos (zero-lt-suc r') q)))
zero_same (suc r) d zero b p q e = absurd (lt_irrefl 0 (subst (λ (n : ℕ). 0 < n) (e ∙ zero-mul b) (mul-pos (zero-lt-suc r) p)))
zero_same (suc r) d (suc r') b p q e = eqb-suc-zero r ∙ sym (eqb-suc-zero r')

remainders : (a b c d q r r' : ℕ) → q * b + r ≡ a → q * d + r' ≡ c → a * d ≡ c * b → r * d ≡ r' * b
remainders a b c d q r r' e f g =
    let h : (q * b + r) * d ≡ (q * d + r') * b = ap (λ (n : ℕ). n * d) e ∙ g ∙ sym (ap (λ (n : ℕ). n * b) f) in
    omega (arith, h)

whole_same : (a b c d : ℕ) → 0 < b → 0 < d → a * d ≡ c * b → eqb (a % b) 0 ≡ eqb (c % d) 0
whole_same a b c d p q e =
    zero_same (a % b) d (c % d) b q p
    (remainders a b c d (a / b) (a % b) (c % d) (div-add-mod' a b)
    (ap (λ (n : ℕ). n * d + c % d) (div_same a b c d p q e) ∙ div-add-mod' c d) e)

pub abs_neg : (n : ℕ) → nat_abs (neg_ℤ (pos n)) ≡ n
abs_neg zero = refl
abs_neg (suc n) = refl

pub abs_exact : (x : Float) → nat_abs (exact_of x) ≡ units_of x
abs_exact nan = refl
abs_exact (inf s) = refl
abs_exact (fin true m e) = abs_neg (units_of (fin true m e))
abs_exact (fin false m e) = refl

pub whole : (x : Float) (digits step : ℕ) → AreParts x digits step → eqb (digits % step) 0 ≡ is_whole (exact_of x)
unfolding is_whole
whole x digits step s = rw (abs_exact x) (sym (whole_same (units_of x) (2 ^ 1054) digits step (pow_pos 1054) s.some s.is))

-- ---- zero, and the magnitude

no_units : (m d : ℕ) → m * 1 ≡ 0 * d → m ≡ 0
no_units m d h = omega (arith, zero-mul d)

no_digits : (t r : Bool) → (t && r) ≡ true → t ≡ true
no_digits true r h = refl
no_digits false r h = h

pub zero_units : (x : Float) → eq x (bits 0) ≡ true → units_of x ≡ 0
unfolding eq of_bits
zero_units nan h = refl
zero_units (inf s) h = refl
zero_units (fin s m e) h =
    let a = m * up e * 1 in
    let d : a ≡ 0 * down e = eqb-true a (0 * down e) (no_digits (eqb a (0 * down e)) (beq s false || eqb a 0) h) in
    ap (λ (n : ℕ). n * 2 ^ 1074 / down e) (no_units (m * up e) (down e) d) ∙ zero-div (down e)

pub magnitude_units : (x : Float) → units_of (abs_of x) ≡ units_of x
unfolding abs_of
magnitude_units nan = refl
magnitude_units (inf s) = refl
magnitude_units (fin s m e) = refl

pub magnitude_within : (x : Float) → eq x (bits 0) ≡ false → T (length_within true true x) → T (is_within shortest longest (abs_of x))
unfolding length_within
magnitude_within x z h = subst (λ (t : Bool). T (t || is_within shortest longest (abs_of x))) z h

-- ---- signs

quotient_neg : (n : ℕ) → steps_of (neg_ℤ (pos n)) ≡ neg_ℤ (pos (n / 2 ^ 1054))
unfolding steps_of
quotient_neg zero = refl
quotient_neg (suc n) = refl

pub cut : (x : Float) (digits step : ℕ) → AreParts x digits step → units_of x / 2 ^ 1054 ≡ digits / step
cut x digits step s = div_same (units_of x) (2 ^ 1054) digits step (pow_pos 1054) s.some s.is

nothing : (a d : ℕ) → a < 0 * d → ⊥
nothing a d h = lt_irrefl 0 (lt_of_le_of_lt zero-le (lt_of_lt_of_le h (le_of_eq (zero-mul d))))

pub below_zero : (x : Float) → lt x (bits 0) ≡ true → steps_of (exact_of x) ≡ neg_ℤ (pos (units_of x / 2 ^ 1054))
unfolding steps_of lt of_bits
below_zero nan h = refl
below_zero (inf s) h = refl
below_zero (fin true m e) h = quotient_neg (units_of (fin true m e))
below_zero (fin false m e) h = absurd (nothing (m * up e * 1) (down e) (ltb-true (m * up e * 1) (0 * down e) h))

pub from_zero : (x : Float) → lt x (bits 0) ≡ false → steps_of (exact_of x) ≡ pos (units_of x / 2 ^ 1054)
unfolding steps_of lt of_bits
from_zero nan h = refl
from_zero (inf s) h = refl
from_zero (fin true m e) h =
    let z : m * up e ≡ 0 = let a = m * up e * 1 in let k = ltb-false 0 (a + 0 * down e) h in
    no_units (m * up e) (down e) (omega (arith, k)) in
    let u : units_of (fin true m e) ≡ 0 = ap (λ (n : ℕ). n * 2 ^ 1074 / down e) z ∙ zero-div (down e) in
    subst (λ (n : ℕ). steps_of (neg_ℤ (pos n)) ≡ pos (n / 2 ^ 1054)) (sym u) refl
from_zero (fin false m e) h = refl
