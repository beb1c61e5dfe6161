-- What a bit pattern's fields say of a length's magnitude: from 2^-20 to 64 m it is 2^1054 to 2^1080 units, so the
-- exponent field is 1003 to 1029, and a step is 2^(1055 - field) units of the last of its 53 binary digits. Assumes
-- nothing.
use mathlib.Core.Path.{◌≡◌, refl, sym, ap, subst, ◌∙◌}
use Prim.Native.Nat.{ℕ, ◌+◌, ◌-◌, ◌*◌, ◌/◌, ◌%◌, ◌^◌, ◌≤◌, ◌<◌}
use native.Mathlib.Nat.{le_trans, le_of_eq, lt_of_le_of_lt, lt_of_not-le, not-le_of_lt, mul_assoc, mul-le-mul_left}
use native.Mathlib.Nat.{mul-le-mul_right, le_of_mul-le-mul_right, le-div_iff_mul-le, div-le_of_le-mul, mod-eq_of_lt, mod-lt}
use native.Mathlib.Omega.{arith}
use lib.Dec.{T}
use lib.Pow.{pow-add, pow_pos, pow_mono, pow-lt, shl_lt}
use lib.Ieee.{Float, le, of_bits}
use lib.Ieee.Fits.{and_l, and_r}
use lib.Ieee.Positive.{positive, num, den, den_pos, le→cross, between}
use Rattle.floats.specs.Operations.{bits}
use Rattle.floats.specs.Units.{units_of}
use Rattle.floats.proofs.Units.{for_positive}
use Rattle.root.proofs.Patterns.{field, subnormal_units, normal_units, not_all_ones}
use Rattle.limits.specs.Limits.{shortest, longest, is_within}
use Rattle.steps.specs.Parts.{AreParts}

-- ---- from 2^-20 to 64 m

lower : (u n d : ℕ) → 0 < d → 1 * d ≤ n * 2 ^ 20 → u ≤ n * (2 ^ 20 * u) / d
lower u n d p h = (le-div_iff_mul-le p).1 (omega (arith, mul-le-mul_left u h))

upper : (u n d : ℕ) → n * 1 ≤ 2 ^ 6 * d → n * u / d ≤ 2 ^ 6 * u
upper u n d h = div-le_of_le-mul d (omega (arith, mul-le-mul_left u h))

is_positive : (x : Float) → T (is_within shortest longest x) → T (positive x)
unfolding of_bits
is_positive x h = between shortest x longest tt tt (and_l (le shortest x) (le x longest) h) (and_r (le shortest x) (le x longest) h)

units_are : (x : Float) → T (positive x) → units_of x ≡ num x * 2 ^ 1074 / den x
units_are = for_positive (λ (x : Float). units_of x ≡ num x * 2 ^ 1074 / den x) (λ m e. refl)

at_least : (x : Float) → T (is_within shortest longest x) → 2 ^ 1054 ≤ units_of x
unfolding of_bits
at_least x h =
    let p = is_positive x h in
    subst (λ (n : ℕ). 2 ^ 1054 ≤ n) (sym (units_are x p))
    (lower (2 ^ 1054) (num x) (den x) (den_pos x) (le→cross shortest x tt p (and_l (le shortest x) (le x longest) h)))

pub at_most_lem : (x : Float) → T (is_within shortest longest x) → units_of x ≤ 2 ^ 26 * 2 ^ 1054
unfolding of_bits
at_most_lem x h =
    let p = is_positive x h in
    subst (λ (n : ℕ). n ≤ 2 ^ 1080) (sym (units_are x p))
    (upper (2 ^ 1074) (num x) (den x) (le→cross x longest p tt (and_r (le shortest x) (le x longest) h)))

-- ---- the exponent field

exponent_lt : (a k n : ℕ) → 2 ^ a ≤ n → n < 2 ^ k → a < k
exponent_lt a k n h g = lt_of_not-le (λ (j : k ≤ a). not-le_of_lt g (le_trans (pow_mono j) h))

-- the binary digits below the leading one
abbrev fraction : ℕ → ℕ
fraction b = b % 2 ^ 52

module _ (b : ℕ) (h : T (is_within shortest longest (bits b))) where
  few : fraction b < 2 ^ 52
  few = mod-lt b (pow_pos 52)

  not_subnormal : field b ≡ 0 → ⊥
  not_subnormal z =
      let g = exponent_lt 1054 52 (units_of (bits b)) (at_least (bits b) h)
      (lt_of_le_of_lt (le_of_eq (subnormal_units b z)) (let y : fraction b * 2 ^ 0 < 2 ^ 52 = omega (arith, few) in y)) in
      omega arith

  units : units_of (bits b) ≡ (2 ^ 52 + fraction b) * 2 ^ (field b - 1)
  units = normal_units b not_subnormal (not_all_ones b (is_positive (bits b) h))

  pub field_low : 1003 ≤ field b
  field_low =
      let f = field b - 1 in
      let g = exponent_lt 1054 (53 + f) (units_of (bits b)) (at_least (bits b) h)
      (lt_of_le_of_lt (le_of_eq units) (shl_lt 53 f (let y : 2 ^ 52 + fraction b < 2 ^ 53 = omega (arith, few) in y))) in
      omega arith

  pub field_high : field b ≤ 1029
  field_high =
      let f = field b - 1 in
      let g = exponent_lt (52 + f) 1081 (units_of (bits b))
      (le_trans (le_of_eq (pow-add 2 52 f))
      (le_trans (mul-le-mul_right (2 ^ f) (let y : 2 ^ 52 ≤ 2 ^ 52 + fraction b = omega arith in y)) (le_of_eq (sym units))))
      (lt_of_le_of_lt (at_most_lem (bits b) h) (pow-lt (let y : 1080 < 1081 = omega arith in y))) in
      omega arith

  pub step_is : 1 * 2 ^ (1055 - field b) % 2 ^ 64 ≡ 2 ^ (1055 - field b)
  step_is = let k = 1055 - field b in
      let l : k < 64 = omega (arith, field_low) in
      let e : 1 * 2 ^ k ≡ 2 ^ k = omega arith in
      ap (λ (n : ℕ). n % 2 ^ 64) e ∙ mod-eq_of_lt (pow-lt l)

  pub parts : AreParts (bits b) (2 ^ 52 + fraction b) (2 ^ (1055 - field b))
  parts =
      let f = field b - 1 in
      let k = 1055 - field b in
      let e : f + k ≡ 1054 = omega (arith, field_low, field_high) in
      let is : units_of (bits b) * 2 ^ k ≡ (2 ^ 52 + fraction b) * 2 ^ 1054 = ap (λ (n : ℕ). n * 2 ^ k) units
      ∙ mul_assoc (2 ^ 52 + fraction b) (2 ^ f) (2 ^ k)
      ∙ ap (λ (n : ℕ). (2 ^ 52 + fraction b) * n) (sym (pow-add 2 f k) ∙ ap (λ (n : ℕ). 2 ^ n) e) in
      record {
        some = pow_pos k;
        is = is;
        most = most (2 ^ 1054) (units_of (bits b)) (2 ^ 52 + fraction b) (2 ^ k) (pow_pos 1054) is
            (at_most_lem (bits b) h);
      }
    where
      most : (u n d s : ℕ) → 0 < u → n * s ≡ d * u → n ≤ 2 ^ 26 * u → d ≤ 2 ^ 26 * s
      most u n d s p e h = le_of_mul-le-mul_right {k = u} (omega (arith, e, mul-le-mul_right s h)) p
