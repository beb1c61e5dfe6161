-- `Below` and `Above` through the operations of f64: the bounds are powers of two, over the exponents. Assumes nothing.
use mathlib.Core.Path.{◌≡◌, refl, sym, ap, ◌∙◌, subst}
use mathlib.Core.Logic.{◌⊎◌, inl, inr}
use mathlib.Core.Bool.{Bool, true, false, not, cond, true≢false}
use Prim.Native.Nat.{ℕ, suc, ◌+◌, ◌*◌, ◌^◌, ◌≤◌, ◌<◌, max}
use native.Mathlib.Nat.{le_trans, le_of_eq, lt_of_lt_of_le, mul-one, one-mul, zero-mul, mul_comm, mul_assoc, mul_left_comm, mul_right_comm}
use native.Mathlib.Nat.{add-mul, mul-le-mul, mul-le-mul_right, mul-mul-mul_comm, mul-pos, zero-lt-suc, two-pow-succ, add-le-add, suc-mul}
use native.Mathlib.Nat.{le-max_left, le-max_right}
use native.Mathlib.Omega.{arith}
use lib.Dec.{T, ltb, nltb→le, lt→ltb, lit≤}
use lib.Pow.{pow-add, pow_pos, pow_mono}
use lib.Ieee.{Float, nan, inf, fin, binary64, up, down, neg, lt, ne, sub, round, of_bits}
use lib.Ieee.Scale.{finite}
use lib.Ieee.Positive.{num, den, den_pos, positive, first_pos}
use Rattle.floats.specs.Operations.{◌⊕◌, ◌⊖◌, ◌⊗◌, ◌⊘◌, bits}
use Rattle.floats.specs.Constants.{half}
use Rattle.floats.specs.Floats.{abs_of, min_of, max_of}
use Rattle.floats.proofs.Zeros.{zero_is}
use Rattle.rounding.specs.Sizes.{AtMost, AtLeast, Below, Above, InOrder}
use Rattle.rounding.proofs.Signs.{minus, round_minus}
use Rattle.rounding.proofs.Signed.{Adds}
use Rattle.rounding.proofs.Exact.{pow_exact, small_exact, count_exact}
use Rattle.rounding.proofs.Rounding.{round_least}
use Rattle.rounding.proofs.Operations.{mul_most, mul_least, add_is, add_most, neg_most, div_most}

-- ---- constants
pub zero_below : Below 0 (bits 0)
unfolding of_bits
zero_below = record { finite = tt; size = lit≤ tt }

pub half_below : Below 0 half
unfolding of_bits
half_below = record { finite = tt; size = lit≤ tt }

-- ---- wider bounds
pub weaker : (x : Float) (p q : ℕ) → p ≤ q → Below p x → Below q x
weaker x p q l h = record { finite = h.finite; size = le_trans h.size (mul-le-mul_right (den x) (pow_mono l)) }

pub wider : (a b : Float) (p q : ℕ) → p ≤ q → InOrder p a b → InOrder q a b
wider a b p q l w =
    record {
      lower_f64 = w.lower_f64;
      upper_f64 = w.upper_f64;
      lower_below = weaker a p q l w.lower_below;
      upper_below = weaker b p q l w.upper_below;
      ordered = w.ordered;
    }

-- ---- the product
product : (nx ny dx dy a c : ℕ) → nx * 1 ≤ a * dx → ny * 1 ≤ c * dy → nx * ny * 1 ≤ a * c * (dx * dy)
product nx ny dx dy a c h k =
    rw (mul-one (nx * ny)) (le_trans (mul-le-mul (rw (mul-one nx) at h) (rw (mul-one ny) at k)) (le_of_eq (mul-mul-mul_comm a dx c dy)))

pub mul_below : (x y : Float) (p q : ℕ) → p + q ≤ 1023 → Below p x → Below q y → Below (p + q) (x ⊗ y)
mul_below x y p q r h k =
    mul_most binary64 x y (2 ^ (p + q)) 1 (zero-lt-suc 0) (pow_exact binary64 (p + q) r) h.finite k.finite
    (rw (pow-add 2 p q) (product (num x) (num y) (den x) (den y) (2 ^ p) (2 ^ q) h.size k.size))

-- ---- the sum and the difference
total : (nx ny dx dy a b : ℕ) → nx * 1 ≤ a * dx → ny * 1 ≤ b * dy → (nx * dy + ny * dx) * 1 ≤ (a + b) * (dx * dy)
total nx ny dx dy a b h k =
    let u : nx * dy ≤ a * (dx * dy) = le_trans (mul-le-mul_right dy (rw (mul-one nx) at h)) (le_of_eq (mul_assoc a dx dy)) in
    let w : ny * dx ≤ b * (dx * dy) = le_trans (mul-le-mul_right dx (rw (mul-one ny) at k))
    (le_of_eq (mul_assoc b dy dx ∙ ap (λ (z : ℕ). b * z) (mul_comm dy dx))) in
    rw (mul-one (nx * dy + ny * dx), add-mul a b (dx * dy)) (add-le-add u w)

pub add_below : (x y : Float) (p : ℕ) → p < 1023 → Below p x → Below p y → Below (suc p) (x ⊕ y)
add_below x y p r h k =
    add_most binary64 x y (2 ^ suc p) 1 (zero-lt-suc 0) (pow_exact binary64 (suc p) r) h.finite k.finite
    (rw (two-pow-succ p) (total (num x) (num y) (den x) (den y) (2 ^ p) (2 ^ p) h.size k.size))

pub neg_below : (x : Float) (p : ℕ) → Below p x → Below p (neg x)
neg_below x p h = neg_most x (2 ^ p) 1 h

pub sub_below : (x y : Float) (p : ℕ) → p < 1023 → Below p x → Below p y → Below (suc p) (x ⊖ y)
unfolding sub
sub_below x y p r h k = add_below x (neg y) p r h (neg_below y p k)

-- ---- the quotient
pub above_num : (y : Float) (s : ℕ) → Above s y → 0 < num y
above_num y s k = first_pos (num y) (2 ^ s) (lt_of_lt_of_le (den_pos y) (rw (one-mul (den y)) at k.size))

ratio : (nx dx ny dy a c : ℕ) → nx * 1 ≤ a * dx → 1 * dy ≤ ny * c → nx * dy * 1 ≤ a * c * (ny * dx)
ratio nx dx ny dy a c h k =
    rw (mul-one (nx * dy))
    (le_trans (mul-le-mul (rw (mul-one nx) at h) (rw (one-mul dy) at k)) (le_of_eq (simp (mul_assoc, mul_comm, mul_left_comm))))

pub div_below : (x y : Float) (p s : ℕ) → p + s ≤ 1023 → Below p x → Above s y → Below (p + s) (x ⊘ y)
div_below x y p s r h k =
    div_most binary64 x y (2 ^ (p + s)) 1 (zero-lt-suc 0) (pow_exact binary64 (p + s) r) h.finite k.finite (above_num y s k)
    (rw (pow-add 2 p s) (ratio (num x) (den x) (num y) (den y) (2 ^ p) (2 ^ s) h.size k.size))

-- ---- by the larger of two bounds
pub add_max : (x y : Float) (p q : ℕ) → max p q < 1023 → Below p x → Below q y → Below (suc (max p q)) (x ⊕ y)
add_max x y p q l h k = add_below x y (max p q) l (weaker x p (max p q) (le-max_left p q) h) (weaker y q (max p q) (le-max_right p q) k)

pub sub_max : (x y : Float) (p q : ℕ) → max p q < 1023 → Below p x → Below q y → Below (suc (max p q)) (x ⊖ y)
sub_max x y p q l h k = sub_below x y (max p q) l (weaker x p (max p q) (le-max_left p q) h) (weaker y q (max p q) (le-max_right p q) k)

-- ---- abs, min, max
pub abs_below : (x : Float) (p : ℕ) → Below p x → Below p (abs_of x)
unfolding abs_of
abs_below nan p h = absurd h.finite
abs_below (inf s) p h = absurd h.finite
abs_below (fin s m e) p h = record { finite = tt; size = h.size }

cond_below : (b : Bool) (x y : Float) (p : ℕ) → Below p x → Below p y → Below p (cond b x y)
cond_below true x y p h k = h
cond_below false x y p h k = k

pub min_below : (x y : Float) (p : ℕ) → Below p x → Below p y → Below p (min_of x y)
min_below x y p h k = cond_below (ne x x) y (cond (lt y x) y x) p k (cond_below (lt y x) y x p k h)

pub max_below : (x y : Float) (p : ℕ) → Below p x → Below p y → Below p (max_of x y)
max_below x y p h k = cond_below (ne x x) y (cond (lt x y) y x) p k (cond_below (lt x y) y x p k h)

-- ---- n terms of 2^p at most, added up from 0
pub sum_step : (x y : Float) (n p : ℕ) → suc n < 2 ^ 53 → p ≤ 970 → AtMost (n * 2 ^ p) 1 x → Below p y → AtMost (suc n * 2 ^ p) 1 (x ⊕ y)
sum_step x y n p r l h k =
    add_most binary64 x y (suc n * 2 ^ p) 1 (zero-lt-suc 0) (count_exact (suc n) p r l) h.finite k.finite
    (rw (suc-mul n (2 ^ p)) (total (num x) (num y) (den x) (den y) (n * 2 ^ p) (2 ^ p) h.size k.size))

-- ---- the product of two that are not small
grown : (nx ny dx dy a c : ℕ) → 1 * dx ≤ nx * a → 1 * dy ≤ ny * c → 1 * (dx * dy) ≤ nx * ny * (a * c)
grown nx ny dx dy a c h k = rw (one-mul (dx * dy))
    (le_trans (mul-le-mul (rw (one-mul dx) at h) (rw (one-mul dy) at k)) (le_of_eq (mul-mul-mul_comm nx a ny c)))

pub mul_above : (x y : Float) (s t : ℕ) → s + t ≤ 1074 → Above s x → Above t y → T (finite (x ⊗ y)) → Above (s + t) (x ⊗ y)
mul_above x y s t r h k i =
    mul_least binary64 x y 1 (2 ^ (s + t)) (pow_pos (s + t)) (small_exact binary64 (s + t) r) h.finite k.finite i
    (rw (pow-add 2 s t) (grown (num x) (num y) (den x) (den y) (2 ^ s) (2 ^ t) h.size k.size))

-- ---- the sum of what is above 0 and what is not below 0: no smaller, and above 0
not_negative : (y : Float) → T (finite y) → lt y (bits 0) ≡ false → (minus y ≡ false) ⊎ (num y ≡ 0)
unfolding lt
not_negative nan i h = absurd i
not_negative (inf s) i h = absurd i
not_negative (fin false m e) i h = inl refl
not_negative (fin true m e) i h =
    let k = nltb→le 0 (m * up e * 1 + 0 * 1 * down e)
    (is_not (ltb 0 (m * up e * 1 + 0 * 1 * down e)) (sym (ap (lt (fin true m e)) zero_is) ∙ h)) in
    inr (omega arith)
  where
    is_not : (b : Bool) → b ≡ false → T (not b)
    is_not true e = absurd (true≢false e)
    is_not false e = tt

-- then a sum with it is no smaller
no_less : (t : Bool) (a b : ℕ) (u : Bool) (c : ℕ) → (t ≡ false) ⊎ (b ≡ 0) → Adds false a t b u c → a ≤ c
no_less false a b false c z h = omega arith
no_less false a b true c z h = omega arith
no_less true a b false c (inl e) h = absurd (true≢false e)
no_less true a b true c (inl e) h = absurd (true≢false e)
no_less true a b false c (inr e) h = omega arith
no_less true a b true c (inr e) h = omega arith

pub add_above : (x y : Float) (s : ℕ) → s ≤ 1074 → minus x ≡ false → Above s x → T (finite y) → lt y (bits 0) ≡ false → T (finite (x ⊕ y))
    → Above s (x ⊕ y)
add_above x y s r p h j n i =
    let w = add_is binary64 x y h.finite j in
    let z : (minus y ≡ false) ⊎ (num y * den x ≡ 0) = elim (not_negative y j n)
    [ inl e ↦ inl e | inr e ↦ inr (ap (λ (k : ℕ). k * den x) e ∙ zero-mul (den x)) ] in
    let l : num x * den y ≤ w.size = no_less (minus y) (num x * den y) (num y * den x) w.sign w.size z
    (subst (λ (b : Bool). Adds b (num x * den y) (minus y) (num y * den x) w.sign w.size) p w.adds) in
    subst (λ (v : Float). AtLeast 1 (2 ^ s) v) (sym w.is)
    (round_least binary64 w.sign w.size (den x * den y) 1 (2 ^ s) (mul-pos (den_pos x) (den_pos y)) (pow_pos s)
    (small_exact binary64 s r) (subst (λ (v : Float). T (finite v)) w.is i)
    (rw (one-mul (den x * den y))
    (le_trans (mul-le-mul_right (den y) (rw (one-mul (den x)) at h.size))
    (le_trans (le_of_eq (mul_right_comm (num x) (2 ^ s) (den y))) (mul-le-mul_right (2 ^ s) l)))))

-- and of sign plus
same_sign : (t : Bool) (a b : ℕ) (u : Bool) (c : ℕ) → 0 < a → (t ≡ false) ⊎ (b ≡ 0) → Adds false a t b u c → u ≡ false
same_sign t a b false c A z h = refl
same_sign false a b true c A z h = absurd (let v : ⊥ = omega arith in v)
same_sign true a b true c A (inl e) h = absurd (true≢false e)
same_sign true a b true c A (inr e) h = absurd (let v : ⊥ = omega arith in v)

pub add_plus : (x y : Float) (s : ℕ) → minus x ≡ false → Above s x → T (finite y) → lt y (bits 0) ≡ false → T (finite (x ⊕ y))
    → minus (x ⊕ y) ≡ false
add_plus x y s p h j n i =
    let w = add_is binary64 x y h.finite j in
    let z : (minus y ≡ false) ⊎ (num y * den x ≡ 0) = elim (not_negative y j n)
    [ inl e ↦ inl e | inr e ↦ inr (ap (λ (k : ℕ). k * den x) e ∙ zero-mul (den x)) ] in
    let u : w.sign ≡ false = same_sign (minus y) (num x * den y) (num y * den x) w.sign w.size
    (mul-pos (above_num x s h) (den_pos y)) z
    (subst (λ (b : Bool). Adds b (num x * den y) (minus y) (num y * den x) w.sign w.size) p w.adds) in
    ap minus (w.is ∙ ap (λ (b : Bool). round binary64 b w.size (den x * den y)) u) ∙ round_minus binary64 w.size (den x * den y)

pub positive_of : (x : Float) (s : ℕ) → minus x ≡ false → Above s x → T (positive x)
positive_of nan s p h = absurd h.finite
positive_of (inf t) s p h = absurd h.finite
positive_of (fin true m e) s p h = absurd (true≢false p)
positive_of (fin false m e) s p h = lt→ltb 0 m (first_pos m (up e) (above_num (fin false m e) s h))
