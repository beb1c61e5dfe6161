-- Sums of f64s of sign plus: how small they can be, and the sign of a product and of a quotient. Assumes nothing.
use mathlib.Core.Path.{◌≡◌, refl, sym, ap, ap₂, subst, ◌∙◌}
use mathlib.Core.Bool.{Bool, true, false}
use Prim.Native.Nat.{ℕ, ◌+◌, ◌*◌, ◌≤◌, ◌<◌}
use native.Mathlib.Nat.{le_trans, mul-le-mul_right, mul-pos, one-mul, mul-one}
use native.Mathlib.Omega.{arith}
use lib.Dec.{T, lit≤}
use lib.Ieee.{Float, binary64, unlike, round, lt, of_bits}
use lib.Ieee.Scale.{finite}
use lib.Ieee.Positive.{num, den, den_pos}
use Rattle.floats.specs.Operations.{◌⊕◌, ◌⊗◌, ◌⊘◌, bits}
use Rattle.floats.specs.Constants.{one}
use Rattle.rounding.specs.Sizes.{AtLeast, Below, Above}
use Rattle.rounding.proofs.Signs.{minus, finite_plus, plus_not_below_zero, round_minus}
use Rattle.rounding.proofs.Signed.{Adds}
use Rattle.rounding.proofs.Exact.{Exact}
use Rattle.rounding.proofs.Rounding.{round_least}
use Rattle.rounding.proofs.Operations.{add_is, mul_is, div_is}

-- ---- 1
pub one_below : Below 0 one
unfolding of_bits
one_below = record { finite = tt; size = lit≤ tt }

pub one_above : Above 0 one
unfolding of_bits
one_above = record { finite = tt; size = lit≤ tt }

pub one_minus : minus one ≡ false
unfolding of_bits
one_minus = refl

one_num : num one ≡ 1
unfolding of_bits
one_num = refl

one_den : den one ≡ 1
unfolding of_bits
one_den = refl

-- ---- signs
pub not_negative : (x : Float) → T (finite x) → minus x ≡ false → lt x (bits 0) ≡ false
not_negative x i m = plus_not_below_zero x (finite_plus x i m)

pub mul_minus : (x y : Float) → T (finite x) → T (finite y) → minus x ≡ false → minus y ≡ false → minus (x ⊗ y) ≡ false
mul_minus x y i j m n =
    ap minus (mul_is binary64 x y i j ∙ ap (λ (b : Bool). round binary64 b (num x * num y) (den x * den y)) (ap₂ unlike m n))
    ∙ round_minus binary64 (num x * num y) (den x * den y)

pub div_minus : (x y : Float) → T (finite x) → T (finite y) → 0 < num y → minus x ≡ false → minus y ≡ false → minus (x ⊘ y) ≡ false
div_minus x y i j k m n =
    ap minus (div_is binary64 x y i j k ∙ ap (λ (b : Bool). round binary64 b (num x * den y) (num y * den x)) (ap₂ unlike m n))
    ∙ round_minus binary64 (num x * den y) (num y * den x)

-- ---- sums
all_of : (a b : ℕ) (u : Bool) (c : ℕ) → Adds false a false b u c → a + b ≤ c
all_of a b false c h = omega arith
all_of a b true c h = omega arith

sum_least : (x y : Float) (b d : ℕ) → 0 < d → Exact binary64 b d → T (finite x) → T (finite y) → minus x ≡ false → minus y ≡ false
    → T (finite (x ⊕ y))
    → b * (den x * den y) ≤ (num x * den y + num y * den x) * d → AtLeast b d (x ⊕ y)
sum_least x y b d D v i j m n k h =
    let w = add_is binary64 x y i j in
    let l = all_of (num x * den y) (num y * den x) w.sign w.size
    (subst (λ (t : Bool). Adds false (num x * den y) t (num y * den x) w.sign w.size) n
    (subst (λ (s : Bool). Adds s (num x * den y) (minus y) (num y * den x) w.sign w.size) m w.adds)) in
    subst (AtLeast b d) (sym w.is)
    (round_least binary64 w.sign w.size (den x * den y) b d (mul-pos (den_pos x) (den_pos y)) D v
    (subst (λ (z : Float). T (finite z)) w.is k)
    (le_trans h (mul-le-mul_right d l)))

-- 1 and something of at least b are at least b; and at least 2, where it is at least 1
behind_one : (b n d : ℕ) → b * d ≤ n * 1 → b * (1 * d) ≤ (1 * d + n * 1) * 1
behind_one b n d h = rw (one-mul d, mul-one n, mul-one (d + n)) (let k : b * d ≤ n = rw (mul-one n) at h in omega arith)

pub one_plus_least : (y : Float) (b : ℕ) → Exact binary64 b 1 → minus y ≡ false → AtLeast b 1 y → T (finite (one ⊕ y))
    → AtLeast b 1 (one ⊕ y)
one_plus_least y b v n h k =
    sum_least one y b 1 (lit≤ tt) v one_below.finite h.finite one_minus n k
    (rw (one_num, one_den) (behind_one b (num y) (den y) h.size))

pub one_plus_one : (y : Float) → Exact binary64 2 1 → minus y ≡ false → AtLeast 1 1 y → T (finite (one ⊕ y)) → AtLeast 2 1 (one ⊕ y)
one_plus_one y v n h k =
    sum_least one y 2 1 (lit≤ tt) v one_below.finite h.finite one_minus n k (rw (one_num, one_den) (let l = h.size in omega arith))
