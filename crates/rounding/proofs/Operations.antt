-- What each operation rounds, as a fraction with a sign; so what bounds the exact result, and is a value of the format, bounds the rounded
-- one. Assumes nothing.
use mathlib.Core.Path.{◌≡◌, refl, sym, subst}
use mathlib.Core.Bool.{Bool, true, false, not, cond}
use Prim.Native.Nat.{ℕ, ◌+◌, ◌-◌, ◌*◌, ◌≤◌, ◌<◌}
use native.Mathlib.Nat.{le_trans, lt_irrefl, mul-le-mul_right, mul-pos}
use native.Mathlib.Omega.{arith}
use lib.Dec.{T, ltb, eqb, eqb→eq, ltb→lt, nltb→le}
use lib.Ieee.{Float, nan, inf, fin, Format, up, down, unlike, round, neg, sum, add, mul, div}
use lib.Ieee.Scale.{finite}
use lib.Ieee.Positive.{num, den, den_pos, first_pos}
use Rattle.rounding.specs.Sizes.{AtMost, AtLeast}
use Rattle.rounding.proofs.Signs.{minus, neg_num, neg_den, neg_finite}
use Rattle.rounding.proofs.Signed.{Adds, adds_most}
use Rattle.rounding.proofs.Exact.{Exact}
use Rattle.rounding.proofs.Rounding.{round_most, round_least}

-- ---- minus
pub neg_most : (x : Float) (b d : ℕ) → AtMost b d x → AtMost b d (neg x)
neg_most x b d h = record { finite = rw (neg_finite x) h.finite; size = rw (neg_num x, neg_den x) h.size }

pub neg_least : (x : Float) (b d : ℕ) → AtLeast b d x → AtLeast b d (neg x)
neg_least x b d h = record { finite = rw (neg_finite x) h.finite; size = rw (neg_num x, neg_den x) h.size }

-- ---- the product
pub mul_is : (f : Format) (x y : Float) → T (finite x) → T (finite y)
    → mul f x y ≡ round f (unlike (minus x) (minus y)) (num x * num y) (den x * den y)
unfolding mul
mul_is f nan y i j = absurd i
mul_is f (inf s) y i j = absurd i
mul_is f (fin s m e) nan i j = absurd j
mul_is f (fin s m e) (inf t) i j = absurd j
mul_is f (fin s m e) (fin t n d) i j = refl

pub mul_most : (f : Format) (x y : Float) (b d : ℕ) → 0 < d → Exact f b d → T (finite x) → T (finite y)
    → num x * num y * d ≤ b * (den x * den y) → AtMost b d (mul f x y)
mul_most f x y b d D v i j h =
    subst (AtMost b d) (sym (mul_is f x y i j))
    (round_most f (unlike (minus x) (minus y)) (num x * num y) (den x * den y) b d (mul-pos (den_pos x) (den_pos y)) D v h)

pub mul_least : (f : Format) (x y : Float) (b d : ℕ) → 0 < d → Exact f b d → T (finite x) → T (finite y) → T (finite (mul f x y))
    → b * (den x * den y) ≤ num x * num y * d → AtLeast b d (mul f x y)
mul_least f x y b d D v i j k h =
    let e = mul_is f x y i j in
    subst (AtLeast b d) (sym e)
    (round_least f (unlike (minus x) (minus y)) (num x * num y) (den x * den y) b d (mul-pos (den_pos x) (den_pos y)) D v
    (subst (λ (z : Float). T (finite z)) e k) h)

-- ---- the sum: ±size over c
pub record Total (f : Format) (s : Bool) (a : ℕ) (t : Bool) (b c : ℕ) (x : Float) : Type 0 where
  pub sign : Bool
  pub size : ℕ
  pub is : x ≡ round f sign size c
  pub adds : Adds s a t b sign size

sum_is : (f : Format) (s : Bool) (a : ℕ) (t : Bool) (b c : ℕ) → Total f s a t b c (sum f s a t b c)
unfolding sum
sum_is f false a false b c = record { sign = false; size = a + b; is = refl; adds = omega arith }
sum_is f true a true b c = record { sign = true; size = a + b; is = refl; adds = omega arith }
sum_is f false a true b c = go (ltb a b) (ltb→lt a b) (nltb→le a b)
  where
    go : (x : Bool) → (T x → a < b) → (T (not x) → b ≤ a)
        → Total f false a true b c (cond x (round f true (b - a) c) (round f false (a - b) c))
    go true p q = let h = p tt in record { sign = true; size = b - a; is = refl; adds = omega arith }
    go false p q = let h = q tt in record { sign = false; size = a - b; is = refl; adds = omega arith }
sum_is f true a false b c = go (ltb a b) (ltb b a) (ltb→lt a b) (nltb→le a b) (nltb→le b a)
  where
    go : (x y : Bool) → (T x → a < b) → (T (not x) → b ≤ a) → (T (not y) → a ≤ b)
        → Total f true a false b c (cond x (round f false (b - a) c) (round f y (a - b) c))
    go true y p q r = let h = p tt in record { sign = false; size = b - a; is = refl; adds = omega arith }
    go false true p q r = let h = q tt in record { sign = true; size = a - b; is = refl; adds = omega arith }
    go false false p q r = let h = q tt in let k = r tt in record { sign = false; size = a - b; is = refl; adds = omega arith }

pub add_is : (f : Format) (x y : Float) → T (finite x) → T (finite y)
    → Total f (minus x) (num x * den y) (minus y) (num y * den x) (den x * den y) (add f x y)
unfolding add
add_is f nan y i j = absurd i
add_is f (inf s) y i j = absurd i
add_is f (fin s m e) nan i j = absurd j
add_is f (fin s m e) (inf t) i j = absurd j
add_is f (fin s m e) (fin t n d) i j = sum_is f s (m * up e * down d) t (n * up d * down e) (down e * down d)

pub add_most : (f : Format) (x y : Float) (b d : ℕ) → 0 < d → Exact f b d → T (finite x) → T (finite y)
    → (num x * den y + num y * den x) * d ≤ b * (den x * den y) → AtMost b d (add f x y)
add_most f x y b d D v i j h =
    let w = add_is f x y i j in
    subst (AtMost b d) (sym w.is)
    (round_most f w.sign w.size (den x * den y) b d (mul-pos (den_pos x) (den_pos y)) D v
    (le_trans (mul-le-mul_right d (adds_most (minus x) (num x * den y) (minus y) (num y * den x) w.sign w.size w.adds)) h))

-- ---- the quotient by what is not 0
pub div_is : (f : Format) (x y : Float) → T (finite x) → T (finite y) → 0 < num y
    → div f x y ≡ round f (unlike (minus x) (minus y)) (num x * den y) (num y * den x)
unfolding div
div_is f nan y i j k = absurd i
div_is f (inf s) y i j k = absurd i
div_is f (fin s m e) nan i j k = absurd j
div_is f (fin s m e) (inf t) i j k = absurd j
div_is f (fin s m e) (fin t n d) i j k = go (eqb n 0) (eqb→eq n 0)
  where
    go : (x : Bool) → (T x → n ≡ 0)
        → cond x (cond (eqb m 0) nan (inf (unlike s t))) (round f (unlike s t) (m * up e * down d) (n * up d * down e))
        ≡ round f (unlike s t) (m * up e * down d) (n * up d * down e)
    go true z = absurd (lt_irrefl 0 (rw (z tt) at (first_pos n (up d) k)))
    go false z = refl

pub div_most : (f : Format) (x y : Float) (b d : ℕ) → 0 < d → Exact f b d → T (finite x) → T (finite y) → 0 < num y
    → num x * den y * d ≤ b * (num y * den x) → AtMost b d (div f x y)
div_most f x y b d D v i j k h =
    subst (AtMost b d) (sym (div_is f x y i j k))
    (round_most f (unlike (minus x) (minus y)) (num x * den y) (num y * den x) b d (mul-pos k (den_pos x)) D v h)
