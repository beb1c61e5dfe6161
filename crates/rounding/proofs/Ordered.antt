-- `<=` of finite f64s is the order of their fractions, and minus turns it round. Assumes nothing.
use mathlib.Core.Path.{◌≡◌, ap, ◌∙◌}
use mathlib.Core.Bool.{true, false}
use Prim.Native.Nat.{ℕ, ◌*◌, ◌≤◌}
use native.Mathlib.Nat.{zero-mul}
use native.Mathlib.Omega.{arith}
use lib.Dec.{T}
use lib.Ieee.{Float, nan, inf, fin, up, down, neg, le}
use lib.Ieee.Scale.{finite}
use lib.Ieee.Positive.{num, den}
use Rattle.rounding.specs.Sizes.{AtMost}
use Rattle.rounding.proofs.Signed.{Leq, leq→le, le→leq}
use Rattle.rounding.proofs.Signs.{minus, plus}

pub order→le : (x y : Float) → T (finite x) → T (finite y) → Leq (minus x) (num x * den y) (minus y) (num y * den x) → T (le x y)
unfolding le
order→le nan y i j h = absurd i
order→le (inf s) y i j h = absurd i
order→le (fin s m e) nan i j h = absurd j
order→le (fin s m e) (inf t) i j h = absurd j
order→le (fin s m e) (fin t n d) i j h = leq→le s (m * up e * down d) t (n * up d * down e) h

pub le→order : (x y : Float) → T (finite x) → T (finite y) → T (le x y) → Leq (minus x) (num x * den y) (minus y) (num y * den x)
unfolding le
le→order nan y i j h = absurd i
le→order (inf s) y i j h = absurd i
le→order (fin s m e) nan i j h = absurd j
le→order (fin s m e) (inf t) i j h = absurd j
le→order (fin s m e) (fin t n d) i j h = le→leq s (m * up e * down d) t (n * up d * down e) h

-- ---- minus
pub neg_le : (x y : Float) → T (plus x) → T (plus y) → T (le y x) → T (le (neg x) (neg y))
unfolding le neg
neg_le nan y p q h = absurd p
neg_le (inf true) y p q h = absurd p
neg_le (inf false) nan p q h = absurd q
neg_le (inf false) (inf true) p q h = absurd q
neg_le (inf false) (inf false) p q h = tt
neg_le (inf false) (fin t n d) p q h = tt
neg_le (fin true m e) y p q h = absurd p
neg_le (fin false m e) nan p q h = absurd q
neg_le (fin false m e) (inf true) p q h = absurd q
neg_le (fin false m e) (inf false) p q h = absurd h
neg_le (fin false m e) (fin true n d) p q h = absurd q
neg_le (fin false m e) (fin false n d) p q h =
    leq→le true (m * up e * down d) true (n * up d * down e)
    (let k = le→leq false (n * up d * down e) false (m * up e * down d) h in omega arith)

pub neg_le_plus : (x y : Float) → T (plus x) → T (plus y) → T (le (neg x) y)
unfolding le neg
neg_le_plus nan y p q = absurd p
neg_le_plus (inf true) y p q = absurd p
neg_le_plus (inf false) nan p q = absurd q
neg_le_plus (inf false) (inf true) p q = absurd q
neg_le_plus (inf false) (inf false) p q = tt
neg_le_plus (inf false) (fin t n d) p q = tt
neg_le_plus (fin true m e) y p q = absurd p
neg_le_plus (fin false m e) nan p q = absurd q
neg_le_plus (fin false m e) (inf true) p q = absurd q
neg_le_plus (fin false m e) (inf false) p q = tt
neg_le_plus (fin false m e) (fin true n d) p q = absurd q
neg_le_plus (fin false m e) (fin false n d) p q = leq→le true (m * up e * down d) false (n * up d * down e) (omega arith)

-- a zero is at most minus a zero
pub zeros : (x y : Float) → T (plus x) → T (plus y) → AtMost 0 1 x → AtMost 0 1 y → T (le x (neg y))
unfolding le neg
zeros nan y p q h k = absurd p
zeros (inf s) y p q h k = absurd h.finite
zeros (fin true m e) y p q h k = absurd p
zeros (fin false m e) nan p q h k = absurd q
zeros (fin false m e) (inf t) p q h k = absurd k.finite
zeros (fin false m e) (fin true n d) p q h k = absurd q
zeros (fin false m e) (fin false n d) p q h k =
    leq→le false (m * up e * down d) true (n * up d * down e)
    (let a = nothing (m * up e) (down e) (down d) h.size in let b = nothing (n * up d) (down d) (down e) k.size in omega arith)
  where
    none : (x z : ℕ) → x * 1 ≤ z → z ≡ 0 → x ≡ 0
    none x z h e = omega arith

    nothing : (x d c : ℕ) → x * 1 ≤ 0 * d → x * c ≡ 0
    nothing x d c h = ap (λ (z : ℕ). z * c) (none x (0 * d) h (zero-mul d)) ∙ zero-mul c
