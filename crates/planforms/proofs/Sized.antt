-- How large the lengths of a planform are that passed its checks, and so its root chord and its span. Assumes nothing.
use mathlib.Core.Path.{◌≡◌, refl}
use mathlib.Core.List.{List}
use mathlib.Core.Bool.{Bool, true, false, cond}
use Prim.Native.Nat.{ℕ, zero, suc, ◌<◌}
use native.Mathlib.Nat.{le_refl, le_trans, le-suc}
use lib.Dec.{T, lit≤}
use lib.Ieee.{Float, binary64, fits, lt, ne, of_bits}
use Rattle.floats.specs.Operations.{bits, at}
use Rattle.floats.specs.Floats.{max_of}
use Rattle.rounding.specs.Sizes.{Below}
use Rattle.rounding.proofs.Signs.{finite_plus, plus_not_below_zero}
use Rattle.rounding.proofs.Sizes.{zero_below, max_below, weaker}
use Rattle.limits.proofs.Lengths.{Length, Height, PositiveLength}
use Rattle.planforms.specs.Planforms.{x_at, height_at, pair_count, last_x, largest_height, root_chord_of, span_of}
use Rattle.planforms.specs.declared.Planform.{Planform}
use Rattle.planforms.specs.declared.Planform.TheVariants.{Trapezoid, Ellipse, Outline}

-- the numbers are f64s, as every number is that the program holds
abbrev pub PlanformF64 : Planform → List Float → Type 0
PlanformF64 (Trapezoid root tip span sweep) points = T (fits binary64 root)
    × (T (fits binary64 tip) × (T (fits binary64 span) × T (fits binary64 sweep)))
PlanformF64 (Ellipse root span) points = T (fits binary64 root) × T (fits binary64 span)
PlanformF64 Outline points = (i : ℕ) → T (fits binary64 (at points i))

-- the lengths are within their limits
abbrev pub Sized : Planform → List Float → Type 0
Sized (Trapezoid root tip span sweep) points = PositiveLength root × (Length tip × (PositiveLength span × Length sweep))
Sized (Ellipse root span) points = PositiveLength root × PositiveLength span
Sized Outline points = ((i : ℕ) → i < pair_count points → Length (x_at points i) × Height (height_at points i))
    × PositiveLength (last_x points (pair_count points))

pub root_sized : (planform : Planform) (points : List Float) → Sized planform points → PositiveLength (root_chord_of planform points)
unfolding root_chord_of
root_sized (Trapezoid root tip span sweep) points s = s.0
root_sized (Ellipse root span) points s = s.0
root_sized Outline points s = s.1

-- ---- the span: at most 2^6, and not below 0
pub record Span (x : Float) : Type 0 where
  pub below : Below 6 x
  pub not_under : lt x (bits 0) ≡ false

zero_span : Span (bits 0)
unfolding lt of_bits
zero_span = record { below = weaker (bits 0) 0 6 (lit≤ tt) zero_below; not_under = refl }

max_span : (x y : Float) → Span x → Span y → Span (max_of x y)
max_span x y h k = record { below = max_below x y 6 h.below k.below; not_under = go (ne x x) (lt x y) }
  where
    go : (p q : Bool) → lt (cond p y (cond q y x)) (bits 0) ≡ false
    go true q = k.not_under
    go false true = k.not_under
    go false false = h.not_under

largest : (points : List Float) (n : ℕ) → ((i : ℕ) → i < n → Length (x_at points i) × Height (height_at points i))
    → Span (largest_height points n)
unfolding largest_height
largest points zero p = zero_span
largest points (suc n) p =
    max_span (largest_height points n) (height_at points n) (largest points n (λ i l. p i (le_trans l (le-suc n))))
    (let y = (p n (le_refl (suc n))).1 in record { below = y.length.below; not_under = y.not_under })

span_above : (x : Float) → PositiveLength x → Span x
span_above x l = record { below = l.length.below; not_under = plus_not_below_zero x (finite_plus x l.above.finite l.not_minus) }

pub span_sized : (planform : Planform) (points : List Float) → Sized planform points → Span (span_of planform points)
unfolding span_of
span_sized (Trapezoid root tip span sweep) points s = span_above span s.1.1.0
span_sized (Ellipse root span) points s = span_above span s.1
span_sized Outline points s = largest points (pair_count points) s.0
