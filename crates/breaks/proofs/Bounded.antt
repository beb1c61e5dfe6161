-- The break heights of a planform within its limits are at most 2^6 and strictly rise. Assumes nothing.
use mathlib.Core.List.{List, [], ◌∷◌}
use mathlib.Core.Bool.{Bool, true, false, cond}
use Prim.Native.Nat.{ℕ, zero, suc, ◌<◌}
use native.Mathlib.Nat.{le_refl, le_trans, le-suc}
use lib.Dec.{leb, lit≤}
use lib.Ieee.{Float}
use Rattle.floats.specs.Operations.{bits}
use Rattle.rounding.specs.Sizes.{Below}
use Rattle.rounding.proofs.Signs.{finite_no_nan}
use Rattle.rounding.proofs.Sizes.{zero_below, weaker}
use Rattle.sorting.specs.Sorted.{Each, sorted, Rising, NoNan}
use Rattle.sorting.proofs.Sorted.{sorted_each}
use Rattle.limits.specs.Limits.{most_points}
use Rattle.limits.proofs.Lengths.{Length, Height}
use Rattle.planforms.specs.Planforms.{x_at, height_at, pair_count}
use Rattle.planforms.specs.declared.Planform.{Planform}
use Rattle.planforms.specs.declared.Planform.TheVariants.{Trapezoid, Ellipse, Outline}
use Rattle.planforms.proofs.Sized.{Sized, span_sized}
use Rattle.breaks.specs.Breaks.{heights, every_y, all_heights, break_heights}
use Rattle.breaks.proofs.Strips.{once_each, break_heights_rise}

heights_bounded : (points : List Float) (n : ℕ) → ((i : ℕ) → i < n → Length (x_at points i) × Height (height_at points i))
    → Each (Below 6) (heights points n)
unfolding heights
heights_bounded points zero p = tt
heights_bounded points (suc n) p = ((p n (le_refl (suc n))).1.length.below, heights_bounded points n (λ i l. p i (le_trans l (le-suc n))))

every_y_lem : (planform : Planform) (points : List Float) → Sized planform points → Each (Below 6) (every_y planform points)
unfolding every_y
every_y_lem (Trapezoid root tip span sweep) points s = tt
every_y_lem (Ellipse root span) points s = tt
every_y_lem Outline points s = go (leb (pair_count points) most_points)
  where
    go : (b : Bool) → Each (Below 6) (cond b (heights points (pair_count points)) [])
    go true = heights_bounded points (pair_count points) s.0
    go false = tt

all_bounded : (planform : Planform) (points : List Float) → Sized planform points → Each (Below 6) (all_heights planform points)
all_bounded planform points s =
    (weaker (bits 0) 0 6 (lit≤ tt) zero_below, ((span_sized planform points s).below, every_y_lem planform points s))

none_nan : (l : List Float) → Each (Below 6) l → NoNan l
unfolding NoNan
none_nan [] b = tt
none_nan (x ∷ l) b = (finite_no_nan x b.0.finite, none_nan l b.1)

pub breaks_bounded : (planform : Planform) (points : List Float) → Sized planform points → Each (Below 6) (break_heights planform points)
unfolding break_heights
breaks_bounded planform points s =
    let l = all_heights planform points in
    once_each (Below 6) (sorted l) (sorted_each (Below 6) l (all_bounded planform points s))

pub breaks_rise : (planform : Planform) (points : List Float) → Sized planform points → Rising (break_heights planform points)
breaks_rise planform points s = break_heights_rise planform points (none_nan (all_heights planform points) (all_bounded planform points s))
