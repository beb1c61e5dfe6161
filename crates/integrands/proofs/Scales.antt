-- The scale of a planform within its limits, root chord plus span, lies between 2^-20 and 2^7. Assumes nothing.
use mathlib.Core.List.{List}
use lib.Dec.{T, lit≤}
use lib.Ieee.{Float}
use lib.Ieee.Positive.{positive}
use Rattle.floats.specs.Operations.{◌⊕◌}
use Rattle.rounding.specs.Sizes.{Below, Above}
use Rattle.rounding.proofs.Sizes.{add_below, add_above, add_plus, positive_of}
use Rattle.planforms.specs.Planforms.{root_chord_of, span_of}
use Rattle.planforms.specs.declared.Planform.{Planform}
use Rattle.planforms.proofs.Sized.{Sized, root_sized, span_sized}
use Rattle.integrands.specs.Integrands.{scale_of}

pub record Scale (x : Float) : Type 0 where
  pub below : Below 7 x
  pub above : Above 20 x
  pub is_positive : T (positive x)

pub scale_sized : (planform : Planform) (points : List Float) → Sized planform points → Scale (scale_of planform points)
unfolding scale_of
scale_sized planform points s =
    let root = root_chord_of planform points in
    let span = span_of planform points in
    let r = root_sized planform points s in
    let h = span_sized planform points s in
    let b = add_below root span 6 (lit≤ tt) r.length.below h.below in
    let a = add_above root span 20 (lit≤ tt) r.not_minus r.above h.below.finite h.not_under b.finite in
    record {
      below = b;
      above = a;
      is_positive = positive_of (root ⊕ span) 20
          (add_plus root span 20 r.not_minus r.above h.below.finite h.not_under b.finite) a;
    }
