-- The chord at the span of every planform that passes its check: an accepted span, and an ellipse's root chord, are positive, and
-- chords/proofs/Tip says the rest. `fits binary64 x`: x is an f64. Assumes nothing.
use Rattle.std.specs.Prelude.{Ok}
use mathlib.Core.Path.{◌≡◌, refl, ap}
use mathlib.Core.List.{List, [], ◌∷◌}
use lib.Dec.{T}
use lib.Ieee.{Float, binary64, fits}
use Rattle.floats.specs.Operations.{◌⊕◌, ◌⊖◌, ◌⊗◌}
use Rattle.floats.specs.Constants.{half}
use Rattle.refusals.proofs.Accepted.{both}
use Rattle.limits.specs.Limits.{root_chord_field, span_field}
use Rattle.limits.proofs.Accepted.{length_positive}
use Rattle.planforms.specs.declared.Planform.TheVariants.{Trapezoid, Ellipse}
use Rattle.outlines.specs.Outlines.{planform_check}
use Rattle.chords.specs.Chords.{paired, chords_at}
use Rattle.chords.proofs.Tip.{trapezoid_tip, ellipse_tip}

-- the tip chord: from the sweep to (sweep + root) + (tip − root), as the formulas round
pub trapezoid_tip_chord : (root tip span sweep : Float) (points : List Float) → T (fits binary64 sweep)
    → planform_check (Trapezoid root tip span sweep) points ≡ Ok tt
    → chords_at (Trapezoid root tip span sweep) points span ≡ (sweep, sweep ⊕ root ⊕ (tip ⊖ root)) ∷ []
unfolding planform_check paired
trapezoid_tip_chord root tip span sweep points f h =
    let of_span = (both _ _ (both _ _ (both _ _ h).1).1).0 in
    ap paired (trapezoid_tip root tip span sweep points (length_positive span_field span refl refl of_span) f)

-- one of no width, at half the root chord
pub ellipse_tip_chord : (root span : Float) (points : List Float) → T (fits binary64 root)
    → planform_check (Ellipse root span) points ≡ Ok tt → chords_at (Ellipse root span) points span ≡ (half ⊗ root, half ⊗ root) ∷ []
unfolding planform_check paired
ellipse_tip_chord root span points f h =
    let of_span = (both _ _ (both _ _ h).1).0 in
    ap paired (ellipse_tip root span points (length_positive span_field span refl refl of_span)
    (length_positive root_chord_field root refl refl (both _ _ h).0) f)
