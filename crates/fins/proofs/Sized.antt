-- The lengths of an accepted planform are within their limits. Assumes nothing.
use Rattle.std.specs.Prelude.{Ok}
use mathlib.Core.Path.{◌≡◌, refl}
use mathlib.Core.List.{List}
use lib.Ieee.{Float}
use Rattle.refusals.proofs.Accepted.{both}
use Rattle.limits.specs.Limits.{root_chord_field, tip_chord_field, span_field, sweep_field, length_check}
use Rattle.limits.proofs.Lengths.{length_checked, field_above}
use Rattle.planforms.specs.declared.Planform.{Planform}
use Rattle.planforms.specs.declared.Planform.TheVariants.{Trapezoid, Ellipse, Outline}
use Rattle.planforms.proofs.Sized.{PlanformF64, Sized}
use Rattle.outlines.proofs.Sized.{outline_sized}
use Rattle.outlines.specs.Outlines.{planform_check}

pub planform_sized : (planform : Planform) (points : List Float) → PlanformF64 planform points → planform_check planform points ≡ Ok tt
    → Sized planform points
unfolding planform_check
planform_sized (Trapezoid root tip span sweep) points f h =
    let a = both (length_check root_chord_field root) _ h in
    let b = both (length_check tip_chord_field tip) _ a.1 in
    let c = both (length_check span_field span) _ b.1 in
    let d = both (length_check sweep_field sweep) _ c.1 in (
      field_above root_chord_field root f.0 a.0 refl refl,
      (
        length_checked tip_chord_field tip f.1.0 b.0,
        (field_above span_field span f.1.1.0 c.0 refl refl, length_checked sweep_field sweep f.1.1.1 d.0),
      ),
    )
planform_sized (Ellipse root span) points f h =
    let a = both (length_check root_chord_field root) _ h in
    let b = both (length_check span_field span) _ a.1 in
    (field_above root_chord_field root f.0 a.0 refl refl, field_above span_field span f.1 b.0 refl refl)
planform_sized Outline points f h = outline_sized points f h
