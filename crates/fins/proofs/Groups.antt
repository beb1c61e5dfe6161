-- The checks of a set, group by group. Assumes nothing.
use mathlib.Core.Path.{◌≡◌, sym, ap, ◌∙◌}
use mathlib.Core.List.{List, ◌++◌}
use lib.Ieee.{Float}
use Rattle.refusals.specs.Order.{first_refusal, first_of}
use Rattle.refusals.proofs.Order.{in_two}
use Rattle.planforms.specs.Planforms.{root_chord_of}
use Rattle.fins.specs.declared.FinSet.{FinSet}
use Rattle.limits.specs.Limits.{count_check}
use Rattle.outlines.specs.Outlines.{planform_check}
use Rattle.fins.specs.Fins.{plate_checks, mount_checks, fillet_checks, own_check}

pub own_check_by_group : (set : FinSet) (points : List Float) →
    let root = root_chord_of set.planform points in
    own_check set points
    ≡ first_refusal (count_check set.count)
    (first_refusal (planform_check set.planform points)
    (first_refusal (first_of (plate_checks root set.thickness_m set.cant_rad set.base_angle_rad))
    (first_refusal (first_of (mount_checks set.tab set.fillet.radius_m root set.body_radius_m set.density))
    (first_of (fillet_checks set.fillet set.body_radius_m)))))
unfolding own_check
own_check_by_group set points =
    let root = root_chord_of set.planform points in
    let plate = plate_checks root set.thickness_m set.cant_rad set.base_angle_rad in
    let mount = mount_checks set.tab set.fillet.radius_m root set.body_radius_m set.density in
    let glue = fillet_checks set.fillet set.body_radius_m in
    sym (ap (λ v. first_refusal (count_check set.count) (first_refusal (planform_check set.planform points) v))
    (ap (first_refusal (first_of plate)) (in_two mount glue) ∙ in_two plate (mount ++ glue)))
