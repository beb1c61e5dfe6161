-- The checks of a ring of tubes: what the tubes stand on, and then the tubes. Assumes nothing.
use mathlib.Core.Path.{◌≡◌, sym}
use mathlib.Core.List.{[], ◌∷◌}
use lib.Ieee.{Float, lt}
use Rattle.refusals.specs.declared.Refusal.TheVariants.{WallOverRadius}
use Rattle.refusals.specs.Order.{refuse_when, first_refusal, first_of}
use Rattle.refusals.proofs.Order.{in_two}
use Rattle.limits.specs.Limits.{tube_length_field, outer_radius_field, length_check}
use Rattle.tubes.specs.declared.TubeFinSet.{TubeFinSet}
use Rattle.tubes.specs.Tubes.{wall_check, mount_checks, mount_check, tube_check}

pub tube_check_by_group : (set : TubeFinSet) (radius : Float) → tube_check set radius
    ≡ first_refusal (mount_check set radius)
    (first_of
    (length_check tube_length_field set.length_m
    ∷ length_check outer_radius_field set.outer_radius_m
    ∷ wall_check set.thickness_m
    ∷ refuse_when (lt set.outer_radius_m set.thickness_m) WallOverRadius
    ∷ []))
unfolding mount_check tube_check
tube_check_by_group set radius =
    sym
    (in_two (mount_checks set radius)
    (length_check tube_length_field set.length_m
    ∷ length_check outer_radius_field set.outer_radius_m
    ∷ wall_check set.thickness_m
    ∷ refuse_when (lt set.outer_radius_m set.thickness_m) WallOverRadius
    ∷ []))
