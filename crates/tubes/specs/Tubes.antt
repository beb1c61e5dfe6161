-- A ring of tubes (document 02, Paper 3; fins.rs, `TubeFinSet::mass_properties`; parts.rs, `hollow_cylinder`).
use Rattle.std.specs.Prelude.{List, [], ◌∷◌, ◌++◌, Float, true, false, Result}
use Rattle.std.specs.Float.Ieee.{neg, lt}
use Rattle.floats.specs.Operations.{◌⊕◌, ◌⊖◌, ◌⊗◌, ◌⊘◌, bits}
use Rattle.floats.specs.Constants.{half, twelve, pi}
use Rattle.bodies.specs.declared.Body.{Body}
use Rattle.bodies.specs.Vectors.{vector}
use Rattle.bodies.specs.Tensors.{diagonal}
use Rattle.bodies.specs.Bodies.{translated_of}
use Rattle.refusals.specs.declared.Refusal.TheVariants.{Length, WallOverRadius}
use Rattle.refusals.specs.declared.Refusal.{Refusal}
use Rattle.refusals.specs.Verdict.{Verdict}
use Rattle.refusals.specs.Results.{unless_refused}
use Rattle.refusals.specs.Order.{refuse_unless, refuse_when, first_of}
use Rattle.limits.specs.Limits.{thickness_field, body_radius_field, base_angle_field, tube_length_field, outer_radius_field}
use Rattle.limits.specs.Limits.{length_within, length_check, angle_check, count_check}
use Rattle.materials.specs.Materials.{density_check}
use Rattle.materials.specs.Numbered.{density_figure}
use Rattle.rings.specs.Rings.{joined_copies}
use Rattle.tubes.specs.declared.TubeFinSet.{TubeFinSet}

-- 0.25
abbrev quarter : Float
quarter = bits 0x3fd0_0000_0000_0000

-- of a tube with density ρ, length L, outer radius R and inner radius r: the mass ((ρ·π)·(R·R − r·r))·L, and R·R + r·r
abbrev pub tube_mass : Float → Float → Float → Float → Float
tube_mass kg_per_m3 length big small = kg_per_m3 ⊗ pi ⊗ (big ⊗ big ⊖ small ⊗ small) ⊗ length

abbrev pub radii_squared : Float → Float → Float
radii_squared big small = big ⊗ big ⊕ small ⊗ small

-- a tube's moments: (0.5·m)·(R² + r²) about its axis and m·(0.25·(R² + r²) + (L·L)/12) across it
abbrev pub axial_moment : Float → Float → Float
axial_moment mass radii = half ⊗ mass ⊗ radii

abbrev pub transverse_moment : Float → Float → Float → Float
transverse_moment mass radii length = mass ⊗ (quarter ⊗ radii ⊕ length ⊗ length ⊘ twelve)

abbrev pub symmetric_body : Float → Float → Float → Float → Body
symmetric_body mass z axial transverse =
    record {
      mass_kg = mass;
      centre_m = vector (bits 0) (bits 0) z;
      inertia_kg_m2 = diagonal transverse transverse axial;
    }

-- a tube on the axis with its forward end at the origin; r is R less the wall
abbrev pub hollow_cylinder : Float → Float → Float → Float → Body
hollow_cylinder kg_per_m3 length outer wall =
    symmetric_body
    (tube_mass kg_per_m3 length outer (outer ⊖ wall))
    (neg half ⊗ length)
    (axial_moment (tube_mass kg_per_m3 length outer (outer ⊖ wall)) (radii_squared outer (outer ⊖ wall)))
    (transverse_moment (tube_mass kg_per_m3 length outer (outer ⊖ wall)) (radii_squared outer (outer ⊖ wall)) length)

-- the first tube at roll 0: its axis at body radius + outer radius; a density that is taken is bulk
unfoldable pub tube_at : TubeFinSet → Float → Body
tube_at set radius =
    translated_of
    (hollow_cylinder (density_figure set.density) set.length_m set.outer_radius_m set.thickness_m)
    (vector (radius ⊕ set.outer_radius_m) (bits 0) (bits 0))

-- the check of the wall: "the wall takes 7 and may be zero"
abbrev pub wall_check : Float → Verdict
wall_check wall = refuse_unless (length_within true false wall) (Length thickness_field)

-- the first checks: "count, body radius, base angle, density"
abbrev pub mount_checks : TubeFinSet → Float → List Verdict
mount_checks set radius =
    count_check set.count ∷ length_check body_radius_field radius ∷ angle_check base_angle_field set.base_angle_rad ∷
    density_check set.density ∷ []

unfoldable pub mount_check : TubeFinSet → Float → Verdict
mount_check set radius = first_of (mount_checks set radius)

-- all checks: ".. length, outer radius, wall"; "20, wall over outer radius, last"
unfoldable pub tube_check : TubeFinSet → Float → Verdict
tube_check set radius =
    first_of
    (mount_checks set radius
    ++ length_check tube_length_field set.length_m
    ∷ length_check outer_radius_field set.outer_radius_m
    ∷ wall_check set.thickness_m
    ∷ refuse_when (lt set.outer_radius_m set.thickness_m) WallOverRadius
    ∷ [])

-- a ring of tubes, made as one of fins is: a tube is turned although it is round
abbrev pub tubes_of : TubeFinSet → Float → Result Body Refusal
tubes_of set radius =
    unless_refused (tube_check set radius) (joined_copies (tube_at set radius) set.base_angle_rad set.count)
