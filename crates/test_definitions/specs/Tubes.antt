-- A ring of tubes (document 02, Paper 3): the order of its checks, what passes, the radius that closes it, and where a
-- tube stands.
use Rattle.std.specs.Prelude.{Bool, ◌&&◌, cond, [], ◌∷◌, ℕ, T, leb}
use Rattle.std.specs.Float.Ieee.{add, sub, mul, div, neg, of_bits, to_bits, of_int, round, is_nan, lt, le, eq, ne}
use Rattle.floats.specs.Operations.{bits}
use Rattle.floats.specs.Floats.{abs_of}
use Rattle.trig.specs.Trig.{m_of, sin_cos_of}
use Rattle.refusals.specs.Order.{first_from}
use Rattle.refusals.specs.Results.{verdict_in}
use Rattle.limits.specs.Limits.{length_within, length_check, angle_check}
use Rattle.materials.specs.declared.Density.TheVariants.{Bulk, Surface}
use Rattle.materials.specs.Materials.{density_check}
use Rattle.tubes.specs.declared.TubeFinSet.{TubeFinSet}
use Rattle.tubes.specs.Tubes.{tube_at, tube_check}
use Rattle.tubes.specs.Closing.{closing_value, radius_told, closing_of}
use Rattle.test_definitions.specs.Rows.{is, accepted, refused}
use Rattle.test_definitions.specs.Checks.{d01, one, two, large, not_number, minus, unless_mended, refused_from}

-- a ring with k of its faults mended; at last the wall is as thick as the outer radius
abbrev tubes_at : ℕ → TubeFinSet
tubes_at k =
    record {
      count = unless_mended k 0 33 3;
      length_m = bits (unless_mended k 4 large one);
      outer_radius_m = bits (unless_mended k 5 large one);
      thickness_m = bits (unless_mended k 6 large (unless_mended k 7 two one));
      base_angle_rad = bits (unless_mended k 2 not_number 0);
      density = cond (leb k 3) (Surface (bits one)) (Bulk (bits one));
    }

-- "count, body radius, base angle, density, length, outer radius, wall"; "20, wall over outer radius, last"
abbrev pub tube_order : Bool
tube_order =
    refused_from (λ k. tube_check (tubes_at k) (bits (unless_mended k 1 (minus d01) one))) 0
    ((3, []) ∷ (4, 11 ∷ []) ∷ (9, 13 ∷ []) ∷ (12, []) ∷ (4, 14 ∷ []) ∷ (4, 15 ∷ []) ∷ (4, 7 ∷ []) ∷ (20, []) ∷ [])

-- "the wall .. may be zero", of either sign; the outer radius may not
abbrev tube_of : ℕ → ℕ → TubeFinSet
tube_of outer wall =
    record {
      count = 1;
      length_m = bits one;
      outer_radius_m = bits outer;
      thickness_m = bits wall;
      base_angle_rad = bits 0;
      density = Bulk (bits one);
    }

abbrev pub wall_of_zero : Bool
wall_of_zero =
    accepted (tube_check (tube_of one 0) (bits one))
    && accepted (tube_check (tube_of one (minus 0)) (bits one))
    && refused 4 (15 ∷ []) (tube_check (tube_of 0 0) (bits one))

-- the checks of the radius that closes a ring: 3 for the count, then 4 for the body's radius
abbrev pub closing_order : Bool
closing_order =
    refused 3 [] (verdict_in (closing_of (bits (minus d01)) 33))
    && refused 4 (11 ∷ []) (verdict_in (closing_of (bits (minus d01)) 3))

-- "Fewer than three tubes close at the body radius": by the formula two would divide by about 0; four close on 0.05 m
abbrev pub closing_radii : Bool
closing_radii =
    is (radius_told (closing_of (bits one) 2)) one
    && is (radius_told (closing_of (bits one) 1)) one
    && is (radius_told (closing_of (bits 0x3fa9_9999_9999_999a) 4)) 0x3fbe_e6e5_1ecc_2fd5

-- a tube's axis stands at body radius plus outer radius, its middle half its length aft
abbrev pub axis_beside_the_body : Bool
axis_beside_the_body =
    is (tube_at (tube_of one d01) (bits one)).centre_m.x two
    && is (tube_at (tube_of one d01) (bits one)).centre_m.z (minus 0x3fe0_0000_0000_0000)

pub tubes_hold : T (tube_order && wall_of_zero && closing_order && closing_radii && axis_beside_the_body)
unfolding of_bits to_bits of_int round add sub mul div neg lt le eq ne is_nan abs_of m_of sin_cos_of first_from length_within length_check angle_check density_check tube_check closing_value closing_of tube_at
tubes_hold = tt
