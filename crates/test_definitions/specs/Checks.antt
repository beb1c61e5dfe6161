-- Checks: the table of refusals, each limit from both sides, document 01's examples of a refusal, and the two orders.
use Rattle.std.specs.Prelude.{Bool, true, false, not, ◌&&◌, cond, List, [], ◌∷◌, map, ℕ, suc, T, leb, Ok}
use Rattle.std.specs.Prelude.{Err, Option, Some, None}
use Rattle.std.specs.Float.{binary64}
use Rattle.std.specs.Float.Ieee.{add, sub, mul, div, neg, of_bits, to_bits, of_int, lt, le, eq, ne}
use Rattle.floats.specs.Operations.{bits, every}
use Rattle.floats.specs.Floats.{abs_of}
use Rattle.refusals.specs.declared.Refusal.TheVariants as refusal
use Rattle.refusals.specs.declared.TensorFault.TheVariants as fault
use Rattle.refusals.specs.Verdict.{Verdict}
use Rattle.refusals.specs.Order.{refuse_unless, refuse_when, is_refused, first_refusal, first_from}
use Rattle.planforms.specs.declared.Planform.{Planform}
use Rattle.planforms.specs.declared.Planform.TheVariants.{Trapezoid, Ellipse, Outline}
use Rattle.planforms.specs.Planforms.{largest_height, root_chord_of}
use Rattle.limits.specs.Limits.{length_within, length_check, angle_check, limit_check, scratch_check, count_check}
use Rattle.segments.specs.Segments.{is_in_box, segments_touch}
use Rattle.outlines.specs.Outlines.{sum_of_terms, outline_check}
use Rattle.materials.specs.declared.Density.{Density}
use Rattle.materials.specs.declared.Density.TheVariants.{Bulk, Surface, Line}
use Rattle.materials.specs.Materials.{density_check}
use Rattle.sections.specs.declared.Section.TheVariants.{Square}
use Rattle.trig.specs.Trig.{sin_cos_of}
use Rattle.fillets.specs.declared.Fillet.{Fillet}
use Rattle.fillets.specs.Numbered.{no_fillet}
use Rattle.fillets.specs.Angles.{angle_of}
use Rattle.fillets.specs.FilletSections.{span_less_sine_of, sector_of, fillet_section_of}
use Rattle.fillets.specs.Fillets.{is_none, is_sound, ratio_check}
use Rattle.fins.specs.declared.FinSet.{FinSet}
use Rattle.fins.specs.declared.FinTab.{FinTab}
use Rattle.outlines.specs.Outlines.{planform_check}
use Rattle.fins.specs.Fins.{tab_check, depth_check, set_check, area_check}
use Rattle.bodies.specs.declared.Body.{Body}
use Rattle.bodies.specs.declared.Tensor.{Tensor}
use Rattle.bodies.specs.Vectors.{vector}
use Rattle.bodies.specs.Tensors.{diagonal}
use Rattle.moments.specs.Moments.{rotation_of, rotate, sweep, sweeps, insert_moment, insert_all, entries_fit, eigenvalues_of}
use Rattle.moments.specs.Moments.{moments_told, principal_moments_of}
use Rattle.root.specs.Root.{near_root, root_of}
use Rattle.body_check.specs.BodyCheck.{largest_magnitude, check_tensor, check_of}
use Rattle.test_definitions.specs.Rows.{is, are, accepted, refused}

-- the bits of 0.01, 0.02, 0.03, 0.2, 1, 2, 3, 65 and 64, of a NaN and of infinity
abbrev pub d01 : ℕ
d01 = 0x3f84_7ae1_47ae_147b

abbrev d02 : ℕ
d02 = 0x3f94_7ae1_47ae_147b

abbrev d03 : ℕ
d03 = 0x3f9e_b851_eb85_1eb8

abbrev d2 : ℕ
d2 = 0x3fc9_9999_9999_999a

abbrev pub one : ℕ
one = 0x3ff0_0000_0000_0000

abbrev pub two : ℕ
two = 0x4000_0000_0000_0000

abbrev three : ℕ
three = 0x4008_0000_0000_0000

abbrev pub large : ℕ
large = 0x4050_4000_0000_0000

abbrev sixty_four : ℕ
sixty_four = 0x4050_0000_0000_0000

abbrev pub not_number : ℕ
not_number = 0x7ff8_0000_0000_0000

abbrev infinity : ℕ
infinity = 0x7ff0_0000_0000_0000

-- the bits of −x
abbrev pub minus : ℕ → ℕ
minus b = to_bits binary64 (neg (bits b))

-- ---- first refusals

abbrev pub first_of_two : Bool
first_of_two =
    refused 6 [] (first_refusal (Err refusal.Ends) (Err refusal.NoArea))
    && refused 8 [] (first_refusal (Ok tt) (Err refusal.NoArea))
    && accepted (refuse_unless true refusal.Ends)
    && accepted (refuse_when false refusal.Ends)
    && is_refused (Err refusal.Ends)
    && not (is_refused (Ok tt))

-- document 01's table, the column "No.", with the values that go with a number, and document 02's numbers
abbrev pub refusal_table : Bool
refusal_table =
    refused 1 [] (Err refusal.Limit)
    && refused 2 [] (Err refusal.Scratch)
    && refused 3 [] (Err refusal.Count)
    && refused 4 (2 ∷ []) (Err (refusal.Length 2))
    && refused 5 [] (Err refusal.Points)
    && refused 6 [] (Err refusal.Ends)
    && refused 7 (0 ∷ 2 ∷ []) (Err (refusal.Touches 0 2))
    && refused 8 [] (Err refusal.NoArea)
    && refused 9 (12 ∷ []) (Err (refusal.Angle 12))
    && refused 10 [] (Err refusal.TabOffRoot)
    && refused 11 [] (Err refusal.TabTooDeep)
    && refused 12 [] (Err refusal.Density)
    && refused 13 (6 ∷ []) (Err (refusal.NotConverged 6))
    && refused 15 [] (Err refusal.Mass)
    && refused 16 [] (Err refusal.Centre)
    && refused 17 (0 ∷ []) (Err (refusal.Tensor fault.Entry))
    && refused 17 (1 ∷ []) (Err (refusal.Tensor fault.Massless))
    && refused 17 (3 ∷ []) (Err (refusal.Tensor fault.Negative))
    && refused 17 (4 ∷ []) (Err (refusal.Tensor fault.Triangle))
    && refused 18 [] (Err refusal.NoForm)
    && refused 19 [] (Err refusal.NoFigure)
    && refused 20 [] (Err refusal.WallOverRadius)
    && refused 21 [] (Err refusal.ThicknessOverRoot)
    && refused 22 [] (Err refusal.FilletRatio)
    && refused 23 [] (Err refusal.Screen)
    && refused 24 [] (Err refusal.NoCorners)
    && refused 25 [] (Err refusal.NotWholeSteps)
    && refused 26 [] (Err refusal.NotHeavier)

-- ---- limits, one step inside and outside

-- "L is now 1 to 64 .. 1,024 numbers of scratch; more is still accepted" (document 02, Paper 8); "128 numbers pass for
-- L = 8"; "count 1 to 32"
abbrev pub limits_of_counts : Bool
limits_of_counts =
    accepted (limit_check 64)
    && refused 1 [] (limit_check 65)
    && refused 1 [] (limit_check 0)
    && accepted (scratch_check 8 128)
    && refused 2 [] (scratch_check 8 127)
    && accepted (scratch_check 64 1024)
    && refused 2 [] (scratch_check 64 1023)
    && accepted (scratch_check 64 1025)
    && accepted (count_check 32)
    && refused 3 [] (count_check 33)
    && refused 3 [] (count_check 0)

-- "magnitude 2^-20 to 64"; "angle magnitude at most 4 rad"
abbrev pub limits_of_lengths : Bool
limits_of_lengths =
    accepted (length_check 1 (bits 0x3eb0_0000_0000_0000))
    && refused 4 (1 ∷ []) (length_check 1 (bits 0x3eaf_ffff_ffff_ffff))
    && accepted (length_check 1 (bits 0x4050_0000_0000_0000))
    && refused 4 (1 ∷ []) (length_check 1 (bits 0x4050_0000_0000_0001))
    && refused 4 (2 ∷ []) (length_check 2 (bits (minus d01)))
    && accepted (angle_check 12 (bits 0x4010_0000_0000_0000))
    && refused 9 (12 ∷ []) (angle_check 12 (bits 0x4010_0000_0000_0001))
    && refused 9 (12 ∷ []) (angle_check 12 (bits not_number))

-- a test of the fields 1, 2, .. gives these answers
abbrev fields_from : ℕ → (ℕ → Bool) → List Bool → Bool
fields_from field test [] = true
fields_from field test (b ∷ bs) = cond b (test field) (not (test field)) && fields_from (suc field) test bs

-- "Zero is allowed for tip chord, sweep, x, y, tab offset and body radius only. Only sweep, x and tab offset may pass
-- this check negative." A fillet's radius, field 16, may be zero.
abbrev pub zero_and_negative : Bool
zero_and_negative =
    fields_from 1 (λ field. accepted (length_check field (bits 0)))
    (false ∷ true ∷ false ∷ true ∷ true ∷ true ∷ false ∷ false ∷ false ∷ true ∷ true ∷ false ∷ false ∷ false ∷
    false ∷ true ∷ [])
    && fields_from 1 (λ field. accepted (length_check field (bits (minus one))))
    (false ∷ false ∷ false ∷ true ∷ true ∷ false ∷ false ∷ false ∷ false ∷ true ∷ false ∷ false ∷ false ∷ false ∷
    false ∷ false ∷ [])

-- "bulk density 0 or 2^-10 to 2^15"; a surface density, as in "surface 0.1", and a line density are refused
abbrev pub limits_of_densities : Bool
limits_of_densities =
    accepted (density_check (Bulk (bits 0)))
    && accepted (density_check (Bulk (bits 0x3f50_0000_0000_0000)))
    && refused 12 [] (density_check (Bulk (bits 0x3f4f_ffff_ffff_ffff)))
    && accepted (density_check (Bulk (bits 0x40e0_0000_0000_0000)))
    && refused 12 [] (density_check (Bulk (bits 0x40e0_0000_0000_0001)))
    && refused 12 [] (density_check (Surface (bits d2)))
    && refused 12 [] (density_check (Line (bits d2)))

-- ---- document 01's examples

-- "two points"; a last point above the root, as in "last (0.2, 0.1)"; "(0,0) (2,1) (0,1) (2,0): 0 and 2"; "(0,0) (1,0)
-- (2,0)", of which no two edges are compared: 8 by twice the area. An outline that ends where it starts is refused with
-- 6, an x of 65 with 4 before the ends are looked at, and a triangle passes.
abbrev pub outlines_refused : Bool
outlines_refused =
    refused 5 [] (outline_check (map bits (0 ∷ 0 ∷ one ∷ 0 ∷ [])))
    && refused 6 [] (outline_check (map bits (0 ∷ 0 ∷ one ∷ one ∷ d2 ∷ d02 ∷ [])))
    && refused 6 [] (outline_check (map bits (0 ∷ 0 ∷ one ∷ one ∷ 0 ∷ 0 ∷ [])))
    && refused 7 (0 ∷ 2 ∷ []) (outline_check (map bits (0 ∷ 0 ∷ two ∷ one ∷ 0 ∷ one ∷ two ∷ 0 ∷ [])))
    && refused 8 [] (outline_check (map bits (0 ∷ 0 ∷ one ∷ 0 ∷ two ∷ 0 ∷ [])))
    && refused 4 (5 ∷ []) (outline_check (map bits (one ∷ 0 ∷ large ∷ large ∷ two ∷ 0 ∷ [])))
    && accepted (outline_check (map bits (0 ∷ 0 ∷ one ∷ two ∷ two ∷ 0 ∷ [])))

abbrev tab_of_bits : ℕ → ℕ → ℕ → Option FinTab
tab_of_bits height length offset =
    Some (record { height_m = bits height; length_m = bits length; offset_m = bits offset })

-- "offset −0.01"; "tab offset 0 with length = root passes"; "0.03 over 0.02", and 0.03 over 0.03 passes
abbrev pub tabs_refused : Bool
tabs_refused =
    refused 10 [] (tab_check (tab_of_bits d03 d03 (minus d01)) (bits d2))
    && accepted (tab_check (tab_of_bits d03 d2 0) (bits d2))
    && refused 11 [] (depth_check (tab_of_bits d03 d2 0) (bits d02))
    && accepted (depth_check (tab_of_bits d03 d2 0) (bits d03))

-- 17a: 2^500 passes, the f64 above it does not, also in the last place; a refused tensor has zeros for moments
abbrev last_entry : ℕ → Tensor
last_entry b = record { 0 = map bits (0 ∷ 0 ∷ 0 ∷ 0 ∷ 0 ∷ b ∷ []) }

abbrev pub entries_refused : Bool
entries_refused =
    entries_fit (last_entry 0x5f30_0000_0000_0000)
    && not (entries_fit (last_entry 0x5f30_0000_0000_0001))
    && are (moments_told (principal_moments_of (last_entry infinity))) (0 ∷ 0 ∷ 0 ∷ [])

-- of the two roots for the tangent the smaller one is taken, where τ is −1/2
abbrev pub smaller_root : Bool
smaller_root =
    is (rotation_of (bits three) (bits one) (bits two)).cosine 0x3feb_3888_0b46_03e4
    && is (rotation_of (bits three) (bits one) (bits two)).sine 0xbfe0_d2ca_0da1_530c

-- ---- the orders of checks: of many faults each is refused once the k faults before it are mended

abbrev pub unless_mended : ℕ → ℕ → ℕ → ℕ → ℕ
unless_mended k fault bad good = cond (leb k fault) bad good

abbrev pub refused_from : (ℕ → Verdict) → ℕ → List (ℕ × List ℕ) → Bool
refused_from check k [] = accepted (check k)
refused_from check k (row ∷ rows) = refused row.0 row.1 (check k) && refused_from check (suc k) rows

abbrev planform_at : ℕ → Planform
planform_at k =
    Trapezoid (bits (unless_mended k 3 large d2)) (bits (unless_mended k 4 large d2))
    (bits (unless_mended k 5 large d2))
    (bits (unless_mended k 6 large d2))

abbrev tab_at : ℕ → Option FinTab
tab_at k =
    tab_of_bits (unless_mended k 12 large d03) (unless_mended k 13 large d2)
    (unless_mended k 14 large (unless_mended k 15 d01 0))

abbrev density_at : ℕ → ℕ → Density
density_at k fault = cond (leb k fault) (Surface (bits one)) (Bulk (bits 0))

abbrev fillet_at : ℕ → Fillet
fillet_at k = record { radius_m = bits (unless_mended k 11 large sixty_four); density = density_at k 19 }

abbrev set_at : ℕ → FinSet
set_at k =
    record {
      count = unless_mended k 2 33 3;
      planform = planform_at k;
      thickness_m = bits (unless_mended k 7 large (unless_mended k 8 one d2));
      cross_section = Square;
      tab = tab_at k;
      fillet = fillet_at k;
      cant_rad = bits (unless_mended k 9 not_number 0);
      base_angle_rad = bits (unless_mended k 10 not_number 0);
      body_radius_m = bits (unless_mended k 16 (minus d01) (unless_mended k 17 d02 (unless_mended k 20 d03 one)));
      density = density_at k 18;
    }

-- "Order: 18, 1, 2, 3; planform lengths as listed above ..; thickness; cant, base angle; tab height, length, offset,
-- 10; body radius; 11; 12"; and 21 "directly after the thickness limits; equality passes": thickness 65, then 1, then
-- 0.2 over the root chord 0.2; a fillet's "radius limit stands between base angle and tab", its density "directly after
-- the plate's", and 22 "directly after the fillet's density, zero or not": of density 0 and radius 64, on a body of
-- radius 0.03, then of 1
abbrev pub set_order : Bool
set_order =
    refused_from (λ k. set_check (set_at k) [] (unless_mended k 0 0 8) (unless_mended k 1 127 128)) 0
    ((1, [])
    ∷ (2, [])
    ∷ (3, [])
    ∷ (4, 1 ∷ [])
    ∷ (4, 2 ∷ [])
    ∷ (4, 3 ∷ [])
    ∷ (4, 4 ∷ [])
    ∷ (4, 7 ∷ [])
    ∷ (21, [])
    ∷ (9, 12 ∷ [])
    ∷ (9, 13 ∷ [])
    ∷ (4, 16 ∷ [])
    ∷ (4, 8 ∷ [])
    ∷ (4, 9 ∷ [])
    ∷ (4, 10 ∷ [])
    ∷ (10, [])
    ∷ (4, 11 ∷ [])
    ∷ (11, [])
    ∷ (12, [])
    ∷ (12, [])
    ∷ (22, [])
    ∷ [])

-- a set without fault, but for what 21 is asked of: planform, points and thickness
abbrev thick_set : Planform → List ℕ → ℕ → Verdict
thick_set planform points thickness =
    set_check
    (record {
      count = 3;
      planform = planform;
      thickness_m = bits thickness;
      cross_section = Square;
      tab = None;
      fillet = no_fillet;
      cant_rad = bits 0;
      base_angle_rad = bits 0;
      body_radius_m = bits one;
      density = Bulk (bits one);
    })
    (map bits points)
    8
    128

-- 21 from both sides, against the root chord and not the span; of an outline against the last point's x, though the
-- edge there is longer
abbrev pub thickness_over_root : Bool
thickness_over_root =
    accepted (thick_set (Ellipse (bits d2) (bits d03)) [] d2)
    && refused 21 [] (thick_set (Ellipse (bits d2) (bits d03)) [] (suc d2))
    && refused 21 [] (thick_set (Trapezoid (bits d03) (bits d2) (bits d2) (bits 0)) [] d2)
    && accepted (thick_set Outline (0 ∷ 0 ∷ minus one ∷ 0 ∷ 0 ∷ one ∷ one ∷ 0 ∷ []) one)
    && refused 21 [] (thick_set Outline (0 ∷ 0 ∷ minus one ∷ 0 ∷ 0 ∷ one ∷ one ∷ 0 ∷ []) two)

-- "For area alone: 1, 2, planform": the faults 0, 1 and 3 to 6 of a set
abbrev pub area_order : Bool
area_order =
    refused_from
    (λ k. area_check (planform_at (cond (leb k 1) k (suc k))) [] (unless_mended k 0 0 8) (unless_mended k 1 127 128)) 0
    ((1, []) ∷ (2, []) ∷ (4, 1 ∷ []) ∷ (4, 2 ∷ []) ∷ (4, 3 ∷ []) ∷ (4, 4 ∷ []) ∷ [])

abbrev body_at : ℕ → Body
body_at k =
    record {
      mass_kg = bits (unless_mended k 0 (minus one) (unless_mended k 3 0 one));
      centre_m = vector (bits 0) (bits 0) (bits (unless_mended k 1 not_number 0));
      inertia_kg_m2 =
          diagonal (bits (unless_mended k 2 infinity (unless_mended k 4 (minus one) one)))
          (bits (unless_mended k 5 one two)) (bits three);
    }

-- "The body check runs 15, 16, 17 a to e": mass −1, a centre that is not finite, an infinite entry, inertia without
-- mass, diagonal −1, 1, 3, diagonal 1, 1, 3; then diagonal 1, 2, 3 passes, where I1+I2 = I3. c has left, and d and e
-- keep their numbers (document 02, Paper 12)
abbrev pub body_order : Bool
body_order =
    refused_from (λ k. check_of (body_at k)) 0
    ((15, []) ∷ (16, []) ∷ (17, 0 ∷ []) ∷ (17, 1 ∷ []) ∷ (17, 3 ∷ []) ∷ (17, 4 ∷ []) ∷ [])

-- no mass and no inertia, which is the empty body, passes
abbrev pub empty_body_passes : Bool
empty_body_passes =
    accepted
    (check_of
    (record {
      mass_kg = bits 0;
      centre_m = vector (bits 0) (bits 0) (bits 0);
      inertia_kg_m2 = last_entry 0;
    }))

pub checks_hold :
    T
    (first_of_two
    && refusal_table
    && limits_of_counts
    && limits_of_lengths
    && zero_and_negative
    && limits_of_densities
    && outlines_refused
    && tabs_refused
    && entries_refused
    && smaller_root
    && set_order
    && thickness_over_root
    && area_order
    && body_order
    && empty_body_passes)
unfolding of_bits to_bits of_int add sub mul div neg lt le eq ne abs_of first_from every length_within length_check angle_check scratch_check density_check is_in_box segments_touch sum_of_terms outline_check largest_height root_chord_of planform_check tab_check depth_check set_check area_check is_none is_sound ratio_check angle_of span_less_sine_of sector_of fillet_section_of sin_cos_of root_of near_root rotation_of rotate sweep sweeps insert_moment insert_all eigenvalues_of largest_magnitude check_tensor
checks_hold = tt
