-- Fillets: the angle, the section, when there is none, the two refusals, and the body (document 02, Paper 6).
use Rattle.std.specs.Prelude.{Bool, not, ◌&&◌, List, [], ◌∷◌, T, Float}
use Rattle.std.specs.Float.Ieee.{add, sub, mul, div, neg, of_bits, to_bits, of_int, round, lt, le, eq}
use Rattle.floats.specs.Operations.{bits}
use Rattle.floats.specs.Constants.{half, one, two}
use Rattle.floats.specs.Floats.{abs_of}
use Rattle.root.specs.Root.{near_root, root_of}
use Rattle.trig.specs.Trig.{sin_cos_of}
use Rattle.materials.specs.declared.Density.{Density}
use Rattle.materials.specs.declared.Density.TheVariants.{Bulk, Surface}
use Rattle.materials.specs.Materials.{density_check}
use Rattle.fillets.specs.declared.AreaMoments.{AreaMoments}
use Rattle.fillets.specs.declared.Fillet.{Fillet}
use Rattle.fillets.specs.Angles.{angle_of}
use Rattle.fillets.specs.FilletSections.{span_less_sine_of, sector_of, fillet_section_of}
use Rattle.fillets.specs.Fillets.{is_none, is_sound, glue_check, ratio_check, pair_of, fillets_of}
use Rattle.bodies.specs.Bodies.{inertia_about_of, of_origin_tensor}
use Rattle.test_definitions.specs.Rows.{is, are, accepted, refused}

-- the f64s of 0.2; of 0.05, 0.01 and 1200; of 0.001 and 0.000001; of 16.1 and 0.0000161
abbrev fifth : Float
fifth = bits 0x3fc9_9999_9999_999a

abbrev body : Float
body = bits 0x3fa9_9999_9999_999a

abbrev radius : Float
radius = bits 0x3f84_7ae1_47ae_147b

abbrev glue : Float
glue = bits 0x4092_c000_0000_0000

abbrev thousandth : Float
thousandth = bits 0x3f50_624d_d2f1_a9fc

abbrev millionth : Float
millionth = bits 0x3eb0_c6f7_a0b5_ed8d

abbrev wide_body : Float
wide_body = bits 0x4030_1999_9999_999a

abbrev thin_glue : Float
thin_glue = bits 0x3ef0_e1cf_9350_aa3c

-- "three times"; "v = 1/21": at r = 8 and c = 1 the nearest f64 to the true angle ends in 21, two halvings would give
-- ..9b77ca, a series from 1/19 would end in 22, and exchanged arguments give another angle
abbrev pub angle_as_worked : Bool
angle_as_worked = is (angle_of (bits 0x4020_0000_0000_0000) one) 0x3ff7_249f_aa99_6a23

-- where t·t overflows the steps give 0, and where t itself does a NaN: the angle is finite where r/c is
abbrev pub angle_too_steep : Bool
angle_too_steep =
    is (angle_of (bits 0x7000_0000_0000_0000) one) 0
    && is (angle_of (bits 0x7000_0000_0000_0000) (bits 0x0010_0000_0000_0000)) 0x7ff8_0000_0000_0000

-- a span less its sine is worked below 0.25 by the series, where the difference would end in 6f00; and from 0.25 on by
-- the difference, which ends in a240
abbrev pub span_less_sine : Bool
span_less_sine =
    is (span_less_sine_of fifth) 0x3f55_cd3b_2de3_6ed2
    && is (span_less_sine_of (bits 0x3fd0_0000_0000_0000)) 0x3f65_444a_c33a_a240

abbrev numbers : AreaMoments → List Float
numbers s = s.area_m2 ∷ s.sx_m3 ∷ s.sxx_m4 ∷ s.syy_m4 ∷ []

abbrev pub sector_moments : Bool
sector_moments =
    are (numbers (sector_of one two half (bits 0x3fd0_0000_0000_0000) one))
    (0x3fb8_0000_0000_0000 ∷ 0x3fbe_5632_f344_17db ∷ 0x3fc3_4d38_fe06_c8a0 ∷ 0x3fdc_d6e1_2a8c_4a50 ∷ [])

abbrev pub section_moments_lem : Bool
section_moments_lem =
    are (numbers (fillet_section_of body radius))
    (0x3ef1_1e9b_020e_6b08 ∷ 0x3eac_7b7a_af41_cd08 ∷ 0x3e67_b885_f39e_dad0 ∷ 0x3dda_3eb6_b04d_8380 ∷ [])

-- "ratio is radius over body radius", the f64 quotient: 0.0000161 on 16.1 is below 1e-6, 0.000001 on 1 is not
abbrev pub none_below_a_millionth : Bool
none_below_a_millionth =
    is_none thin_glue wide_body
    && not (is_none millionth one)
    && is_none (bits 0) one
    && is_none (bits 0x8000_0000_0000_0000) one
    && is_none one (bits 0)

-- 0.001 on 0.000001 is over 1000, 1 on 0.001 is not; and there is no 22 where there is no fillet
abbrev pub refused_over_a_thousand : Bool
refused_over_a_thousand =
    refused 22 [] (ratio_check thousandth millionth)
    && accepted (ratio_check one thousandth)
    && accepted (ratio_check thin_glue wide_body)
    && accepted (ratio_check one (bits 0))
    && accepted (ratio_check (bits 0) one)

abbrev of : Float → Density → Fillet
of radius density = record { radius_m = radius; density = density }

-- "The fillet's density is checked .. for any positive radius": for either zero it is not read
abbrev pub glue_checked : Bool
glue_checked =
    refused 12 [] (glue_check (of radius (Surface one)))
    && refused 12 [] (glue_check (of (bits 1) (Surface one)))
    && accepted (glue_check (of (bits 0) (Surface one)))
    && accepted (glue_check (of (bits 0x8000_0000_0000_0000) (Surface one)))
    && accepted (glue_check (of radius (Bulk (bits 0))))

-- both sides are weighed: one alone would be 3f700cb151ed8457; on a body of radius 0, or of density 0, nothing is
abbrev pub two_sides : Bool
two_sides =
    is (fillets_of (of radius (Bulk glue)) body fifth).mass_kg 0x3f80_0cb1_51ed_8457
    && is (fillets_of (of radius (Bulk glue)) body fifth).centre_m.x 0x3faa_9ea5_0539_ed6f
    && is (fillets_of (of radius (Bulk glue)) (bits 0) fifth).mass_kg 0
    && is (fillets_of (of radius (Bulk (bits 0))) body fifth).mass_kg 0

pub fillets_hold :
    T
    (angle_as_worked
    && angle_too_steep
    && span_less_sine
    && sector_moments
    && section_moments_lem
    && none_below_a_millionth
    && refused_over_a_thousand
    && glue_checked
    && two_sides)
unfolding of_bits to_bits of_int round add sub mul div neg lt le eq abs_of root_of near_root sin_cos_of angle_of span_less_sine_of sector_of fillet_section_of is_none is_sound ratio_check density_check pair_of fillets_of inertia_about_of of_origin_tensor
fillets_hold = tt
