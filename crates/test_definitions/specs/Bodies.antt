-- Bodies moved, turned, set in a ring and joined (document 01, "Body" and "Stand-ins").
use Rattle.std.specs.Prelude.{Bool, ◌&&◌, List, [], ◌∷◌, map, ℕ, T, Float}
use Rattle.std.specs.Float.{nan}
use Rattle.std.specs.Float.Ieee.{add, sub, mul, div, neg, of_bits, to_bits, of_int, round, is_nan, lt, le, eq, ne}
use Rattle.floats.specs.Operations.{bits, tabulate}
use Rattle.trig.specs.Trig.{m_of, sin_cos_of}
use Rattle.refusals.specs.Order.{first_from}
use Rattle.bodies.specs.declared.Body.{Body}
use Rattle.bodies.specs.declared.Matrix.{Matrix}
use Rattle.bodies.specs.declared.Vector.{Vector}
use Rattle.bodies.specs.Vectors.{vector, zero_vector}
use Rattle.bodies.specs.Matrices.{times_vector}
use Rattle.bodies.specs.Tensors.{turn_tensor}
use Rattle.bodies.specs.Bodies.{inertia_about_of, translated_of, rotated_of, point_mass}
use Rattle.bodies.specs.Layout.{body_of, numbers_of}
use Rattle.rotations.specs.declared.Quaternion.{Quaternion}
use Rattle.rotations.specs.Rotations.{about_x, about_z, matrix_of}
use Rattle.refusals.specs.Results.{verdict_in}
use Rattle.joins.specs.Joins.{in_order, sums_of, inertia_of, join_of, two_bodies, body_told, combine_of}
use Rattle.joins.specs.Lists.{join_list}
use Rattle.rings.specs.Rings.{angle_of, joined_copies}
use Rattle.test_definitions.specs.Rows.{is, are, refused}

-- the bits of 1, 2 and 3, and of minus 2
abbrev one : ℕ
one = 0x3ff0_0000_0000_0000

abbrev two : ℕ
two = 0x4000_0000_0000_0000

abbrev three : ℕ
three = 0x4008_0000_0000_0000

abbrev minus_two : ℕ
minus_two = 0xc000_0000_0000_0000

abbrev numbers : Vector → List Float
numbers v = v.x ∷ v.y ∷ v.z ∷ []

-- a mass of 2 at (1, 2, 3)
abbrev point : Body
point = point_mass (bits two) (vector (bits one) (bits two) (bits three))

-- a mass on the x axis
abbrev on_axis : ℕ → ℕ → Body
on_axis mass x = point_mass (bits mass) (vector (bits x) (bits 0) (bits 0))

-- ---- moved and turned

-- a body is moved by the offset (2, 0, 0), not by its own centre, which would give (2, 4, 6)
abbrev pub moved_by_the_offset : Bool
moved_by_the_offset =
    are (numbers (translated_of point (vector (bits two) (bits 0) (bits 0))).centre_m) (three ∷ two ∷ three ∷ [])

-- the tensor about the origin is 26, 20, 10, −4, −6, −12: m (|d|² E − d dᵀ)
abbrev pub products_negative : Bool
products_negative =
    are (inertia_about_of point zero_vector).0
    (0x403a_0000_0000_0000 ∷ 0x4034_0000_0000_0000 ∷ 0x4024_0000_0000_0000 ∷ 0xc010_0000_0000_0000 ∷
    0xc018_0000_0000_0000 ∷ 0xc028_0000_0000_0000 ∷ [])

-- columns (1, 2, 3), (3, 1, 2) and (2, 3, 1) times (1, 2, 3): 13, 13, 10; by rows it would be 14, 11, 11
abbrev columns : Matrix
columns = record { 0 = map bits (one ∷ two ∷ three ∷ three ∷ one ∷ two ∷ two ∷ three ∷ one ∷ []) }

abbrev pub by_columns : Bool
by_columns =
    are (numbers (times_vector columns (vector (bits one) (bits two) (bits three))))
    (0x402a_0000_0000_0000 ∷ 0x402a_0000_0000_0000 ∷ 0x4024_0000_0000_0000 ∷ [])

abbrev parts : Quaternion → List Float
parts q = q.x ∷ q.y ∷ q.z ∷ q.w ∷ []

-- "about z by angle g is the quaternion (0, 0, sin g/2, cos g/2), about x (sin g/2, 0, 0, cos g/2)", at g = 1
abbrev pub half_angles : Bool
half_angles =
    are (parts (about_z (bits one))) (0 ∷ 0 ∷ 0x3fde_aee8_744b_05f0 ∷ 0x3fec_1528_065b_7d50 ∷ [])
    && are (parts (about_x (bits one))) (0x3fde_aee8_744b_05f0 ∷ 0 ∷ 0 ∷ 0x3fec_1528_065b_7d50 ∷ [])

-- the nine numbers of the matrix of (0.1, 0.2, 0.3, 0.9), each with its sign
abbrev pub matrix_of_a_turn : Bool
matrix_of_a_turn =
    are
    (matrix_of
    (record {
      x = bits 0x3fb9_9999_9999_999a;
      y = bits 0x3fc9_9999_9999_999a;
      z = bits 0x3fd3_3333_3333_3333;
      w = bits 0x3fec_cccc_cccc_cccd;
    })
    ).0
    (0x3fe7_ae14_7ae1_47ae
    ∷ 0x3fe2_8f5c_28f5_c290
    ∷ 0xbfd3_3333_3333_3334
    ∷ 0xbfe0_0000_0000_0000
    ∷ 0x3fe9_9999_9999_999a
    ∷ 0x3fd3_3333_3333_3334
    ∷ 0x3fda_e147_ae14_7ae2
    ∷ 0xbfae_b851_eb85_1ebc
    ∷ 0x3fec_cccc_cccc_cccd
    ∷ [])

-- ---- rings

-- copy k of four stands at k quarters of a turn
abbrev pub angles_of_four : Bool
angles_of_four =
    are (tabulate 4 (λ k. angle_of (bits 0) 4 k))
    (0 ∷ 0x3ff9_21fb_5444_2d18 ∷ 0x4009_21fb_5444_2d18 ∷ 0x4012_d97c_7f33_21d2 ∷ [])

-- a single copy is turned too: a mass at (1, 0, 0), turned by 1 rad, lies at (cos 1, sin 1, 0)
abbrev pub only_copy_turned : Bool
only_copy_turned =
    are
    (numbers (joined_copies (point_mass (bits one) (vector (bits one) (bits 0) (bits 0))) (bits one) 1).centre_m)
    (0x3fe1_4a28_0fb5_068c ∷ 0x3fea_ed54_8f09_0cee ∷ 0 ∷ [])

-- a single copy is joined too: of a mass of 3 at 0.1 the join rounds 3·0.1/3 to the f64 after 0.1
abbrev pub only_copy_joined : Bool
only_copy_joined =
    are (numbers (joined_copies (on_axis three 0x3fb9_9999_9999_999a) (bits 0) 1).centre_m)
    (0x3fb9_9999_9999_999b ∷ 0 ∷ 0 ∷ [])

-- ---- joins

-- two masses, at x = 1 and x = 3, joined
abbrev joined_at : Float → Float → Float
joined_at first second =
    (join_of
    (two_bodies (point_mass first (vector (bits one) (bits 0) (bits 0)))
    (point_mass second (vector (bits three) (bits 0) (bits 0))))
    2
    ).centre_m.x

-- "a total mass not above 0 takes the mean position; with NaN mass, a NaN centre"
abbrev pub mean_without_mass : Bool
mean_without_mass =
    is (joined_at (bits 0) (bits 0)) two
    && is (joined_at (bits one) (bits minus_two)) two
    && is (joined_at nan (bits one)) 0x7ff8_0000_0000_0000

-- every body of a lent list is joined: masses of 1 at 1 and at 3 have their centre at 2, the first one twice would have
-- it at 1
abbrev pub each_of_a_list : Bool
each_of_a_list = is (join_list (on_axis one one ∷ on_axis one three ∷ [])).centre_m.x two

-- "1 to 32", of whole bodies: 33 are refused, one of eleven numbers, and none; a refused join has a body of zeros
abbrev pub joins_counted : Bool
joins_counted =
    refused 3 [] (verdict_in (combine_of (tabulate 330 (λ i. bits one))))
    && refused 3 [] (verdict_in (combine_of (tabulate 11 (λ i. bits one))))
    && refused 3 [] (verdict_in (combine_of []))
    && is (body_told (combine_of (tabulate 330 (λ i. bits one)))).mass_kg 0

-- a body is ten numbers, the last one yz
abbrev pub ten_numbers : Bool
ten_numbers =
    are (numbers_of (body_of (λ i. bits i))) (0 ∷ 1 ∷ 2 ∷ 3 ∷ 4 ∷ 5 ∷ 6 ∷ 7 ∷ 8 ∷ 9 ∷ [])

pub bodies_hold :
    T
    (moved_by_the_offset
    && products_negative
    && by_columns
    && half_angles
    && matrix_of_a_turn
    && angles_of_four
    && only_copy_turned
    && only_copy_joined
    && mean_without_mass
    && each_of_a_list
    && joins_counted
    && ten_numbers)
unfolding of_bits to_bits of_int round add sub mul div neg lt le eq ne is_nan m_of sin_cos_of first_from turn_tensor inertia_about_of rotated_of in_order sums_of inertia_of join_of
bodies_hold = tt
