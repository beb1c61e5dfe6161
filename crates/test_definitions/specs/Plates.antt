-- One fin's body from its integrals (document 01, "Set and planform"; document 02, Paper 6): areas and volumes of 0,
-- the tab, the cant, the density.
use Rattle.std.specs.Prelude.{Bool, ◌&&◌, List, [], ◌∷◌, map, ℕ, T, Some}
use Rattle.std.specs.Float.{nan}
use Rattle.std.specs.Float.Ieee.{add, sub, mul, div, neg, of_bits, to_bits, of_int, round, lt, le, eq, ne}
use Rattle.floats.specs.Operations.{bits}
use Rattle.bodies.specs.declared.Body.{Body}
use Rattle.bodies.specs.Vectors.{vector}
use Rattle.bodies.specs.Bodies.{empty_body, inertia_about_of, point_mass, of_origin_tensor}
use Rattle.halving.specs.Endings.{Ending, accepted as Accepted, not_converged as NotConverged}
use Rattle.halving.specs.declared.Integral.{Integral}
use Rattle.joins.specs.Joins.{in_order, sums_of, inertia_of, join_of}
use Rattle.plates.specs.Integrals.{tab_integrals_of}
use Rattle.plates.specs.Plates.{about_origin, plate_body, with_fillets, canted_of}
use Rattle.figures.specs.Figures.{size_check, conclusion_of}
use Rattle.figures.specs.Areas.{concluded_area}
use Rattle.test_definitions.specs.Rows.{is, are, accepted, refused}

-- the bits of 0.1, the f64 after it, 0.2, 1, 2, 3 and 5
abbrev tenth : ℕ
tenth = 0x3fb9_9999_9999_999a

abbrev next_tenth : ℕ
next_tenth = 0x3fb9_9999_9999_999b

abbrev fifth : ℕ
fifth = 0x3fc9_9999_9999_999a

abbrev one : ℕ
one = 0x3ff0_0000_0000_0000

abbrev two : ℕ
two = 0x4000_0000_0000_0000

abbrev three : ℕ
three = 0x4008_0000_0000_0000

abbrev five : ℕ
five = 0x4014_0000_0000_0000

-- totals of strips that ended in this way
abbrev totals : Ending → List ℕ → Integral
totals ending value =
    record { ending = ending; totals = record { value = map bits value; intervals = 1; samples = 15 } }

-- refusal 8: "area or volume <= 0", for either zero and for no NaN, and after 13; a refused area has zeros
abbrev pub zero_refused : Bool
zero_refused =
    refused 8 [] (size_check (bits 0))
    && refused 8 [] (size_check (bits 0x8000_0000_0000_0000))
    && accepted (size_check (bits 1))
    && accepted (size_check nan)
    && refused 13 (3 ∷ []) (conclusion_of (NotConverged 3) (bits 0))
    && refused 8 [] (concluded_area (bits one) (totals Accepted (0 ∷ one ∷ one ∷ []))).verdict
    && is (concluded_area (bits one) (totals Accepted (0 ∷ one ∷ one ∷ []))).centroid_x_m 0

-- the centroid is (scale·t1)/t0: divided first, (1/0.7)·0.3 would end in db
abbrev pub centroid_scaled_first : Bool
centroid_scaled_first =
    is
    (concluded_area (bits 0x3fd3_3333_3333_3333)
    (totals Accepted (0x3fe6_6666_6666_6666 ∷ one ∷ one ∷ []))).centroid_x_m 0x3fdb_6db6_db6d_b6dc

-- a tab 1 high and 2 long at an offset of 1, 1 thick, on a body of radius 3: it reaches inward, from radius 2; outward
-- ∫r would be 7
abbrev pub tab_inward : Bool
tab_inward =
    are
    (tab_integrals_of (Some (record { height_m = bits one; length_m = bits two; offset_m = bits one })) (bits one)
    (bits three))
    (two
    ∷ five
    ∷ 0x4029_5555_5555_5555
    ∷ 0x4010_0000_0000_0000
    ∷ 0x4021_5555_5555_5555
    ∷ 0x4024_0000_0000_0000
    ∷ 0x3fc5_5555_5555_5555
    ∷ [])

-- "entries are summed first, then times the density": (0.1 + 0.2)·5, where 0.1·5 + 0.2·5 would be 1.5
abbrev pub density_behind_the_sum : Bool
density_behind_the_sum =
    let zz = map bits (one ∷ 0 ∷ tenth ∷ 0 ∷ 0 ∷ 0 ∷ fifth ∷ []) in
    are (about_origin zz (bits five)).0 (one ∷ 0x3fe0_0000_0000_0000 ∷ 0x3ff8_0000_0000_0001 ∷ 0 ∷ 0 ∷ 0 ∷ [])

-- a mass of 0.1 at x = 0.1
abbrev fin : Body
fin = point_mass (bits tenth) (vector (bits tenth) (bits 0) (bits 0))

-- a cant of either zero moves nothing: moved by −1 and back, 0.1 would be 3fb9999999999998
abbrev pub cant_of_zero : Bool
cant_of_zero =
    is (canted_of fin (bits 0) (vector (bits one) (bits 0) (bits 0))).centre_m.x tenth
    && is (canted_of fin (bits 0x8000_0000_0000_0000) (vector (bits one) (bits 0) (bits 0))).centre_m.x tenth

-- "None is added for zero mass": joined with nothing, 0.1 would be the f64 after it
abbrev pub no_fillets_joined : Bool
no_fillets_joined =
    is (with_fillets fin empty_body).centre_m.x tenth && is (join_of (λ k. fin) 1).centre_m.x next_tenth

pub plates_hold :
    T
    (zero_refused && centroid_scaled_first && tab_inward && density_behind_the_sum && cant_of_zero
    && no_fillets_joined)
unfolding of_bits to_bits of_int round add sub mul div neg lt le eq ne inertia_about_of of_origin_tensor in_order sums_of inertia_of join_of tab_integrals_of plate_body with_fillets canted_of concluded_area
plates_hold = tt
