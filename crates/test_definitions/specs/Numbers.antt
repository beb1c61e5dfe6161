-- Numbers: powers and comparisons of f64s, the root, sine and cosine, the airfoil's constants, figures and counts as
-- text.
use Rattle.std.specs.Prelude.{Bool, true, false, not, ◌&&◌, List, [], ◌∷◌, ℕ, T, eqb, Float, Option, Some, None}
use Rattle.std.specs.Float.Ieee.{add, sub, mul, div, neg, of_bits, to_bits, of_int, round, is_nan, lt, le, eq, ne}
use Rattle.floats.specs.Operations.{bits}
use Rattle.floats.specs.Constants.{one, two}
use Rattle.floats.specs.Floats.{is_finite, abs_of, min_of, max_of, square, cube, fourth, fifth}
use Rattle.root.specs.Root.{near_root, root_of}
use Rattle.trig.specs.Trig.{m_of, quarter_turns, sin_cos_of, sin_of, cos_of}
use Rattle.sections.specs.Airfoil.{closed_tail, open_tail, airfoil_constants}
use Rattle.hexadecimal.specs.Hex as hex
use Rattle.counts.specs.Counts as counts
use Rattle.test_definitions.specs.Rows.{is, are, same}

abbrev tenth : Float
tenth = bits 0x3fb9_9999_9999_999a

abbrev no_number : Float
no_number = bits 0x7ff8_0000_0000_0000

abbrev infinity : Float
infinity = bits 0x7ff0_0000_0000_0000

abbrev minus_zero : Float
minus_zero = bits 0x8000_0000_0000_0000

-- ---- f64s

-- "powi: 2 is y·y, 3 is y·(y·y), 4 is (y·y)·(y·y), 5 is y·((y·y)·(y·y))": grouped from the left, the fourth and fifth
-- power of 0.1 would end in 2f and f3
abbrev pub powers_grouped : Bool
powers_grouped =
    is (square tenth) 0x3f84_7ae1_47ae_147c
    && is (cube tenth) 0x3f50_624d_d2f1_a9fd
    && is (fourth tenth) 0x3f1a_36e2_eb1c_4330
    && is (fifth tenth) 0x3ee4_f8b5_88e3_68f4

-- "max ignoring NaN", and so min; of two zeros the first is given
abbrev pub larger_and_smaller : Bool
larger_and_smaller =
    is (max_of one two) 0x4000_0000_0000_0000
    && is (max_of no_number one) 0x3ff0_0000_0000_0000
    && is (max_of one no_number) 0x3ff0_0000_0000_0000
    && is (max_of minus_zero (bits 0)) 0x8000_0000_0000_0000
    && is (min_of one two) 0x3ff0_0000_0000_0000
    && is (min_of no_number one) 0x3ff0_0000_0000_0000
    && is (min_of one no_number) 0x3ff0_0000_0000_0000

-- a magnitude has no sign, nor has a zero's; infinity and NaN are not finite
abbrev pub magnitude_and_finite : Bool
magnitude_and_finite =
    is (abs_of (neg two)) 0x4000_0000_0000_0000
    && is (abs_of minus_zero) 0
    && is_finite two
    && not (is_finite infinity)
    && not (is_finite no_number)

-- every NaN pattern is read as the one NaN, which is 7ff8000000000000
abbrev pub one_nan : Bool
one_nan = is (bits 0xfff0_0000_0000_0001) 0x7ff8_0000_0000_0000 && is one 0x3ff0_0000_0000_0000

-- ---- root, sine and cosine

-- "±0 gives itself, +infinity itself, negative or NaN gives NaN"
abbrev pub root_of_signs : Bool
root_of_signs =
    is (root_of minus_zero) 0x8000_0000_0000_0000
    && is (root_of infinity) 0x7ff0_0000_0000_0000
    && is (root_of (neg one)) 0x7ff8_0000_0000_0000
    && is (root_of no_number) 0x7ff8_0000_0000_0000

-- √(1 + 2^-52) lies just below half a last place above 1, and is 1; the smallest f64 is 2^-1074, and its root 2^-537
abbrev pub root_rounded : Bool
root_rounded =
    is (root_of (bits 0x3ff0_0000_0000_0001)) 0x3ff0_0000_0000_0000 && is (root_of (bits 1)) 0x1e60_0000_0000_0000

-- f·0.6366197723675814 is exactly 1.5 at f = 3π/4: "halves away from zero"
abbrev pub halves_away_from_zero : Bool
halves_away_from_zero =
    is (m_of (quarter_turns (bits 0x4002_d97c_7f33_21d2))) 0x4000_0000_0000_0000
    && is (m_of (quarter_turns (bits 0xc002_d97c_7f33_21d2))) 0xc000_0000_0000_0000

-- "m mod 4 .. = 0, 1, 2, 3", at 0.5, 1, 2.5 and 5, and for m = −1 at −1; other divisors or another order would change
-- last bits
abbrev pub four_quarters : Bool
four_quarters =
    are (sin_of (bits 0x3fe0_0000_0000_0000) ∷ cos_of (bits 0x3fe0_0000_0000_0000) ∷ [])
    (0x3fde_aee8_744b_05f0 ∷ 0x3fec_1528_065b_7d50 ∷ [])
    && are (sin_of one ∷ cos_of one ∷ []) (0x3fea_ed54_8f09_0cee ∷ 0x3fe1_4a28_0fb5_068c ∷ [])
    && are (sin_of (bits 0x4004_0000_0000_0000) ∷ cos_of (bits 0x4004_0000_0000_0000) ∷ [])
    (0x3fe3_26af_0dcf_cab0 ∷ 0xbfe9_a2f7_ef85_8b7d ∷ [])
    && are (sin_of (bits 0x4014_0000_0000_0000) ∷ cos_of (bits 0x4014_0000_0000_0000) ∷ [])
    (0xbfee_af81_f5e0_9933 ∷ 0x3fd2_2785_706b_4ada ∷ [])
    && are (sin_of (neg one) ∷ cos_of (neg one) ∷ []) (0xbfea_ed54_8f09_0cee ∷ 0x3fe1_4a28_0fb5_068c ∷ [])

-- ---- the airfoils' constants

-- the constants of 0.1036, the closed tail, and of 0.1015, the open one, each rounded once; in document 01's rounded
-- steps the first three would end in 38, 53, 8b and 50, 26, 87
abbrev pub airfoil_constants_lem : Bool
airfoil_constants_lem =
    are (airfoil_constants closed_tail)
    (0x3fe5_c9cb_d821_dc3a ∷ 0x3fd2_35cb_4c52_7755 ∷ 0x3fc3_f527_c52c_738c ∷ 0x3fde_1ebf_45da_60e0 ∷ [])
    && are (airfoil_constants open_tail)
    (0x3fe5_ec33_e1f6_7153 ∷ 0x3fd2_6f23_5cb4_c527 ∷ 0x3fc4_5775_981e_1d88 ∷ 0x3fde_43d2_465b_1ff1 ∷ [])

-- ---- texts

abbrev figure : ℕ → Option Float → Bool
figure b (Some x) = is x b
figure b None = false

abbrev no_figure : Option Float → Bool
no_figure (Some x) = false
no_figure None = true

-- fifteen zeros and a last digit
abbrev zeros_and : ℕ → List ℕ
zeros_and d = 48 ∷ 48 ∷ 48 ∷ 48 ∷ 48 ∷ 48 ∷ 48 ∷ 48 ∷ 48 ∷ 48 ∷ 48 ∷ 48 ∷ 48 ∷ 48 ∷ 48 ∷ d ∷ []

-- "16 lowercase hexadecimal digits", the most significant first; an uppercase digit, or one digit alone, makes no
-- figure
abbrev pub lowercase_digits : Bool
lowercase_digits =
    figure 10 (hex.figure_of (zeros_and 97)) && no_figure (hex.figure_of (zeros_and 65))
    && no_figure (hex.figure_of (97 ∷ []))

-- four digits and twelve zeros
abbrev then_zeros : ℕ → ℕ → ℕ → ℕ → List ℕ
then_zeros a b c d = a ∷ b ∷ c ∷ d ∷ 48 ∷ 48 ∷ 48 ∷ 48 ∷ 48 ∷ 48 ∷ 48 ∷ 48 ∷ 48 ∷ 48 ∷ 48 ∷ 48 ∷ []

-- "either zero prints as all 0, a NaN as 7ff8000000000000"; 1 is 3ff0000000000000
abbrev pub printed_figures : Bool
printed_figures =
    same (hex.figure_text one) (then_zeros 51 102 102 48)
    && same (hex.figure_text (bits 0)) (then_zeros 48 48 48 48)
    && same (hex.figure_text minus_zero) (then_zeros 48 48 48 48)
    && same (hex.figure_text no_number) (then_zeros 55 102 102 56)

abbrev count : ℕ → Option ℕ → Bool
count n (Some m) = eqb m n
count n None = false

-- "Counts are decimal": 204, printed and read; a colon, the byte after 9, is no digit; 999,999 is not capped
abbrev pub decimal_counts : Bool
decimal_counts =
    count 204 (counts.count_of (50 ∷ 48 ∷ 52 ∷ []))
    && not (count 10 (counts.count_of (58 ∷ [])))
    && same (counts.count_text 204) (50 ∷ 48 ∷ 52 ∷ [])
    && eqb (counts.capped 999_999) 999_999

pub numbers_hold :
    T
    (powers_grouped
    && larger_and_smaller
    && magnitude_and_finite
    && one_nan
    && root_of_signs
    && root_rounded
    && halves_away_from_zero
    && four_quarters
    && airfoil_constants_lem
    && lowercase_digits
    && printed_figures
    && decimal_counts)
unfolding of_bits to_bits of_int round add sub mul div neg lt le eq ne is_nan abs_of root_of near_root m_of sin_cos_of airfoil_constants hex.figure_of hex.read_digits hex.digits hex.figure_text counts.count_of counts.read_digits counts.digits counts.count_text
numbers_hold = tt
