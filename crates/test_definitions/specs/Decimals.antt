-- Decimals out: significant digits and how they are written.
use Rattle.std.specs.Prelude.{Bool, true, false, ◌&&◌, ℕ, T, eqb}
use Prim.Native.String.{String}
use Rattle.std.specs.Float.Ieee.{of_bits, lt, eq, ne}
use Rattle.floats.specs.Operations.{bits}
use Rattle.counts.specs.Counts.{digits, count_text}
use Rattle.tokens.specs.Text.{text, codes}
use Rattle.significant.specs.Significant.{decimal_units_of, digits_up_to, digit_count, nearest_whole, digits_of, place_of}
use Rattle.significant.specs.Printed.{decimal_text}
use Rattle.test_definitions.specs.Rows.{same}

-- x to n digits: d * 10 ^ place units of 10 ^ -1074
abbrev to : ℕ → ℕ → ℕ → ℕ → Bool
to n x d place = eqb (digits_of n (decimal_units_of (bits x))) d && eqb (place_of n (decimal_units_of (bits x))) place

-- 2.5, 3.5 and 9.5 to one digit: ties go to the even one, the last of which is 10; the f64 of 0.1,
-- 0.10000000000000000555.., is 0.1 to sixteen digits
abbrev pub ties_to_even : Bool
ties_to_even =
    to 1 0x4004_0000_0000_0000 2 1074
    && to 1 0x400c_0000_0000_0000 4 1074
    && to 1 0x4023_0000_0000_0000 1 1075
    && to 16 0x3fb9_9999_9999_999a 1000000000000000 1058

-- 0.999999500000000041.. is over a half of the sixth digit, and its neighbour below is not; zero and infinity have no
-- digit
abbrev pub carried_digits : Bool
carried_digits =
    to 6 0x3fef_fffe_f390_85f5 100000 1069
    && to 6 0x3fef_fffe_f390_85f4 999999 1068
    && to 6 0x8000_0000_0000_0000 0 0
    && to 6 0x7ff0_0000_0000_0000 0 0

abbrev written : ℕ → Bool → ℕ → String → Bool
written scale power x s = same (decimal_text 6 scale power (bits x)) (text s)

-- 0.1377 kg in g, −0.1 m in mm, 0.00134.. with an exponent; the smallest positive f64 and the largest; what has no
-- digits
abbrev pub decimals_written : Bool
decimals_written =
    written 3 false 0x3fc1_a027_5254_60aa "137.700"
    && written 3 false 0xbfb9_9999_9999_999a "-100.000"
    && written 0 true 0x3f56_1772_f7ea_12f8 "1.34836e-3"
    && written 0 false 0x3f90_624d_d2f1_a9fc "0.0160000"
    && written 0 false 1 "4.94066e-324"
    && written 0 false 0x7fef_ffff_ffff_ffff "1.79769e308"
    && written 0 false 0xfff0_0000_0000_0000 "-infinite"
    && written 0 false 0x7ff8_0000_0000_0000 "no number"
    && written 0 false 0x8000_0000_0000_0000 "0"

-- each is a theorem of its own, since a whole number of a thousand digits is worked in each

pub ties_hold : T ties_to_even
unfolding of_bits lt eq ne digits_up_to digit_count nearest_whole digits_of place_of digits count_text text codes
ties_hold = tt

pub carried_hold : T carried_digits
unfolding of_bits lt eq ne digits_up_to digit_count nearest_whole digits_of place_of digits count_text text codes
carried_hold = tt

pub written_hold : T decimals_written
unfolding of_bits lt eq ne digits_up_to digit_count nearest_whole digits_of place_of digits count_text text codes
written_hold = tt
