-- The run: the rule on one piece, bounds and scores, and where a strip is cut (document 01, "Piece and tally").
use Rattle.std.specs.Prelude.{Bool, true, false, not, ◌&&◌, cond, List, [], ◌∷◌, map, ℕ, T, eqb, length, take, Float, Ok, Err}
use Rattle.std.specs.Float.{nan}
use Rattle.std.specs.Float.Ieee.{add, sub, mul, div, of_bits, to_bits, of_int, round, lt, le, eq, ne}
use Rattle.floats.specs.Operations.{bits, every}
use Rattle.floats.specs.Floats.{abs_of}
use Rattle.gauss_kronrod.specs.Tables.{nodes, kronrod_weights, gauss_weights}
use Rattle.quadrature.specs.declared.Piece.{Piece}
use Rattle.quadrature.specs.Rule.{heights_to, weighted_to, heights_of, piece_of, zeros}
use Rattle.tolerance.specs.Bounds.{total_of, error_of, absolute, relative, bound_for, converged, score_of, last_highest}
use Rattle.tolerance.specs.Bounds.{worst_place, component_of}
use Rattle.halving.specs.Endings.{Ending}
use Rattle.halving.specs.Halving.{repeat, halving}
use Rattle.strips.specs.Strips.{Run, strip_at}
use Rattle.test_definitions.specs.Rows.{is, are}

-- the bits of a half, 1, the f64 after it, 2 and 3
abbrev half : ℕ
half = 0x3fe0_0000_0000_0000

abbrev one : ℕ
one = 0x3ff0_0000_0000_0000

abbrev after_one : ℕ
after_one = 0x3ff0_0000_0000_0001

abbrev two : ℕ
two = 0x4000_0000_0000_0000

abbrev three : ℕ
three = 0x4008_0000_0000_0000

-- an integrand of one component: 0 below a height, and 1 from there on
abbrev step_at : ℕ → Float → List Float
step_at height h = bits (cond (lt h (bits height)) 0 one) ∷ []

-- ---- one piece

-- "centre, then for each node the minus side, then the plus side"
abbrev pub samples_in_order : Bool
samples_in_order =
    eqb (length (heights_of (bits 0xbff0_0000_0000_0000) (bits one))) 15
    && are (take 3 (heights_of (bits 0xbff0_0000_0000_0000) (bits one)))
    (0 ∷ 0xbfef_ba00_9d4d_09b1 ∷ 0x3fef_ba00_9d4d_09b1 ∷ [])

-- "half its width × the Kronrod sum": of a step at 0, from −1 to 1; the Gauss sum would give 3ff357fafc0785f5
abbrev pub value_from_kronrod : Bool
value_from_kronrod =
    let piece = piece_of 1 (step_at 0) (bits 0xbff0_0000_0000_0000) (bits one) in
    are piece.value (0x3ff1_ad04_f908_7091 ∷ []) && are piece.error (0x3fba_af60_2ff1_5640 ∷ [])

-- ---- bounds and scores

-- "max(1e-16, 1e-12 × |summed value|), `max` ignoring NaN"
abbrev pub bounds : Bool
bounds =
    is (bound_for (bits 0)) 0x3c9c_d2b2_97d8_89bc
    && is (bound_for (bits one)) 0x3d71_9799_812d_ea11
    && is (bound_for (bits 0xbff0_0000_0000_0000)) 0x3d71_9799_812d_ea11
    && is (bound_for nan) 0x3c9c_d2b2_97d8_89bc

-- a piece with these errors
abbrev with_errors : List ℕ → Piece
with_errors errors = record { start = bits 0; end = bits one; value = zeros; error = map bits errors }

-- every error is held against its bound, the last too; "its largest error over bound", wherever it stands
abbrev pub every_error : Bool
every_error =
    converged 7 (with_errors (0 ∷ 0 ∷ 0 ∷ 0 ∷ 0 ∷ 0 ∷ 0 ∷ []) ∷ [])
    && not (converged 7 (with_errors (0 ∷ 0 ∷ 0 ∷ 0 ∷ 0 ∷ 0 ∷ one ∷ []) ∷ []))
    && not (converged 7 (with_errors (one ∷ 0 ∷ 0 ∷ 0 ∷ 0 ∷ 0 ∷ 0 ∷ []) ∷ []))
    && is (score_of 7 (λ k. bits one) (with_errors (one ∷ one ∷ one ∷ three ∷ one ∷ one ∷ two ∷ []))) three

-- "on equal scores, is the last in storage order"; the component of refusal 13 is "the last with the largest error over
-- bound"
abbrev pub last_of_equal : Bool
last_of_equal =
    let equal = with_errors (one ∷ one ∷ []) in
    eqb (worst_place 2 (equal ∷ equal ∷ equal ∷ [])) 2
    && eqb (worst_place 2 (equal ∷ with_errors (two ∷ 0 ∷ []) ∷ equal ∷ [])) 1
    && eqb (component_of 2 (equal ∷ [])) 1

-- ---- one strip

abbrev ends_accepted : Ending → Bool
ends_accepted (Ok done) = true
ends_accepted (Err stopped) = false

-- "equal scaled ends": accepted, no piece, no sample
abbrev pub equal_ends : Bool
equal_ends =
    let strip = halving 1 (step_at 0) (bits one) (bits one) 8 in
    ends_accepted strip.ending && eqb (length strip.pieces) 0 && eqb (length strip.heights) 0

abbrev ends_of : List Piece → List Float
ends_of [] = []
ends_of (p ∷ pieces) = p.start ∷ p.end ∷ ends_of pieces

-- a strip with a step at its third is cut at its middle, and ends in 13 once there are L pieces and not before
abbrev pub cut_in_the_middle : Bool
cut_in_the_middle =
    let strip = halving 1 (step_at 0x3fd5_5555_5555_5555) (bits 0) (bits one) 2 in
    not (ends_accepted strip.ending) && are (ends_of strip.pieces) (0 ∷ half ∷ half ∷ one ∷ [])
    && eqb (length strip.heights) 45

-- a sum that is a NaN is over its bound; the middle of two neighbours equals an end, so that nothing is cut
abbrev pub middle_at_an_end : Bool
middle_at_an_end =
    let strip = halving 1 (λ h. nan ∷ []) (bits one) (bits after_one) 8 in
    not (ends_accepted strip.ending) && are (ends_of strip.pieces) (one ∷ after_one ∷ [])
    && eqb (length strip.heights) 15

-- a strip's ends are break heights over the scale: from 1 to 2 at scale 2
abbrev scaled_run : Run
scaled_run =
    record { width = 1; integrand = step_at 0; limit = 8; scale = bits two; heights = map bits (0 ∷ one ∷ two ∷ []) }

abbrev pub ends_over_the_scale : Bool
ends_over_the_scale = is (strip_at scaled_run 1).lower half && is (strip_at scaled_run 1).upper one

-- three theorems, since fifteen samples are worked for each piece

pub pieces_hold : T (samples_in_order && value_from_kronrod)
unfolding of_bits to_bits of_int round add sub mul div lt le eq ne abs_of every nodes kronrod_weights gauss_weights heights_to weighted_to piece_of total_of error_of absolute relative converged score_of last_highest worst_place component_of repeat halving
pieces_hold = tt

pub bounds_hold : T (bounds && every_error && last_of_equal)
unfolding of_bits to_bits of_int round add sub mul div lt le eq ne abs_of every nodes kronrod_weights gauss_weights heights_to weighted_to piece_of total_of error_of absolute relative converged score_of last_highest worst_place component_of repeat halving
bounds_hold = tt

pub strips_hold : T (equal_ends && cut_in_the_middle && middle_at_an_end && ends_over_the_scale)
unfolding of_bits to_bits of_int round add sub mul div lt le eq ne abs_of every nodes kronrod_weights gauss_weights heights_to weighted_to piece_of total_of error_of absolute relative converged score_of last_highest worst_place component_of repeat halving
strips_hold = tt
