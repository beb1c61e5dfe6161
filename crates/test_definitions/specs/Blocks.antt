-- Blocks to read: the row that a line gets, and lines that only look like an answer.
use Rattle.std.specs.Prelude.{Bool, ◌&&◌, [], ◌∷◌, ◌++◌, ℕ, T}
use Prim.Native.String.{String}
use Rattle.std.specs.Float.Ieee.{of_bits, to_bits, round, mul, neg, lt, eq, ne}
use Rattle.floats.specs.Operations.{bits}
use Rattle.floats.specs.Floats.{abs_of}
use Rattle.hexadecimal.specs.Hex as hex
use Rattle.counts.specs.Counts as counts
use Rattle.tokens.specs.Text.{text, codes}
use Rattle.significant.specs.Significant.{digits_up_to, digit_count, nearest_whole, digits_of, place_of}
use Rattle.blocks.specs.Words.{over_words}
use Rattle.blocks.specs.Tables.{text_for}
use Rattle.blocks.specs.Filled.{filled}
use Rattle.blocks.specs.Cards.{all, newline, kilogram_square_metre, beside_from, mass_line, moment_line, mixed_line}
use Rattle.blocks.specs.Cards.{sentences, cards, block_of, numbered_block}
use Rattle.test_definitions.specs.Rows.{is, same}

-- the block of a line is one line, and an empty one after it
abbrev shows : String → String → Bool
shows line block = same (block_of (text line)) (text block ++ (10 ∷ 10 ∷ []))

-- a refusal is its sentence; 14 is no number any more
abbrev pub answers_shown : Bool
answers_shown =
    shows "(refused 4)" "refused 4: a length is out of its limits"
    && shows "(refused 14)" "refused 14: no number of the table"
    && shows "(inside 2)" "inside; the nearest corner is 2"
    && shows "(done 3 (refused 13))" "screen 3: refused 13: the sums did not settle within the limit's pieces, or cannot"

-- lines that are no answer: a letter where a figure or a count belongs, another space, a bracket less, no byte
abbrev pub no_answers : Bool
no_answers =
    shows "(closing F)" "no answer of the card program"
    && shows "(inside N)" "no answer of the card program"
    && shows "(sound) " "no answer of the card program"
    && shows "(sound" "no answer of the card program"
    && shows "" "no answer of the card program"

-- 0.05 m is 50 mm, to six digits
abbrev pub millimetres : Bool
millimetres = shows "(closing 3fa999999999999a)" "the ring closes at an outer radius of 50.0000 mm"

-- beside 1 the figure 2^-40 counts, and a last bit less is 0; all three are looked at for the largest, whatever their
-- signs
abbrev pub noise : Bool
noise =
    beside 0x3ff0_0000_0000_0000 0x3d70_0000_0000_0000 0xbd6f_ffff_ffff_ffff
    && beside 0xbff0_0000_0000_0000 0xbd70_0000_0000_0000 0x3d6f_ffff_ffff_ffff
  where
    beside : ℕ → ℕ → ℕ → Bool
    beside largest enough less =
        is (beside_from (bits less ∷ bits enough ∷ bits largest ∷ []) 0 0) 0
        && is (beside_from (bits less ∷ bits enough ∷ bits largest ∷ []) 0 1) enough
        && is (beside_from (bits less ∷ bits enough ∷ bits largest ∷ []) 0 2) largest

-- roll is zz, pitch xx and yaw yy; a z of −1 m is aft; mixed entries of 0 are not shown
abbrev pub body_shown : Bool
body_shown =
    same
    (block_of
    (text "(joined (mass 4000000000000000) (centre 0000000000000000 0000000000000000 bff0000000000000) (inertia 0000000000000000 4000000000000000 4008000000000000 0000000000000000 0000000000000000 0000000000000000))"))
    (all
    (text "mass 2000.00 g" ∷ newline
    ∷ text "balance point 1000.00 mm aft of the origin, off the axis by 0 mm in x and 0 mm in y" ∷ newline
    ∷ text "moments about it: roll (zz) 3.00000, pitch (xx) 0, yaw (yy) 2.00000 " ∷ kilogram_square_metre ∷ newline
    ∷ newline
    ∷ []))

-- the number of the line stands above its block
abbrev pub line_numbered : Bool
line_numbered =
    same (numbered_block 12 (text "(idle)"))
    (all (text "line 12" ∷ newline ∷ text "no screen has a job" ∷ newline ∷ newline ∷ []))

pub blocks_hold : T (answers_shown && no_answers && line_numbered)
unfolding of_bits text codes over_words text_for filled mass_line moment_line mixed_line beside_from sentences cards block_of numbered_block hex.figure_of hex.read_digits counts.count_of counts.read_digits counts.digits counts.count_text
blocks_hold = tt

pub millimetres_hold : T millimetres
unfolding of_bits lt eq ne text codes over_words text_for filled mass_line moment_line mixed_line beside_from sentences cards block_of hex.figure_of hex.read_digits counts.count_of counts.read_digits counts.digits counts.count_text digits_up_to digit_count nearest_whole digits_of place_of
millimetres_hold = tt

pub noise_holds : T noise
unfolding of_bits to_bits round mul lt eq ne abs_of beside_from
noise_holds = tt

pub body_shown_holds : T body_shown
unfolding of_bits round mul neg lt eq ne abs_of text codes over_words text_for filled mass_line moment_line mixed_line beside_from sentences cards block_of hex.figure_of hex.read_digits counts.count_of counts.read_digits counts.digits counts.count_text digits_up_to digit_count nearest_whole digits_of place_of
body_shown_holds = tt
