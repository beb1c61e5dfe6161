-- Lines and answers as text: figures as words, tokens, forms, and what is printed (docs/FORMS.md).
use Rattle.std.specs.Prelude.{Bool, true, false, not, ◌&&◌, List, [], ◌∷◌, ◌≡◌, refl, ℕ, T, eqb, Float, Option, Some}
use Rattle.std.specs.Prelude.{None}
use Prim.Native.String.{String}
use Rattle.std.specs.Float.Ieee.{of_bits, to_bits, round, is_nan, eq}
use Rattle.floats.specs.Operations.{bits, tabulate}
use Rattle.refusals.specs.Refusals as refusals
use Rattle.hexadecimal.specs.Hex as hex
use Rattle.counts.specs.Counts as counts
use Rattle.tokens.specs.Text.{text, codes}
use Rattle.tokens.specs.Tokens.{tokens_after, tokens}
use Rattle.figure_words.specs.FigureWords.{leading_digits, behind_digits, number_from, unsigned_figure, decimal_figure}
use Rattle.figure_words.specs.FigureWords.{figure_word}
use Rattle.templates.specs.Matching.{is_word_byte, is_word, take_word, take_one, take_token, take_tokens, take_text, first_of}
use Rattle.materials.specs.declared.Density.TheVariants.{Bulk}
use Rattle.materials.specs.Numbered.{numbered_density}
use Rattle.reading.specs.declared.Asked.{Asked}
use Rattle.reading.specs.declared.Asked.TheVariants.{Refused as RefusedAsked, Set as SetAsked, Area as AreaAsked}
use Rattle.reading.specs.declared.Asked.TheVariants.{Join as JoinAsked, Moments as MomentsAsked, Check as CheckAsked}
use Rattle.reading.specs.declared.Asked.TheVariants.{Tubes as TubesAsked, Closing as ClosingAsked, Drill as DrillAsked}
use Rattle.reading.specs.declared.Asked.TheVariants.{Copied as CopiedAsked, Placed as PlacedAsked, Moved as MovedAsked}
use Rattle.reading.specs.declared.Asked.TheVariants.{Without as WithoutAsked, Submit as SubmitAsked}
use Rattle.reading.specs.declared.Asked.TheVariants.{Density as DensityAsked, Turn as TurnAsked, Progress as ProgressAsked}
use Rattle.reading.specs.Parts.{take_density}
use Rattle.reading.specs.Lines.{closing_read, density_read, progress_read, plain_read, pick_form, form_named, line_read}
use Rattle.answers.specs.Filled.{filled}
use Rattle.answers.specs.declared.Shape.{Shape}
use Rattle.answers.specs.declared.Shape.TheVariants.{Area, Joined, Moments, Sound, Taken, Idle, More, Done}
use Rattle.answers.specs.declared.Shape.TheVariants.{DoneRefused, Progress, Refused as RefusedShape}
use Rattle.answers.specs.Answers.{text_of, reply}
use Rattle.test_definitions.specs.Rows.{is, same}

-- ---- words

abbrev figure : ℕ → String → Bool
figure b word = is_number (figure_word (text word))
  where
    is_number : Option Float → Bool
    is_number (Some x) = is x b
    is_number None = false

abbrev no_figure : String → Bool
no_figure word = is_none (figure_word (text word))
  where
    is_none : Option Float → Bool
    is_none (Some x) = false
    is_none None = true

-- "`0.0032`, `-5`, `+12.50`; not `.5`, `5.`, `1e3`"; 1 to 19 digits in all; sixteen bare digits are no figure, with a
-- sign or a point they are one; no sign stands before the mark
abbrev pub figure_words : Bool
figure_words =
    figure 0x3f6a_36e2_eb1c_432d "0.0032"
    && figure 0xc014_0000_0000_0000 "-5"
    && figure 0x4029_0000_0000_0000 "+12.50"
    && figure 0x3ff0_0000_0000_0000 "#3ff0000000000000"
    && figure 0x43e1_58e4_6091_3d00 "9999999999999999999"
    && figure 0x4311_8b54_f22a_eb00 "1234567890123456.0"
    && no_figure ".5"
    && no_figure "5."
    && no_figure "1e3"
    && no_figure "10000000000000000000"
    && no_figure "1.0000000000000000000"
    && no_figure "1234567890123456"
    && no_figure "-#3ff0000000000000"
    && no_figure "+#3ff0000000000000"

-- a tie goes to the even last bit; the digits as one f64, then divided, would end in 5d
abbrev pub nearest_to_decimals : Bool
nearest_to_decimals =
    figure 0x4340_0000_0000_0000 "9007199254740993.0" && figure 0x430a_8304_6267_065e "932800531062987.7"

-- "A word is a run of the bytes 33 to 126 other than brackets"
abbrev pub word_bytes : Bool
word_bytes =
    is_word_byte 33 && is_word_byte 126 && not (is_word_byte 127) && not (is_word_byte 32) && not (is_word_byte 40)
    && not (is_word_byte 41)

abbrev same_tokens : List (List ℕ) → List (List ℕ) → Bool
same_tokens [] [] = true
same_tokens [] (w ∷ ws) = false
same_tokens (v ∷ vs) [] = false
same_tokens (v ∷ vs) (w ∷ ws) = same v w && same_tokens vs ws

-- brackets end a word and are tokens; a tab is a byte of a word
abbrev pub tokens_cut : Bool
tokens_cut =
    same_tokens (tokens (text " (ab c)")) (text "(" ∷ text "ab" ∷ text "c" ∷ text ")" ∷ [])
    && same_tokens (tokens (97 ∷ 9 ∷ 98 ∷ [])) ((97 ∷ 9 ∷ 98 ∷ []) ∷ [])

-- ---- forms

-- the number by which a line is refused, or 0
abbrev number_of : Asked → ℕ
number_of (RefusedAsked refusal) = refusals.number_of refusal
number_of (SetAsked limit set points) = 0
number_of (AreaAsked limit planform points) = 0
number_of JoinAsked = 0
number_of MomentsAsked = 0
number_of CheckAsked = 0
number_of (TubesAsked set radius) = 0
number_of (ClosingAsked count radius) = 0
number_of (DrillAsked planform points x height) = 0
number_of CopiedAsked = 0
number_of PlacedAsked = 0
number_of MovedAsked = 0
number_of WithoutAsked = 0
number_of (SubmitAsked screen limit set points) = 0
number_of (DensityAsked screen density) = 0
number_of TurnAsked = 0
number_of (ProgressAsked screen) = 0

abbrev read : ℕ → List ℕ → Bool
read n line = eqb (number_of (line_read line).asked) n

-- 19 for a word that is no figure where one belongs, 18 wherever the line is no form, and 18 first
abbrev pub no_form_first : Bool
no_form_first =
    read 0 (text "(closing (count 4) (radius 1))")
    && read 19 (text "(closing (count 4) (radius x))")
    && read 18 (text "(closing (count 4) (radius x)) 1")
    && read 18 (text "(closing (count x) (radius 1))")
    && read 18 (text "(closing (count 4)")

-- a density's line has the screen and then the density; a turn has nothing after its word
abbrev pub engine_lines : Bool
engine_lines =
    read 0 (text "(turn)")
    && read 18 (text "(turn 1)")
    && read 0 (text "(density 3 (bulk 5))")
    && read 19 (text "(density 3 (bulk x))")
    && read 18 (text "(density x (bulk 5))")
    && read 0 (text "(progress 3)")
    && read 18 (text "(progress)")

-- ---- answers

abbrev prints : Shape → List Float → List ℕ → List ℕ → Bool
prints shape figures counts line = same (text_of (reply shape figures counts)) line

-- the intervals before the samples; three numbers of a centre, three moments, ten numbers of a body
abbrev pub answers_printed : Bool
answers_printed =
    prints RefusedShape [] (18 ∷ []) (text "(refused 18)")
    && prints Sound [] [] (text "(sound)")
    && prints Moments (bits 1 ∷ bits 2 ∷ bits 3 ∷ []) []
    (text "(moments 0000000000000001 0000000000000002 0000000000000003)")
    && prints Area (bits 1 ∷ bits 2 ∷ bits 3 ∷ []) (4 ∷ 105 ∷ [])
    (text "(area (area 0000000000000001) (centroid 0000000000000002 0000000000000003) (intervals 4) (samples 105))")
    && prints Joined (tabulate 10 (λ i. bits i)) []
    (text "(joined (mass 0000000000000000) (centre 0000000000000001 0000000000000002 0000000000000003) (inertia 0000000000000004 0000000000000005 0000000000000006 0000000000000007 0000000000000008 0000000000000009))")

-- the screen first, then intervals and samples, or the refusal's number; strips worked before strips in all
abbrev pub engine_answers : Bool
engine_answers =
    prints Taken [] [] (text "(taken)")
    && prints Idle [] [] (text "(idle)")
    && prints More [] (3 ∷ []) (text "(more 3)")
    && prints DoneRefused [] (3 ∷ 13 ∷ []) (text "(done 3 (refused 13))")
    && prints Progress [] (1 ∷ 2 ∷ 3 ∷ 45 ∷ []) (text "(progress (worked 1) (strips 2) (intervals 3) (samples 45))")
    && prints Done (tabulate 10 (λ i. bits i)) (8 ∷ 2 ∷ 30 ∷ [])
    (text "(done 8 (figures (mass 0000000000000000) (centre 0000000000000001 0000000000000002 0000000000000003) (inertia 0000000000000004 0000000000000005 0000000000000006 0000000000000007 0000000000000008 0000000000000009) (intervals 2) (samples 30)))")

-- the screen and the density that a line of a density asks for
pub density_line : (line_read (text "(density 3 (bulk 5))")).asked ≡ DensityAsked 3 (Bulk (bits 0x4014000000000000))
unfolding of_bits to_bits round is_nan eq text codes tokens_after leading_digits behind_digits number_from unsigned_figure decimal_figure figure_word is_word take_word take_one take_token take_tokens take_text first_of take_density numbered_density closing_read density_read progress_read plain_read pick_form form_named line_read filled text_of hex.figure_of hex.read_digits hex.digits hex.figure_text counts.count_of counts.read_digits counts.digits counts.count_text
density_line = refl

pub texts_hold :
    T
    (figure_words && nearest_to_decimals && word_bytes && tokens_cut && no_form_first && engine_lines
    && answers_printed && engine_answers)
unfolding of_bits to_bits round is_nan eq text codes tokens_after leading_digits behind_digits number_from unsigned_figure decimal_figure figure_word is_word take_word take_one take_token take_tokens take_text first_of take_density numbered_density closing_read density_read progress_read plain_read pick_form form_named line_read filled text_of hex.figure_of hex.read_digits hex.digits hex.figure_text counts.count_of counts.read_digits counts.digits counts.count_text
texts_hold = tt
