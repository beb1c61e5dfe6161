-- The explanation of a line (docs/FORMS.md, "Why was my line refused?").
use Rattle.std.specs.Prelude.{List, [], ◌∷◌, ◌++◌, Bool, ◌&&◌, not, cond, ℕ, ◌+◌, ◌-◌, eqb, ltb, length, take}
use Rattle.std.specs.Prelude.{Option, Some, None}
use Rattle.tokens.specs.Text.{text}
use Rattle.tokens.specs.Tokens.{line_bytes}
use Rattle.tokens.specs.Found.{part}
use Rattle.tokens.specs.declared.TokenRange.{TokenRange}
use Rattle.counts.specs.Counts.{count_text}
use Rattle.templates.specs.Matching.{cut_at_bars}
use Rattle.blocks.specs.Tables.{text_for}
use Rattle.blocks.specs.Cards.{refusal_text}
use Rattle.explanations.specs.declared.Fault.{Fault}
use Rattle.explanations.specs.Faults.{fault_of}
use Rattle.explanations.specs.Endings.{fault_place, wanted_text}
use Rattle.explanations.specs.Examples.{examples, form_words, details}

-- where the table has what goes with a number: under that number and its first value
abbrev pub detail_key : Fault → List ℕ
detail_key fault = count_text fault.number ++ (text " " ++ count_text fault.first)

-- the two edges that touch
abbrev pub edges_text : Fault → List ℕ
edges_text fault = text "; edges " ++ (count_text fault.first ++ (text " and " ++ count_text fault.second))

-- what goes with a number: the two edges of 7; the field of 4 and 9 with its limits, the component of 13, the case of
-- 17
abbrev pub detail_text : List ℕ → Fault → List ℕ
detail_text table fault = cond (eqb fault.number 7) (edges_text fault) (text_for (detail_key fault) (cut_at_bars table))

-- the number of a byte, counted from 1
abbrev pub byte_text : ℕ → List ℕ
byte_text from = text "; byte " ++ count_text (from + 1)

-- what is wanted where a line that is no form went wrong
abbrev pub expected_text : List ℕ → List ℕ → List ℕ → Fault → ℕ → List ℕ
expected_text endings table line fault from =
    text "; wanted there:" ++ wanted_text fault endings table (take from line ++ text " ")

-- the end of a word's first 40 bytes
abbrev pub short_end : ℕ → ℕ → ℕ
short_end from to = cond (ltb (to - from) 40) to (from + 40)

-- the word at fault, or its first 40 bytes
abbrev pub shown_text : List ℕ → TokenRange → List ℕ
shown_text line f = text ": " ++ part line f.from (short_end f.from f.to)

-- the place of the word at fault, and the word or, where the line is no form, what is wanted there
abbrev pub at_place : List ℕ → List ℕ → List ℕ → Fault → TokenRange → List ℕ
at_place endings table line fault f =
    byte_text f.from
    ++ cond (eqb fault.number 18) (expected_text endings table line fault f.from) (shown_text line f)

-- whether a refusal is one word's: a scratch that is too short, edges that touch, no area and sums that do not settle
-- are not
abbrev pub is_placed : ℕ → Bool
is_placed number = not (eqb number 2) && (not (eqb number 7) && (not (eqb number 8) && not (eqb number 13)))

abbrev pub place_text : List ℕ → List ℕ → List ℕ → Fault → List ℕ
place_text endings table line fault =
    cond (is_placed fault.number) (at_place endings table line fault (fault_place fault endings line)) []

abbrev pub fault_text : List ℕ → Fault → List ℕ
fault_text line fault =
    text "refused "
    ++ (refusal_text fault.number ++ (detail_text details fault ++ place_text examples form_words line fault))

abbrev pub explained : List ℕ → Option Fault → List ℕ
explained line None = text "accepted"
explained line (Some fault) = fault_text line fault

-- the explanation of a line that is too long: "a longer line is 18"
abbrev pub too_long : List ℕ
too_long = text "refused 18: the line has more than 4096 bytes"

unfoldable pub explanation_of : List ℕ → List ℕ
explanation_of line = cond (ltb line_bytes (length line)) too_long (explained line (fault_of line))

-- the explanation of a line by the bytes that are kept of it, and by whether there were more
abbrev pub kept_explanation : List ℕ → Bool → List ℕ
kept_explanation kept over = cond over too_long (explanation_of kept)

-- one line of text for each line, with its number
abbrev pub numbered : ℕ → List ℕ → List ℕ
numbered number explanation = text "line " ++ (count_text number ++ (text ": " ++ (explanation ++ (10 ∷ []))))

abbrev pub numbered_kept : ℕ → List ℕ → Bool → List ℕ
numbered_kept number kept over = numbered number (kept_explanation kept over)

abbrev pub numbered_explanation : ℕ → List ℕ → List ℕ
numbered_explanation number line = numbered number (explanation_of line)
