-- Reading a line by templates (docs/FORMS.md). A template is written as the form is: its tokens are held against the
-- line's, one by one. `F` stands for a figure, `F..` for figures, as many as there are, and `N` for a count.
use Rattle.std.specs.Prelude.{List, [], ◌∷◌, ◌++◌, Bool, true, false, ◌&&◌, not, cond, ℕ, zero, suc, leb, eqb, Float}
use Rattle.std.specs.Prelude.{Option, Some, None}
use Rattle.counts.specs.Counts.{count_of, capped_count}
use Rattle.tokens.specs.Text.{text}
use Rattle.tokens.specs.Tokens.{line_bytes, tokens}
use Rattle.figure_words.specs.FigureWords.{figure_word}

-- what has been taken from a line: its figures in their order; the last number, which is a count or an alternative's;
-- and whether it is spoiled: whether a word of neither shape of a figure stood where one belongs
pub record Taken : Type 0 where
  pub figures : List Float
  pub number : ℕ
  pub spoiled : Bool

abbrev pub with_figure : Float → Taken → Taken
with_figure x t = record { figures = t.figures ++ (x ∷ []); number = t.number; spoiled = t.spoiled }

abbrev pub with_number : ℕ → Taken → Taken
with_number n t = record { figures = t.figures; number = n; spoiled = t.spoiled }

abbrev pub spoil : Taken → Taken
spoil t = record { figures = t.figures; number = t.number; spoiled = true }

-- the tokens still to come and what has been taken; or that the line is no form
pub data Reading : Type 0 where
  failed : Reading
  reading : List (List ℕ) → Taken → Reading

abbrev pub pick : Bool → Reading → Reading → Reading
pick true a b = a
pick false a b = b

-- ---- one token

abbrev pub same_bytes : List ℕ → List ℕ → Bool
same_bytes [] [] = true
same_bytes [] (y ∷ ys) = false
same_bytes (x ∷ xs) [] = false
same_bytes (x ∷ xs) (y ∷ ys) = eqb x y && same_bytes xs ys

-- "A word is a run of the bytes 33 to 126 other than brackets; any other byte but the space is in no form"
abbrev pub is_word_byte : ℕ → Bool
is_word_byte b = leb 33 b && leb b 126 && not (eqb b 40) && not (eqb b 41)

unfoldable pub is_word : List ℕ → Bool
is_word [] = true
is_word (b ∷ w) = is_word_byte b && is_word w

-- "Where a figure belongs, a line with any word is a form" (docs/FORMS.md): reading goes on after a word that is no
-- figure, and the end of the line refuses it
abbrev pub take_figure : Option Float → List ℕ → List (List ℕ) → Taken → Reading
take_figure (Some x) w ts t = reading ts (with_figure x t)
take_figure None w ts t = pick (is_word w) (reading ts (spoil t)) failed

abbrev pub take_count : Option ℕ → List (List ℕ) → Taken → Reading
take_count (Some n) ts t = reading ts (with_number n t)
take_count None ts t = failed

-- the template's token p against the line's token w: `F` takes a figure, `N` a count, any other token itself. A count
-- is capped at a million here; no answer and no scratch shows it (lines/proofs/Capped).
unfoldable pub take_word : List ℕ → List ℕ → List (List ℕ) → Taken → Reading
take_word p w ts t =
    pick (same_bytes p (text "F")) (take_figure (figure_word w) w ts t)
    (pick (same_bytes p (text "N")) (take_count (capped_count (count_of w)) ts t)
    (pick (same_bytes p w) (reading ts t) failed))

unfoldable pub take_one : List ℕ → Reading → Reading
take_one p failed = failed
take_one p (reading [] t) = failed
take_one p (reading (w ∷ ts) t) = take_word p w ts t

-- ---- repetitions

-- reading goes on with g where a step fitted, else it stands where it stood before the step
abbrev pub while_fits : Reading → Reading → (Reading → Reading) → Reading
while_fits failed before g = before
while_fits (reading ts t) before g = g (reading ts t)

-- a step as often as it fits, at most n times
unfoldable pub take_times : ℕ → (Reading → Reading) → Reading → Reading
take_times zero step r = r
take_times (suc n) step r = while_fits (step r) r (take_times n step)

-- a step as often as it fits: a line has no more tokens than bytes
abbrev pub take_each : (Reading → Reading) → Reading → Reading
take_each step r = take_times line_bytes step r

-- ---- a template

abbrev pub take_figures : Reading → Reading
take_figures r = take_each (take_one (text "F")) r

unfoldable pub take_token : List ℕ → Reading → Reading
take_token p r = pick (same_bytes p (text "F..")) (take_figures r) (take_one p r)

-- a template's tokens, one after another
unfoldable pub take_tokens : List (List ℕ) → Reading → Reading
take_tokens [] r = r
take_tokens (p ∷ ps) r = take_tokens ps (take_token p r)

-- a template, given by its bytes
unfoldable pub take_text : List ℕ → Reading → Reading
take_text template r = take_tokens (tokens template) r

-- ---- alternatives

-- the first of two readings that has not failed
abbrev pub or_else : Reading → Reading → Reading
or_else failed b = b
or_else (reading ts t) b = reading ts t

-- a reading with the number of the alternative that was taken
abbrev pub numbered : ℕ → Reading → Reading
numbered k failed = failed
numbered k (reading ts t) = reading ts (with_number k t)

-- the first template that fits, numbered by its place in the list, from k on
unfoldable pub first_of : ℕ → List (List ℕ) → Reading → Reading
first_of k [] r = failed
first_of k (template ∷ templates) r = or_else (numbered k (take_text template r)) (first_of (suc k) templates r)

-- the first template that fits, numbered from 1 on
abbrev pub one_of : List (List ℕ) → Reading → Reading
one_of templates r = first_of 1 templates r

-- the first template that fits, or none of them, which has number 0
abbrev pub optional : List (List ℕ) → Reading → Reading
optional templates r = or_else (one_of templates r) (numbered 0 r)

-- the templates of a text that has a bar (124) between each two; the first of them goes on from the bytes given
unfoldable pub cut_after : List ℕ → List ℕ → List (List ℕ)
cut_after template [] = template ∷ []
cut_after template (b ∷ bs) = cond (eqb b 124) (template ∷ cut_after [] bs) (cut_after (template ++ (b ∷ [])) bs)

abbrev pub cut_at_bars : List ℕ → List (List ℕ)
cut_at_bars alternatives = cut_after [] alternatives
