-- The word at fault: the first after which no ending saves the line.
use Rattle.std.specs.Prelude.{List, [], ◌∷◌, ◌++◌, Bool, true, false, ◌&&◌, ◌||◌, not, cond, ℕ, zero, suc, eqb, ltb, take}
use Rattle.std.specs.Prelude.{Option, Some, None}
use Rattle.tokens.specs.Text.{text}
use Rattle.tokens.specs.Tokens.{line_bytes}
use Rattle.tokens.specs.declared.TokenRange.{TokenRange}
use Rattle.templates.specs.Matching.{cut_at_bars}
use Rattle.explanations.specs.declared.Fault.{Fault}
use Rattle.tokens.specs.Places.{token_at}
use Rattle.explanations.specs.Faults.{fault_of}

abbrev pub same_fault : Fault → Fault → Bool
same_fault a b = eqb a.number b.number && (eqb a.first b.first && eqb a.second b.second)

-- a line with the fault `other`, or none, is saved from `fault`: it is a form, and is refused for something else or
-- not at all. An ending that leaves half a point, 5, or puts a word in a figure's place, 19, does not fit, and saves
-- from 18 alone.
abbrev pub saves_from : Fault → Option Fault → Bool
saves_from fault None = true
saves_from fault (Some other) =
    not (eqb other.number 18)
    && (not (same_fault other fault)
    && (eqb fault.number 18 || (not (eqb other.number 5) && not (eqb other.number 19))))

-- the first of some texts
abbrev pub first_text : List (List ℕ) → List ℕ
first_text [] = []
first_text (t ∷ ts) = t

-- the part of a text before its first bar
abbrev pub to_bar : List ℕ → List ℕ
to_bar t = first_text (cut_at_bars t)

-- whether an ending saves a line that begins with `start`; an ending is the rest of an example from a space on, and a
-- bar stands between each two examples
abbrev pub saves_with : Fault → List ℕ → List ℕ → Bool
saves_with fault start ending = saves_from fault (fault_of (start ++ ending))

-- whether an ending begins here, with the byte b, and saves a line that begins with `start`
abbrev pub saves_here : Fault → List ℕ → ℕ → List ℕ → Bool
saves_here fault start b endings = eqb b 32 && saves_with fault start (to_bar endings)

-- whether some ending saves a line that begins with `start`
unfoldable pub saved : Fault → List ℕ → List ℕ → Bool
saved fault start [] = false
saved fault start (b ∷ bs) = saves_here fault start b (b ∷ bs) || saved fault start bs

-- whether there is a token, and some ending saves a line that begins with all up to its end
abbrev pub passes : Fault → List ℕ → List ℕ → TokenRange → Bool
passes fault endings line f = ltb f.from f.to && saved fault (take f.to line) endings

abbrev pub pick_found : Bool → TokenRange → TokenRange → TokenRange
pick_found true a b = a
pick_found false a b = b

-- the first token from a place on that does not pass; a line has no more tokens than bytes
unfoldable pub fault_from : ℕ → Fault → List ℕ → List ℕ → ℕ → TokenRange
fault_from zero fault endings line at = record { from = at; to = at }
fault_from (suc n) fault endings line at =
    pick_found (passes fault endings line (token_at line at)) (fault_from n fault endings line (token_at line at).to)
    (token_at line at)

-- the first token of a line that does not pass
abbrev pub fault_place : Fault → List ℕ → List ℕ → TokenRange
fault_place fault endings line = fault_from line_bytes fault endings line 0

-- ---- what is wanted at a place: the words with which a line that begins so is saved

abbrev pub wanted_word : Fault → List ℕ → List ℕ → List ℕ → List ℕ
wanted_word fault endings start word = cond (saved fault (start ++ word) endings) (32 ∷ word) []

unfoldable pub wanted_of : Fault → List ℕ → List ℕ → List (List ℕ) → List ℕ
wanted_of fault endings start [] = []
wanted_of fault endings start (w ∷ ws) = wanted_word fault endings start w ++ wanted_of fault endings start ws

-- what is wanted after `start`: where a figure belongs, a line with any word is a form, so `F` is tried first; else the
-- words of the table, of which none is left where the line is to end
abbrev pub wanted_text : Fault → List ℕ → List ℕ → List ℕ → List ℕ
wanted_text fault endings table start =
    cond (saved fault (start ++ text "F") endings) (text " F") (wanted_of fault endings start (cut_at_bars table))
