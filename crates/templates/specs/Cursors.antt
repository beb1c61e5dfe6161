-- How the code keeps a reading: a place in the line, and the figures at the start of a lent slice.
use Rattle.std.specs.Prelude.{Bool, true, false, cond, List, [], ◌∷◌, ◌≡◌, ℕ, ◌+◌, ◌≤◌, ltb, length, take, drop, Float}
use Rattle.std.specs.Prelude.{Option, Some, None}
use Rattle.counts.specs.Counts.{count_of, capped_count}
use Rattle.tokens.specs.Text.{text}
use Rattle.tokens.specs.Tokens.{line_bytes, tokens}
use Rattle.tokens.specs.Found.{part}
use Rattle.tokens.specs.declared.TokenRange.{TokenRange}
use Rattle.templates.specs.Matching.{Taken, Reading, failed, reading, pick, same_bytes, cut_at_bars}
use Rattle.templates.specs.declared.Cursor.{Cursor}

-- what had been taken of a line before a cursor
abbrev pub taken_before : List Float → Cursor → Taken
taken_before values c = record { figures = take c.figures values; number = c.number; spoiled = c.spoiled }

abbrev pub reading_at : List ℕ → List Float → Cursor → Reading
reading_at line values c = pick c.ok (reading (tokens (drop c.at line)) (taken_before values c)) failed

-- the most figures that a line may have: each has at least one byte
abbrev pub line_figures : ℕ
line_figures = line_bytes

pub record Room (line : List ℕ) (values : List Float) (c : Cursor) : Type 0 where
  pub short : length line ≤ line_bytes
  pub room : length line ≤ length values
  pub within : c.at ≤ length line
  pub few : c.figures ≤ c.at

-- reading on from c gave r: its reading is the one meant, the figures before it are kept, and there is room still
pub record ReadsOn (line : List ℕ) (before after : List Float) (c r : Cursor) (meant : Reading) : Type 0 where
  pub is : reading_at line after r ≡ meant
  pub kept : take c.figures after ≡ take c.figures before
  pub grows : c.figures ≤ r.figures
  pub room : Room line after r

-- reading on from c gave r, by a step from where reading stands
abbrev pub Takes : (Reading → Reading) → List ℕ → List Float → List Float → Cursor → Cursor → Type 0
Takes step line before after c r = ReadsOn line before after c r (step (reading_at line before c))

-- `found` is the place of a token at or after a cursor
pub record IsWordAt (line : List ℕ) (c : Cursor) (found : TokenRange) : Type 0 where
  pub behind : c.at ≤ found.from
  pub ordered : found.from ≤ found.to
  pub within : found.to ≤ length line

-- the cursor at the beginning of a line
abbrev pub line_start : Cursor
line_start = record { ok = true; at = 0; figures = 0; number = 0; spoiled = false }

abbrev pub not_aform : Cursor → Cursor
not_aform c = record { ok = false; at = c.at; figures = c.figures; number = c.number; spoiled = c.spoiled }

abbrev pub on_to : Cursor → ℕ → Cursor
on_to c to = record { ok = true; at = to; figures = c.figures; number = c.number; spoiled = c.spoiled }

abbrev pub spoiled_to : Cursor → ℕ → Cursor
spoiled_to c to = record { ok = true; at = to; figures = c.figures; number = c.number; spoiled = true }

abbrev pub pick_cursor : Bool → Cursor → Cursor → Cursor
pick_cursor true a b = a
pick_cursor false a b = b

-- the cursor after a word that is a count; any other word makes the line no form
abbrev pub counted : Option ℕ → Cursor → ℕ → Cursor
counted (Some n) c to = record { ok = true; at = to; figures = c.figures; number = n; spoiled = c.spoiled }
counted None c to = not_aform c

-- the cursor after a word held against a token of a template other than `F`
abbrev pub plain_to : List ℕ → List ℕ → Cursor → ℕ → Cursor
plain_to wanted w c to =
    pick_cursor (same_bytes wanted (text "N")) (counted (capped_count (count_of w)) c to)
    (pick_cursor (same_bytes wanted w) (on_to c to) (not_aform c))

abbrev pub numbered_cursor : ℕ → Cursor → Cursor
numbered_cursor k c = record { ok = c.ok; at = c.at; figures = c.figures; number = k; spoiled = c.spoiled }

-- `end` is the place of the first bar from place i on, or the end of the text
pub record IsBarEnd (alternatives : List ℕ) (i end : ℕ) : Type 0 where
  pub behind : i ≤ end
  pub within : end ≤ length alternatives
  pub cut :
      cut_at_bars (drop i alternatives)
      ≡ part alternatives i end ∷ cond (ltb end (length alternatives)) (cut_at_bars (drop (end + 1) alternatives)) []
