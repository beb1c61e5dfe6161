-- What the program does with the bytes that it reads. Which bytes a read brings and which a write takes no contract can
-- say (docs/ASSUMED.md). The records below name what each of them gave; they say how the bytes in the chunk are shown,
-- and which block the first bytes of `out` are, which are handed to write; and they count the bytes that were read, and
-- those that were handed to write.
use Rattle.std.specs.Prelude.{List, [], ◌∷◌, ◌++◌, Bool, true, ◌&&◌, cond, ◌≡◌, ℕ, ◌+◌, ◌<◌, ◌≤◌, length, take}
use Rattle.tokens.specs.Text.{text}
use Rattle.reads.specs.Reads.{brought, at_end, most_read}
use Rattle.input_lines.specs.declared.State.{State}
use Rattle.input_lines.specs.Lines.{lines_within, lines_of}
use Rattle.input_lines.specs.Kept.{Keeps}
use Rattle.input_lines.specs.Taking.{Place}
use Rattle.line_runs.specs.declared.Last.{Last}
use Rattle.line_runs.specs.declared.Step.{Step}
use Rattle.line_runs.specs.declared.End.{End}
use Rattle.line_runs.specs.Runs.{Ends}
use Rattle.line_runs.specs.Runs.{Steps as StepsOver}
use Rattle.blocks.specs.Cards.{numbered_bytes, numbered_block}
use Rattle.explanations.specs.Explanations.{numbered_kept, numbered_explanation}
use Rattle.shown_lines.specs.declared.Maker.{Maker}
use Rattle.shown_lines.specs.declared.Maker.TheVariants.{Blocks, Explanations}
use Rattle.shown_lines.specs.declared.Showing.{Showing}

-- what is made of a line: of an answer its block, of a line its explanation
abbrev pub made_by : Maker → ℕ → List ℕ → List ℕ
made_by Blocks n line = numbered_block n line
made_by Explanations n line = numbered_explanation n line

-- what is made of the bytes that are kept of a line, and of whether it has more
abbrev pub kept_by : Maker → ℕ → List ℕ → Bool → List ℕ
kept_by Blocks n kept over = numbered_block n kept
kept_by Explanations n kept over = numbered_kept n kept over

-- what is told where not every line was shown (docs/FORMS.md, "Where a read or a write fails")
abbrev pub told_by : Maker → List ℕ
told_by Blocks = text "readable: a read or a write failed; the answers without a block were not shown" ++ (10 ∷ [])
told_by Explanations =
    text "explain: a read or a write failed; the lines without an explanation were not explained" ++ (10 ∷ [])

module _ (maker : Maker) where
  -- the blocks of lines, one each, numbered from n on
  unfoldable pub blocks_from : ℕ → List (List ℕ) → List ℕ
  blocks_from n [] = []
  blocks_from n (line ∷ lines) = made_by maker n line ++ blocks_from (n + 1) lines

  -- what is told on standard error, by whether every line was shown (docs/FORMS.md, "Where a read or a write fails")
  unfoldable pub told : Bool → List ℕ
  told shown =
      cond shown [] (told_by maker)

  -- lines shown after m lines that ended: the text is their blocks, and n have ended then
  pub record Shown (m : ℕ) (lines : List (List ℕ)) (text : List ℕ) (n : ℕ) : Type 0 where
    pub blocks : text ≡ blocks_from (m + 1) lines
    pub ends : n ≡ m + length lines

  -- the line that has begun is at its end: the first `written` bytes of `out` are its block
  pub record ShowsLine (buffer : List ℕ) (s : State) (number : ℕ) (out : List ℕ) (r : Last) : Type 0 where
    pub block : (begun : List ℕ) → Keeps buffer s begun → take r.written out ≡ made_by maker number begun
    pub room : r.written ≤ length out

  -- what is told at the end of a run: that every line was shown, where the last read gave the end and every write took
  -- all
  pub record Tells (out : List ℕ) (r : End) : Type 0 where
    pub holds : take r.told out ≡ told (at_end r.turn.got && r.all)
    pub room : r.told ≤ length out

  -- a whole run
  pub record Runs (out : List ℕ) (r : End) : Type 0 where
    -- the bytes that were taken, and the rest of those read, which were not, as a write had failed
    pub taken : List ℕ
    pub rest : List ℕ
    pub reads : r.turn.read ≡ length taken + length rest
    -- all that was handed to write, in order (which bytes each write was handed: `ShowsLine`)
    pub text : List ℕ
    pub hands : r.handed ≡ length text
    -- it is the block of every line at the input's end, and where a read or a write failed, of every line that ended
    pub blocks : text ≡ blocks_from 1 (cond (at_end r.turn.got) (lines_of taken) (lines_within [] taken))
    -- at the input's end there is no rest
    pub all : at_end r.turn.got ≡ true → rest ≡ []
    -- it ends where a read brings nothing or a write does not take all, and else only once the most bytes are read
    pub stops : 0 < brought r.turn.got → r.all ≡ true → most_read ≤ r.turn.read
    pub tells : Tells out r

-- lines shown, by what shows them, and what stays of it after some bytes
pub record ShownOver (before : Showing) (lines : List (List ℕ)) (text : List ℕ) (after : Showing) : Type 0 where
  pub shown : Shown before.maker before.ended lines text after.ended
  pub maker : after.maker ≡ before.maker

pub record StaysOver (before : Showing) (taken : ℕ) (after : Showing) : Type 0 where
  pub ended : after.ended ≤ before.ended + taken
  pub maker : after.maker ≡ before.maker

-- bytes of a chunk taken from where the program stands on: the first `written` bytes of `out` are the blocks of the
-- lines that ended in these bytes
abbrev pub Steps : Place Showing → Place Showing → Step → Step → List ℕ → List ℕ → Type 0
Steps before after s r chunk out = StepsOver ShownOver StaysOver numbered_bytes before after s r chunk out

-- the end of the input: the line that has begun is the last, unless it has no byte
abbrev pub ShowsLast : Place Showing → Showing → List ℕ → Last → Type 0
ShowsLast before after out r = Ends ShownOver (λ m. told m.maker) numbered_bytes before after out r
