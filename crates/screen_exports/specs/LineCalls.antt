-- What the call on a line returns and leaves in the lent lists (include/delvouzh.h; docs/FORMS.md). Where a list has no
-- room it returns 18 (no form) and leaves every list as it was.
use Rattle.std.specs.Prelude.{◌≡◌, Bool, false, cond, ◌&&◌, List, [], ◌∷◌, ℕ, length}
use Rattle.refusals.specs.declared.Refusal.TheVariants.{NoForm}
use Rattle.refusals.specs.Refusals.{number_of}
use Rattle.answers.specs.Answers.{answer_bytes}
use Rattle.lent_engines.specs.Memory.{engine_numbers_length, engine_counts_length}
use Rattle.lent_engines.specs.Lent.{Leaves}
use Rattle.lines.specs.Lines.{LentMemory, memory_of, lists_of, answer_of, memory_after, calls_of_line}
use Rattle.refusals.specs.Lent.{over, room}

-- there is room for the engine, and for the answer
abbrev pub line_room : LentMemory → List ℕ → List ℕ → Bool
line_room lent answer written =
    room engine_numbers_length lent.numbers engine_counts_length lent.counts && room answer_bytes answer 1 written

pub record LineCall (line : List ℕ) (lent : LentMemory) (answer written : List ℕ) (r : ℕ) (lent' : LentMemory)
    (answer' written' : List ℕ) : Type 0 where
  pub returned : r ≡ cond (line_room lent answer written) 0 (number_of NoForm)
  pub answered : answer' ≡ cond (line_room lent answer written) (over (answer_of line (memory_of lent)) answer) answer
  pub counted :
      written' ≡ cond (line_room lent answer written)
      (over (length (answer_of line (memory_of lent)) ∷ []) written) written
  -- what is left of the scratch, and of the engine that the two lists hold
  pub memory_left :
      memory_of lent' ≡ cond (line_room lent answer written) (memory_after line (memory_of lent)) (memory_of lent)
  -- what is left of the two lists themselves: a line that is no submission, density or turn makes no call of the
  -- engine, and leaves them as they were
  pub lists_left :
      Leaves (cond (line_room lent answer written) (calls_of_line line (memory_of lent)) []) (lists_of lent)
      (lists_of lent')
  pub untouched : line_room lent answer written ≡ false → lent' ≡ lent
