-- Each turn keeps the cursor in its place.
use Rattle.std.proofs.Common.{◌≡◌, ℕ, ◌-◌, ◌≤◌, List, length}
use lib.Ieee.{Float}
use Rattle.test_questions.specs.declared.reading.Cursor.{Cursor}
use Rattle.test_questions.specs.Parts.{line_figures, Reached}
use Rattle.test_questions.proofs.reading.take_text.Given as goal

pub record SoFar (line template : List ℕ) (before after : List Float) (s : Cursor) (i : ℕ) : Type 0 where
  pub place : i ≤ length template
  pub reached : Reached line s
  pub room : line_figures ≤ length after
  pub same : length after ≡ length before

abbrev pub invariant-loop-i : goal.invariant-loop-i
invariant-loop-i l = SoFar l.line l.template l.initial.values l.values l.s l.i

abbrev pub decreases-loop-i : goal.decreases-loop-i
decreases-loop-i l = length l.template - l.i
