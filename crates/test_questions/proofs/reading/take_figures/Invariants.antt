-- Each turn keeps the cursor in its place.
use Rattle.std.proofs.Common.{◌≡◌, ◌≤◌, length}
use Rattle.test_questions.specs.Parts.{line_figures, Reached}
use Rattle.test_questions.proofs.reading.take_figures.Given as goal

abbrev pub invariant-loop : goal.invariant-loop
invariant-loop l = Reached l.line l.s × (line_figures ≤ length l.values) × (length l.values ≡ length l.initial.values)
