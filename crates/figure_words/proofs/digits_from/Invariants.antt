-- `figure_words::digits_from` meets its contract: after the place i the run so far, and it stops at a byte that is no
-- digit, or where it must. Assumes nothing.
use Rattle.figure_words.specs.Runs.{Runs}
use Rattle.figure_words.proofs.digits_from.Given as goal

abbrev pub invariant-loop-i : goal.invariant-loop-i
invariant-loop-i l = Runs l.word l.at l.n l.before l.number l.i
