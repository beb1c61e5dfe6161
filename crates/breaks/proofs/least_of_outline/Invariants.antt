-- `breaks::least_of_outline` meets its contract: after i points, what is found is the least of theirs. Assumes nothing.
use mathlib.Core.Path.{◌≡◌}
use Rattle.breaks.specs.Breaks.{heights, least_above}
use Rattle.breaks.proofs.least_of_outline.Given as goal

abbrev pub invariant-loop-i : goal.invariant-loop-i
invariant-loop-i l = l.found ≡ least_above l.h (heights l.points l.i)
