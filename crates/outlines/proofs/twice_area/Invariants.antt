-- `outlines::twice_area` meets its contract: after i turns the first i terms are summed. Assumes nothing.
use mathlib.Core.Path.{◌≡◌}
use Rattle.outlines.specs.Outlines.{sum_of_terms}
use Rattle.outlines.proofs.twice_area.Given as goal

abbrev pub invariant-loop-i : goal.invariant-loop-i
invariant-loop-i l = l.sum ≡ sum_of_terms l.points l.i
