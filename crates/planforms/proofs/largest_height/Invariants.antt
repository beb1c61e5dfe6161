-- `planforms::largest_height` meets its contract: after i turns the largest of the first i heights is in hand. Assumes nothing.
use mathlib.Core.Path.{◌≡◌}
use Rattle.planforms.specs.Planforms.{largest_height}
use Rattle.planforms.proofs.largest_height.Given as goal

abbrev pub invariant-loop-i : goal.invariant-loop-i
invariant-loop-i l = l.largest ≡ largest_height l.points l.i
