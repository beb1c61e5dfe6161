-- `outlines::check_edges` meets its contract: what is left to check from edge i on gives the answer. Assumes nothing.
use mathlib.Core.Path.{◌≡◌}
use Rattle.planforms.specs.Planforms.{pair_count}
use Rattle.refusals.specs.Order.{first_between}
use Rattle.outlines.specs.Outlines.{edge_check, edges_check}
use Rattle.outlines.proofs.check_edges.Given as goal

abbrev pub invariant-loop-i : goal.invariant-loop-i
invariant-loop-i l = first_between l.i (pair_count l.points) (edge_check l.points) ≡ edges_check l.points
