-- `outlines::check_edge` meets its contract: what is left to check from edge j on gives the answer, and `from` is the
-- place of edge j's start. Assumes nothing.
use mathlib.Core.Path.{◌≡◌}
use Rattle.planforms.specs.Planforms.{pair_count}
use Rattle.refusals.specs.Order.{first_between}
use Rattle.segments.specs.Places.{place_of}
use Rattle.outlines.specs.Outlines.{point_at, edge_at, pair_check, edge_check}
use Rattle.outlines.proofs.check_edge.Given as goal

abbrev pub invariant-loop-j : goal.invariant-loop-j
invariant-loop-j l =
    (l.edge ≡ edge_at l.points l.i)
    × (l.from ≡ place_of l.edge (point_at l.points l.j))
    × (first_between l.j (pair_count l.points) (pair_check l.points l.i) ≡ edge_check l.points l.i)
