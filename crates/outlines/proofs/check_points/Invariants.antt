-- `outlines::check_points` meets its contract: what is left to check from point i on gives the answer. Assumes nothing.
use mathlib.Core.Path.{◌≡◌}
use Rattle.planforms.specs.Planforms.{pair_count}
use Rattle.refusals.specs.Order.{first_between}
use Rattle.outlines.specs.Outlines.{point_check, points_check}
use Rattle.outlines.proofs.check_points.Given as goal

abbrev pub invariant-loop-i : goal.invariant-loop-i
invariant-loop-i l = first_between l.i (pair_count l.points) (point_check l.points) ≡ points_check l.points
