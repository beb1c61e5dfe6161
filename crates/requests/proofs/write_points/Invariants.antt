-- `requests::write_points` meets its contract: after k turns the first k points stand in the list. Assumes nothing.
use mathlib.Core.Path.{◌≡◌}
use Rattle.joins.specs.Flat.{with_bodies}
use Rattle.requests.specs.Calls.{point_body_at}
use Rattle.requests.proofs.write_points.Given as goal

abbrev pub invariant-loop-k : goal.invariant-loop-k
invariant-loop-k l = l.bodies ≡ with_bodies (point_body_at l.values) l.k l.initial.bodies
