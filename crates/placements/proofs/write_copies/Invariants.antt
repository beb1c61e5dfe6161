-- `placements::write_copies` meets its contract: after k turns the first k copies stand in the list. Assumes nothing.
use mathlib.Core.Path.{◌≡◌}
use Rattle.joins.specs.Flat.{with_bodies}
use Rattle.placements.specs.Places.{place_at}
use Rattle.placements.specs.Copies.{copy_at}
use Rattle.placements.proofs.write_copies.Given as goal

abbrev pub invariant-loop-k : goal.invariant-loop-k
invariant-loop-k l = l.bodies ≡ with_bodies (λ i. copy_at l.body (place_at l.rolled l.places i)) l.k l.initial.bodies
