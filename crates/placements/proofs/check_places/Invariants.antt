-- `placements::check_places` meets its contract: what is left to check from place k on gives the answer. Assumes nothing.
use mathlib.Core.Path.{◌≡◌}
use Rattle.refusals.specs.Order.{first_between}
use Rattle.placements.specs.Places.{place_at, place_check, places_check}
use Rattle.placements.proofs.check_places.Given as goal

abbrev pub invariant-loop-k : goal.invariant-loop-k
invariant-loop-k l = first_between l.k l.n (λ i. place_check (place_at l.rolled l.places i)) ≡ places_check l.rolled l.places
