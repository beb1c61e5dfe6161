-- `body_check::largest_magnitude` meets its contract: after k entries the largest of their magnitudes is in hand. Assumes nothing.
use mathlib.Core.Path.{◌≡◌}
use Rattle.body_check.specs.BodyCheck.{largest_magnitude}
use Rattle.body_check.proofs.largest_magnitude.Given as goal

abbrev pub invariant-loop-entry : goal.invariant-loop-entry
invariant-loop-entry l = l.largest ≡ largest_magnitude (record { 0 = l.entry-items }) l.entry-index
