-- `body_check::largest_magnitude` meets its contract: after k entries the largest of their magnitudes is in hand. Assumes nothing.
use Rattle.std.proofs.Common.{refl, add-one}
use Rattle.body_check.specs.BodyCheck.{largest_magnitude}
use Rattle.body_check.proofs.largest_magnitude.Goals as goal

pub loop-entry-init : goal.loop-entry-init
unfolding largest_magnitude
loop-entry-init c = refl

pub loop-entry-preserved : goal.loop-entry-preserved
unfolding largest_magnitude
loop-entry-preserved c = rw (c.max-largest.ensures, c.abs.ensures, c.loop-entry.invariant, add-one)
