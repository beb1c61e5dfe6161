-- `engines::with_held` meets its contract. Assumes nothing.
use Rattle.engines.specs.Engines.{with_held}
use Rattle.engines.proofs.with_held.Goals as goal

pub returns : goal.returns
unfolding with_held
returns c = rw c.place_of-place.ensures.0
