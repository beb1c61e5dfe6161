-- `engines::holds_job` meets its contract: a screen, and held. Assumes nothing.
use Rattle.engines.specs.Engines.{holds_job}
use Rattle.engines.proofs.holds_job.Goals as goal

pub returns : goal.returns
unfolding holds_job
returns c = rw (c.is_screen.ensures, c.place_of-place.ensures.0)
