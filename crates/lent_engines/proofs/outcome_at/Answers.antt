-- `lent_engines::outcome_at` meets its contract. Assumes nothing.
use Rattle.lent_engines.proofs.Calls.{outcome_is}
use Rattle.lent_engines.proofs.outcome_at.Goals as goal

pub returns : goal.returns
returns c = outcome_is _ _ _ _ _ c.place_of-place.ensures.0 c.read_at-job.ensures
