-- `jobs::take_density` meets its contract. Assumes nothing.
use Rattle.jobs.proofs.take_density.Goals as goal

pub returns : goal.returns
returns c = rw c.with_density-set.ensures
