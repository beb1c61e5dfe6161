-- `lent_jobs::read_outcome` meets its contract. Assumes nothing.
use Rattle.lent_jobs.specs.Memory.{outcome_in}
use Rattle.lent_jobs.proofs.read_outcome.Goals as goal

pub returns : goal.returns
unfolding outcome_in
returns c =
    rw (c.body_of-body.ensures, c.verdict_of-verdict.ensures)
