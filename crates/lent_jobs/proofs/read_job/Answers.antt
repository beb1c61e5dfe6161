-- `lent_jobs::read_job` meets its contract. Assumes nothing.
use Rattle.lent_jobs.specs.Memory.{job_in}
use Rattle.lent_jobs.proofs.read_job.Goals as goal

pub returns : goal.returns
unfolding job_in
returns c =
    rw (c.read_outcome-outcome.ensures, c.read_outline-outline.ensures, c.read_set-set.ensures)
