-- `lent_jobs::make` meets its contract. Assumes nothing.
use Rattle.lent_jobs.proofs.Laws.{job_made}
use Rattle.lent_jobs.proofs.make.Goals as goal

pub returns : goal.returns
returns c =
    job_made _ _ c.make-made.result _ _ c.write_job.ensures _ _ _ c.make-made.ensures.is
