-- `lent_jobs::progress_of` meets its contract: of the job that the lists hold. Assumes nothing.
use mathlib.Core.Path.{ap, ◌∙◌}
use Rattle.jobs.specs.Jobs.{progress_of}
use Rattle.lent_jobs.proofs.progress_of.Goals as goal

pub returns : goal.returns
returns c = c.progress_of.ensures ∙ ap progress_of c.read_job-job.ensures
