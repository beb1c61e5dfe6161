-- `lent_engines::read_at` meets its contract: a job's part of both lists. Assumes nothing.
use Rattle.lent_engines.proofs.Engines.{job_read}
use Rattle.lent_engines.proofs.read_at.Goals as goal

pub returns : goal.returns
returns c = job_read _ _ c.args.place c.requires.1 _ c.read_job.ensures
