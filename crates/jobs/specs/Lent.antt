-- What the calls on a lent job promise: the record at exit, the answer, and the scratch at exit.
use Rattle.std.specs.Prelude.{List, Float}
use Rattle.materials.specs.declared.Density.{Density}
use Rattle.jobs.specs.declared.Job.{Job}
use Rattle.jobs.specs.declared.Progress.{Progress}
use Rattle.jobs.specs.declared.Reply.{Reply}
use Rattle.jobs.specs.Jobs.{StepsTo, IsReplied, change_of}

-- a step of a lent job: the record at exit and the answer are those of the step by value
abbrev pub StepsLent : Job → List Float → Progress → Job → List Float → Type 0
StepsLent before entry r after exit = StepsTo before entry (record { job = after; progress = r }) exit

-- a change of a lent job's density: the record at exit and the answer are those of the change by value
abbrev pub ChangesLent : Job → Density → Reply → Job → Type 0
ChangesLent before density r after = IsReplied (record { job = after; reply = r }) (change_of before density)
