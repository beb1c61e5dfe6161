-- Before the first line no screen holds a job, and none was served. Assumes nothing.
use mathlib.Core.Path.{◌≡◌}
use Rattle.engines.specs.Calls.{Begins}
use Rattle.lent_engines.specs.Memory.{no_screens}
use Rattle.lent_engines.proofs.Zeros.{zeros_hold_none}
use Rattle.lent_engines.proofs.Submissions.{begins_with_zeros}
use Rattle.card.specs.Program.{at_first}

pub no_job_at_first : at_first.engine.screens ≡ no_screens
unfolding at_first
no_job_at_first = zeros_hold_none _

pub begins_at_first : Begins at_first.engine
unfolding at_first
begins_at_first = begins_with_zeros _
