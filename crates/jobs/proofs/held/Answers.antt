-- `jobs::held` meets its contract. Assumes nothing.
use mathlib.Core.Path.{◌∙◌}
use Rattle.jobs.proofs.Copies.{least_held}
use Rattle.jobs.proofs.held.Goals as goal

pub returns : goal.returns
returns c = c.min.ensures ∙ least_held _
