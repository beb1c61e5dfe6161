-- `lent_jobs::read_set` meets its contract: the set that the lists hold, where there is one. Assumes nothing.
use mathlib.Core.Path.{ap, ◌∙◌}
use Rattle.fins.specs.Numbered.{known_set}
use Rattle.lent_jobs.specs.Memory.{set_in}
use Rattle.lent_jobs.proofs.read_set.Goals as goal

pub returns : goal.returns
unfolding set_in
returns c = c.known_set.ensures ∙ ap known_set c.set_in.ensures
