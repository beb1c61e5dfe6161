-- `tubes::mass_properties` meets its contract: a count that the checks accept is at most 32. Assumes nothing.
use mathlib.Core.Path.{sym, ◌∙◌}
use Rattle.refusals.proofs.Accepted.{both}
use Rattle.limits.proofs.Accepted.{count_within}
use Rattle.tubes.specs.Tubes.{tube_check}
use Rattle.tubes.proofs.mass_properties.Goals as goal

pub ring-requires : goal.ring-requires
unfolding tube_check
ring-requires c = (count_within _ (both _ _ (sym c.check_tubes.ensures ∙ c.in_ok-check_tubes.was)).0).1
