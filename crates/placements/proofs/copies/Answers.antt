-- `placements::copies` meets its contract: a list that the checks accept holds 1 to 32 places. Assumes nothing.
use mathlib.Core.Path.{sym, ◌∙◌}
use Rattle.placements.proofs.Counts.{counted}
use Rattle.placements.proofs.copies.Goals as goal

pub placed_copies-requires : goal.placed_copies-requires
placed_copies-requires c = counted _ _ _ (sym c.check_copies.ensures ∙ c.in_ok-check_copies.was)
