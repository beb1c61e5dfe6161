-- `placements::joined_copies` meets its contract: the list holds the copies, and is joined as they are. Assumes nothing.
use mathlib.Core.Path.{sym, ap, ◌∙◌}
use lib.ListN.{length}
use Rattle.joins.specs.Joins.{combine_of}
use Rattle.joins.proofs.Listed.{length_listed, first_bodies}
use Rattle.joins.proofs.JoinLaws.{combine_listed}
use Rattle.placements.proofs.joined_copies.Goals as goal

pub slice_bounds-combine-end : goal.slice_bounds-combine-end
slice_bounds-combine-end c = sym (ap length (first_bodies _ _ _ c.write_copies.ensures) ∙ length_listed _ _)

pub returns : goal.returns
returns c = c.combine.ensures.is ∙ ap combine_of (first_bodies _ _ _ c.write_copies.ensures)
    ∙ combine_listed _ _
