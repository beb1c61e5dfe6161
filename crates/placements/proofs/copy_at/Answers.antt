-- `placements::copy_at` meets its contract: turned, then moved. Assumes nothing.
use Rattle.placements.specs.Copies.{copy_at}
use Rattle.placements.proofs.copy_at.Goals as goal

pub returns : goal.returns
unfolding copy_at
returns c = rw (c.translated.ensures, c.turned_copy.ensures)
