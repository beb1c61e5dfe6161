-- `blocks::put_found` meets its contract: where the table has no text, nothing is put. Assumes nothing.
use Rattle.texts.proofs.Appending.{nothing}
use Rattle.blocks.specs.Filled.{filled}
use Rattle.blocks.proofs.Said.{found_filled}
use Rattle.blocks.proofs.put_found.Goals as goal

pub returns-in-None : goal.returns-in-None
unfolding filled
returns-in-None c = found_filled _ _ _ _ _ _ _ _ c.in-None.ensures (nothing _ _)
