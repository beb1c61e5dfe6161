-- `pieces::read` meets its contract: a part of sixteen numbers. Assumes nothing.
use Rattle.pieces.proofs.Storage.{part_size}
use Rattle.pieces.proofs.read.Goals as goal

pub returns : goal.returns
returns c = rw part_size at c.load.ensures
