-- `lent_engines::read_screens` meets its contract. Assumes nothing.
use mathlib.Core.Path.{refl}
use Rattle.lent_engines.specs.Memory.{screens_in}
use Rattle.lent_engines.proofs.read_screens.Goals as goal

pub returns : goal.returns
unfolding screens_in
returns c = refl
