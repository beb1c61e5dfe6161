-- `tolerance::bound` meets its contract: the constants are the tolerances. Assumes nothing.
use Rattle.tolerance.proofs.Numbers.{absolute_bits, relative_bits}
use Rattle.tolerance.proofs.bound.Goals as goal

pub returns : goal.returns
returns c = rw (c.max.ensures, c.abs.ensures, absolute_bits, relative_bits)
