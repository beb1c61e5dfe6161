-- `hexadecimal::values` meets its contract: lane by lane it is what is taken from one byte. Assumes nothing.
use native.Mathlib.Omega.{arith}
use lib.Bits.{and_le_r}
use Rattle.hexadecimal.proofs.Words.{values_are}
use Rattle.hexadecimal.proofs.values.Goals as goal

pub returns : goal.returns
returns c = values_are c.args.w (omega arith)
