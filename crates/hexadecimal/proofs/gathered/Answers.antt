-- `hexadecimal::gathered` meets its contract: pairs, fours and eights of the values. Assumes nothing.
use Prim.Native.Nat.{◌+◌, ◌/◌}
use native.Mathlib.Omega.{arith}
use lib.Bits.{and_le_r}
use Rattle.hexadecimal.proofs.Words.{pairs_in, values_le, gathered_are}
use Rattle.hexadecimal.proofs.gathered.Goals as goal

pub overflow_add-pairs : goal.overflow_add-pairs
overflow_add-pairs c = omega (arith, values_le c.args.v (omega arith) c.requires)

pub returns : goal.returns
returns c = gathered_are c.args.v (omega arith) c.requires
