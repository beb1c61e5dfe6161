-- `hexadecimal::letters` meets its contract: lane by lane it is the letter of one value. Assumes nothing.
use Prim.Native.Nat.{◌+◌, ◌≤◌}
use native.Mathlib.Omega.{arith}
use lib.Bits.{and_le_r}
use Rattle.hexadecimal.proofs.Words.{values_le, letters_are}
use Rattle.hexadecimal.proofs.letters.Goals as goal

small : (c : goal.Start) → c.args.v ≤ 0x0f0f_0f0f_0f0f_0f0f
small c = values_le c.args.v (omega arith) c.requires

pub overflow_add-result : goal.overflow_add-result
overflow_add-result c = omega (arith, small c)

pub overflow_add-result-2 : goal.overflow_add-result-2
overflow_add-result-2 c = omega (arith, small c)

pub overflow_mul-result : goal.overflow_mul-result
overflow_mul-result c = omega (arith, and_le_r (c.args.v + 0x0606_0606_0606_0606) 0x1010_1010_1010_1010)

pub overflow_add-result-3 : goal.overflow_add-result-3
overflow_add-result-3 c = omega (arith, small c, and_le_r (c.args.v + 0x0606_0606_0606_0606) 0x1010_1010_1010_1010)

pub returns : goal.returns
returns c = letters_are c.args.v (omega arith) c.requires
