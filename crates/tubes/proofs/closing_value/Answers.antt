-- `tubes::closing_value` meets its contract, which goes by the same test; a count of at most 32 is an f64. Assumes nothing.
use borrow.Author.Tests.{lt-ltb, le-ltb}
use Prim.Native.Nat.{◌^◌}
use native.Mathlib.Omega.{arith}
use lib.Dec.{le→leb}
use lib.Ieee.{in_float}
use Rattle.tubes.specs.Closing.{closing_value}
use Rattle.tubes.proofs.closing_value.Goals as goal

pub returns-then-count-lt3 : goal.returns-then-count-lt3
unfolding closing_value
returns-then-count-lt3 c = rw (lt-ltb _ _ c.if-count-lt3.true)

pub int_to_float-count : goal.int_to_float-count
unfolding in_float
int_to_float-count c = le→leb c.args.count (2 ^ 53) (omega arith)

pub returns : goal.returns
unfolding closing_value
returns c = rw (le-ltb _ _ c.if-count-lt3.false, c.sin_cos-turn.ensures.0)
