-- `breaks::keep_unless_equal` meets its contract: by the test. Assumes nothing.
use native.Mathlib.Omega.{arith}
use lib.Seq.{length-take-le}
use Rattle.sorting.proofs.Over.{written_itself, written_put}
use Rattle.breaks.proofs.keep_unless_equal.Goals as goal

pub returns : goal.returns
returns c =
    let a = c.args in
    rw c.if-a-b.false
    (written_put a.a (written_itself a.count a.xs.now (omega arith))
    (rw (length-take-le a.count a.xs.now (omega arith)) (omega arith)))
