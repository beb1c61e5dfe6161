-- `decimals::nearest_decimal` meets its contract: a magnitude with its sign. Assumes nothing.
use native.Mathlib.Omega.{arith}
use Rattle.decimals.proofs.Signs.{with_plus, with_minus}
use Rattle.decimals.proofs.nearest_decimal.Goals as goal

pub returns-then-minus : goal.returns-then-minus
returns-then-minus c = let a = c.args in
    with_minus a.minus a.n a.k _ (omega arith) c.if-minus.true c.magnitude-x.ensures

pub returns-else-minus : goal.returns-else-minus
returns-else-minus c = let a = c.args in
    with_plus a.minus a.n a.k _ (omega arith) c.if-minus.false c.magnitude-x.ensures
