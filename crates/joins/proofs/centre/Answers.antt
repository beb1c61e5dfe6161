-- `joins::centre` meets its contract, which goes by the same tests. Assumes nothing.
use Rattle.floats.proofs.Nan.{zero_over_zero}
use Rattle.joins.proofs.centre.Goals as goal

pub returns-then-mass : goal.returns-then-mass
returns-then-mass c = rw (c.if-mass.true, zero_over_zero)
