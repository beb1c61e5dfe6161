-- `floats::abs` meets its contract: each of its three answers by what the tests against 0 say. Assumes nothing.
use mathlib.Core.Path.{sym, subst}
use lib.Dec.{T}
use Rattle.floats.proofs.Zeros.{below_zero, equal_zero, above_zero}
use Rattle.floats.proofs.abs.Goals as goal

pub returns-then-x : goal.returns-then-x
returns-then-x c = below_zero c.args.x c.if-x.true

pub returns-then-x-2 : goal.returns-then-x-2
returns-then-x-2 c = equal_zero c.args.x (subst T (sym c.well_formed.0.1) tt) c.if-x-2.true

pub returns : goal.returns
returns c = above_zero c.args.x c.if-x.false c.if-x-2.false
