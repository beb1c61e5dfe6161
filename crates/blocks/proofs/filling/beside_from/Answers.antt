-- `blocks::filling::beside_from` meets its contract: 0 or the figure, by the test. Assumes nothing.
use mathlib.Core.Bool.{true, false}
use Rattle.blocks.proofs.Said.{beside}
use Rattle.blocks.proofs.filling.beside_from.Goals as goal

pub returns-then-size-largest : goal.returns-then-size-largest
returns-then-size-largest c =
    beside c.args.figures.now c.args.k c.args.i c.figure_at-x.result c.abs-size.result c.largest_from-largest.result true
    c.figure_at-x.ensures c.abs-size.ensures c.largest_from-largest.ensures c.if-size-largest.true

pub returns : goal.returns
returns c =
    beside c.args.figures.now c.args.k c.args.i c.figure_at-x.result c.abs-size.result c.largest_from-largest.result false
    c.figure_at-x.ensures c.abs-size.ensures c.largest_from-largest.ensures c.if-size-largest.false
