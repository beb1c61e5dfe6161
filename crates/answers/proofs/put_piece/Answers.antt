-- `answers::put_piece` meets its contract: each answer by the law of its case. Assumes nothing.
use Rattle.answers.proofs.Pieces.{plain_put, one_byte}
use Rattle.answers.proofs.put_piece.Goals as goal

pub returns : goal.returns
returns c =
    plain_put c.args.out.now c.args.p c.args.b c.args.figures.now c.args.counts.now c.if-b-eq70.false
    c.if-b-eq78.false c.requires.figures_left c.requires.counts_left
    (one_byte c.args.out.now c.args.p c.args.b c.args.figures.now c.args.counts.now c.requires
    c.if-b-eq70.false c.if-b-eq78.false)
