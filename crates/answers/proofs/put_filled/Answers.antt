-- `answers::put_filled` meets its contract: what is there with what is still to come is the whole. Assumes nothing.
use Rattle.answers.proofs.Filling.{has_room_at, next, ends}
use Rattle.answers.proofs.put_filled.Goals as goal

pub put_piece-p-requires : goal.put_piece-p-requires
put_piece-p-requires c = has_room_at c.loop-b.invariant c.loop-b-test.true

pub loop-b-preserved : goal.loop-b-preserved
loop-b-preserved c =
    next c.loop-b.invariant c.loop-b-test.true c.put_piece-p.ensures
    c.put_piece-p.auto.out

pub returns : goal.returns
returns c = ends c.loop-b.invariant c.loop-b-test.false
