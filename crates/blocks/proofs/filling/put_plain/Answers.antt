-- `blocks::filling::put_plain` meets its contract: what is there with what is still to come is the whole. Assumes nothing.
use Rattle.blocks.specs.Filled.{plain, plain_most}
use Rattle.blocks.proofs.Pieces.{plain_fits}
use Rattle.blocks.proofs.Whole.{has_room_at, next, ends}
use Rattle.blocks.proofs.filling.put_plain.Goals as goal

pub put_piece-p-requires : goal.put_piece-p-requires
put_piece-p-requires c = has_room_at plain plain_most plain_fits c.loop-b.invariant
    c.loop-b-test.true

pub loop-b-preserved : goal.loop-b-preserved
loop-b-preserved c =
    next plain plain_most plain_fits c.loop-b.invariant c.loop-b-test.true
    c.put_piece-p.ensures c.put_piece-p.auto.out

pub returns : goal.returns
returns c = ends plain plain_most plain_fits c.loop-b.invariant c.loop-b-test.false
