-- `blocks::filling::put_card` meets its contract: what is there with what is still to come is the whole. Assumes nothing.
use Rattle.blocks.specs.Cards.{card, card_most}
use Rattle.blocks.proofs.Said.{card_fits}
use Rattle.blocks.proofs.Whole.{has_room_at, next, ends}
use Rattle.blocks.proofs.filling.put_card.Goals as goal

pub put_mark-p-requires : goal.put_mark-p-requires
put_mark-p-requires c = has_room_at card card_most card_fits c.loop-b.invariant c.loop-b-test.true

pub loop-b-preserved : goal.loop-b-preserved
loop-b-preserved c =
    next card card_most card_fits c.loop-b.invariant c.loop-b-test.true
    c.put_mark-p.ensures c.put_mark-p.auto.out

pub returns : goal.returns
returns c = ends card card_most card_fits c.loop-b.invariant c.loop-b-test.false
