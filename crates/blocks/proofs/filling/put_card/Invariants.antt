-- `blocks::filling::put_card` meets its contract: what is there with what is still to come is the whole. Assumes nothing.
use Rattle.blocks.specs.Cards.{card, card_most}
use Rattle.blocks.proofs.Said.{card_fits}
use Rattle.blocks.proofs.Whole.{SoFar}
use Rattle.blocks.proofs.filling.put_card.Given as goal

abbrev pub invariant-loop-b : goal.invariant-loop-b
invariant-loop-b l = SoFar card card_most card_fits l.initial.out l.n l.template l.figures l.counts l.out l.p l.b-index
