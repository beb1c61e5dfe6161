-- `blocks::filling::put_plain` meets its contract: what is there with what is still to come is the whole. Assumes nothing.
use Rattle.blocks.specs.Filled.{plain, plain_most}
use Rattle.blocks.proofs.Pieces.{plain_fits}
use Rattle.blocks.proofs.Whole.{SoFar}
use Rattle.blocks.proofs.filling.put_plain.Given as goal

abbrev pub invariant-loop-b : goal.invariant-loop-b
invariant-loop-b l = SoFar plain plain_most plain_fits l.initial.out l.n l.template l.figures l.counts l.out l.p l.b-index
