-- `answers::put_filled` meets its contract: what is there with what is still to come is the whole. Assumes nothing.
use Rattle.answers.proofs.Filling.{SoFar}
use Rattle.answers.proofs.put_filled.Given as goal

abbrev pub invariant-loop-b : goal.invariant-loop-b
invariant-loop-b l = SoFar l.initial.out l.n l.template l.figures l.counts l.out l.p l.b-index
