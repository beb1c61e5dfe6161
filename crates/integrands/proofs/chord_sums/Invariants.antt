-- `integrands::chord_sums` meets its contract: what is left to add, with the sums so far, is the whole. Assumes nothing.
use Rattle.integrands.proofs.Pairs.{Left}
use Rattle.integrands.proofs.chord_sums.Given as goal

abbrev pub invariant-loop-k : goal.invariant-loop-k
invariant-loop-k l = Left l.kind l.scale l.h l.ends l.sums l.k
