-- `explanations::put_words` meets its contract: the words put so far and those that are left are the whole. Assumes nothing.
use Prim.Native.Nat.{◌-◌}
use lib.ListN.{length}
use Rattle.explanations.proofs.Wanting.{Listing}
use Rattle.explanations.proofs.put_words.Given as goal

abbrev pub invariant-loop-fault : goal.invariant-loop-fault
invariant-loop-fault l = Listing l.initial.out l.n l.initial.trial l.k l.endings l.fault l.table l.out l.trial l.at l.i

abbrev pub decreases-loop-fault : goal.decreases-loop-fault
decreases-loop-fault l = length l.table - l.i
