-- `tolerance::worst` meets its contract: before place i, the best of the pieces from it on is in hand. Assumes nothing.
use Prim.Native.Nat.{◌-◌}
use Rattle.pieces.specs.Stored.{read_at}
use Rattle.tolerance.proofs.Downward.{Sees}
use Rattle.tolerance.proofs.worst.Given as goal

abbrev pub invariant-loop-i : goal.invariant-loop-i
invariant-loop-i l = Sees (read_at l.scratch) l.b (l.n - 1) l.i l.seen
