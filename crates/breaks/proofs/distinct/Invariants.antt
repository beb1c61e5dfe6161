-- `breaks::distinct` meets its contract: those kept so far, with what is kept of the rest, are the whole. Assumes nothing.
use Prim.Native.Nat.{◌<◌}
use lib.ListN.{take}
use Rattle.sorting.specs.Sorted.{Written}
use Rattle.breaks.proofs.Kept.{Kept, zeros}
use Rattle.breaks.proofs.distinct.Given as goal

abbrev pub invariant-loop-i : goal.invariant-loop-i
invariant-loop-i l = (l.count < l.i) × Written (take l.count l.heights) zeros l.heights l.count
    × Kept l.xs l.n l.i (take l.count l.heights)
