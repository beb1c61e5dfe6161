-- `breaks::put_outline_heights` meets its contract: after i points their heights stand sorted. Assumes nothing.
use Rattle.sorting.specs.Sorted.{sorted, Written}
use Rattle.breaks.specs.Breaks.{heights}
use Rattle.breaks.proofs.put_outline_heights.Given as goal

abbrev pub invariant-loop-i : goal.invariant-loop-i
invariant-loop-i l = Written (sorted (heights l.points l.i)) l.initial.xs l.xs l.i
