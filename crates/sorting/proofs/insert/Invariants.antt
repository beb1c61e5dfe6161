-- `sorting::insert` meets its contract: what is left to do at k, with what stands behind it, is the whole. Assumes nothing.
use mathlib.Core.Path.{◌≡◌}
use lib.ListN.{take}
use Rattle.sorting.specs.Sorted.{insert, over}
use Rattle.sorting.proofs.Insertion.{Left}
use Rattle.sorting.proofs.insert.Given as goal

abbrev pub invariant-loop-k : goal.invariant-loop-k
invariant-loop-k l = Left l.x l.xs l.k ≡ over (insert l.x (take l.n l.initial.xs)) l.initial.xs
