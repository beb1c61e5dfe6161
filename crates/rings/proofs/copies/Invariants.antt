-- `rings::copies` meets its contract: after k turns of the loop the first k copies stand in the array. Assumes nothing.
use mathlib.Core.Path.{◌≡◌}
use lib.ListN.{length}
use Rattle.rings.specs.Rings.{CopiesTo}
use Rattle.rings.proofs.copies.Given as goal

abbrev pub invariant-loop-k : goal.invariant-loop-k
invariant-loop-k l = (length l.list ≡ 32) × CopiesTo l.k l.body l.base_angle_rad l.count l.list
