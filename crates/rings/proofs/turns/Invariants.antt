-- `rings::turns` meets its contract: after k turns of the loop the first k turns stand in the array. Assumes nothing.
use mathlib.Core.Path.{◌≡◌}
use lib.ListN.{length}
use Rattle.rings.specs.Rings.{TurnsTo}
use Rattle.rings.proofs.turns.Given as goal

abbrev pub invariant-loop-k : goal.invariant-loop-k
invariant-loop-k l = (length l.all ≡ 32) × TurnsTo l.k l.base_angle_rad l.count l.all
