-- `chords::edges_near` meets its contract: at point i the edges before it are asked. Assumes nothing.
use mathlib.Core.Path.{◌≡◌}
use Prim.Native.Nat.{◌-◌}
use lib.Ieee.{lt, le}
use Rattle.planforms.specs.Planforms.{height_at, pair_count}
use Rattle.chords.proofs.Near.{KeptTo}
use Rattle.chords.proofs.edges_near.Given as goal

abbrev pub invariant-loop-i : goal.invariant-loop-i
invariant-loop-i l = (l.below ≡ le (height_at l.points (l.i - 1)) l.lo) × (l.above ≡ lt l.hi (height_at l.points (l.i - 1)))
    × KeptTo l.points (pair_count l.points) l.lo l.hi (l.i - 1) l.edges l.count
