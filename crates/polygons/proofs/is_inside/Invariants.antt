-- `polygons::is_inside` meets its contract: after i turns the first i edges are looked at. Assumes nothing.
use mathlib.Core.Path.{◌≡◌}
use Prim.Native.Nat.{◌≤◌}
use Rattle.polygons.specs.Polygons.{cuts, count}
use Rattle.polygons.proofs.is_inside.Given as goal

abbrev pub invariant-loop-i : goal.invariant-loop-i
invariant-loop-i l = (l.cut ≤ l.i)
    × (l.cut ≡ count l.i (cuts l.corners l.x l.height))
