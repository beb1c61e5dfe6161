-- `polygons::nearest_corner` meets its contract: after i turns the nearest of the corners 0 to i is known. Assumes nothing.
use mathlib.Core.Path.{◌≡◌}
use Prim.Native.Nat.{◌-◌, ◌<◌}
use Rattle.polygons.specs.Polygons.{corner_count, nearest_to}
use Rattle.polygons.proofs.nearest_corner.Given as goal

abbrev pub invariant-loop-i : goal.invariant-loop-i
invariant-loop-i l =
    (l.nearest < corner_count l.corners) × (l.nearest ≡ nearest_to l.corners l.x l.height (l.i - 1))
