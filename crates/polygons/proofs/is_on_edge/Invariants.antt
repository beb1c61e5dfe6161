-- `polygons::is_on_edge` meets its contract: after i turns the first i edges are looked at. Assumes nothing.
use mathlib.Core.Path.{◌≡◌}
use Rattle.polygons.specs.Polygons.{is_on, some}
use Rattle.polygons.proofs.is_on_edge.Given as goal

abbrev pub invariant-loop-i : goal.invariant-loop-i
invariant-loop-i l = l.on_edge ≡ some l.i (is_on l.corners l.x l.height)
