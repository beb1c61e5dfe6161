-- `drill::are_whole` meets its contract: after i turns the first i coordinates are looked at. Assumes nothing.
use mathlib.Core.Bool.{Bool}
use mathlib.Core.List.{List, map}
use mathlib.Core.Path.{◌≡◌}
use Prim.Native.Nat.{ℕ}
use lib.IntN.{pos}
use lib.ListN.{get_or}
use lib.Ieee.{Float}
use Rattle.floats.specs.Operations.{every}
use Rattle.steps.specs.Steps.{exact_of, is_whole}
use Rattle.drill.proofs.are_whole.Given as goal

abbrev pub at_place : List Float → ℕ → Bool
at_place points k = is_whole (get_or (map exact_of points) k (pos 0))

abbrev pub invariant-loop-point : goal.invariant-loop-point
invariant-loop-point l = l.whole ≡ every l.point-index (at_place l.points)
