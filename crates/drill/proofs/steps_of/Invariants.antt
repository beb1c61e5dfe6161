-- `drill::steps_of` meets its contract: after i turns the first i places hold the first i coordinates in steps. Assumes nothing.
use mathlib.Core.List.{List, map}
use mathlib.Core.Path.{◌≡◌}
use lib.IntN.{ℤ, pos}
use lib.ListN.{length, get_or}
use lib.Ieee.{Float}
use Rattle.floats.specs.Operations.{Filled}
use Rattle.limits.specs.Limits.{outline_numbers}
use Rattle.steps.specs.Steps.{exact_of, steps_of}
use Rattle.drill.proofs.steps_of.Given as goal

abbrev pub in_steps_lem : List Float → List ℤ
in_steps_lem points = map steps_of (map exact_of points)

abbrev pub invariant-loop-i : goal.invariant-loop-i
invariant-loop-i l =
    (length l.corners ≡ outline_numbers)
    × Filled l.i (pos 0) (λ k. get_or (in_steps_lem l.points) k (pos 0)) l.corners
