-- What the functions that `drill` calls take, once its checks have passed, and what they give.
use Rattle.std.specs.Prelude.{cond, List, ◌∷◌, map, ℕ, ◌<◌, ℤ, length, Float, Result, Ok, Err}
use Rattle.floats.specs.Operations.{at}
use Rattle.refusals.specs.declared.Refusal.{Refusal}
use Rattle.refusals.specs.declared.Refusal.TheVariants.{NotWholeSteps}
use Rattle.steps.specs.Parts.{IsLength}
use Rattle.steps.specs.Steps.{steps_of}
use Rattle.drill.specs.declared.Place.{Place}
use Rattle.drill.specs.Drill.{are_whole, place_of}

-- every number of a list is within the limits of a length
abbrev pub AreLengths : List Float → Type 0
AreLengths l = (k : ℕ) → k < length l → IsLength (at l k)

-- the answer for corners and a point in units of 2^-1074 m: where the point lies, or 25
unfoldable pub in_steps : List ℤ → ℤ → ℤ → Result Place Refusal
in_steps corners x height =
    cond (are_whole (x ∷ height ∷ corners)) (Ok (place_of (map steps_of corners) (steps_of x) (steps_of height)))
    (Err NotWholeSteps)
