-- The radius of tubes that close the ring around a body (document 02, Paper 3; fins.rs, `closing_radius_m`).
use Rattle.std.specs.Prelude.{cond, [], ◌∷◌, ℕ, ltb, Float, Result}
use Rattle.std.specs.Result.{result_unwrap_or}
use Rattle.floats.specs.Operations.{◌⊖◌, ◌⊗◌, ◌⊘◌, bits, whole}
use Rattle.floats.specs.Constants.{one, pi}
use Rattle.trig.specs.Trig.{sin_of}
use Rattle.refusals.specs.declared.Refusal.{Refusal}
use Rattle.refusals.specs.Order.{first_of}
use Rattle.refusals.specs.Results.{unless_refused, IsResult}
use Rattle.limits.specs.Limits.{body_radius_field, length_check, count_check}

-- the radius that closes a ring, (radius·s)/(1 − s), with the sine s of π/count
abbrev pub closing_with : Float → Float → Float
closing_with radius s = radius ⊗ s ⊘ (one ⊖ s)

-- "Fewer than three tubes close at the body radius."
unfoldable pub closing_value : Float → ℕ → Float
closing_value radius count = cond (ltb count 3) radius (closing_with radius (sin_of (pi ⊘ whole count)))

-- a call's answer is the definition's, with the number and values of its verdict
abbrev pub IsClosing : Result Float Refusal → Result Float Refusal → Type 0
IsClosing r definition = IsResult r definition

-- the radius that is written for an answer: "Figures zero" with a refusal
abbrev pub radius_told : Result Float Refusal → Float
radius_told radius = result_unwrap_or radius (bits 0)

-- "count 0 or over 32 is refused 3, then a bad body radius 4"
unfoldable pub closing_of : Float → ℕ → Result Float Refusal
closing_of radius count =
    unless_refused (first_of (count_check count ∷ length_check body_radius_field radius ∷ []))
    (closing_value radius count)
