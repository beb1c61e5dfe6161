-- What the private functions of `steps` take and give.
use Rattle.std.specs.Prelude.{true, ◌≡◌, ℕ, ◌*◌, ◌^◌, ◌≤◌, ◌<◌, T, Float}
use Rattle.floats.specs.Units.{units_of}
use Rattle.limits.specs.Limits.{length_within}

-- x is a length within the limits, zero and negative ones among them
abbrev pub IsLength : Float → Type 0
IsLength x = T (length_within true true x)

-- the magnitude is digits / step steps, of 2^1054 units each, and at most 2^26
pub record AreParts (x : Float) (digits step : ℕ) : Type 0 where
  pub some : 0 < step
  pub is : units_of x * step ≡ digits * 2 ^ 1054
  pub most : digits ≤ 2 ^ 26 * step
