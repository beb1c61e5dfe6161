-- How far two exact fractions are from each other.
use Rattle.std.specs.Prelude.{◌*◌, ◌<◌, pos, ◌*ℤ◌, ◌≤ℤ◌}
use Rattle.floats.specs.Fractions.{Fraction, ◌over◌, ◌plus◌}

-- x <= y, where neither divisor is 0
infix 50 ◌at_most◌
abbrev pub ◌at_most◌ : Fraction → Fraction → Type 0
(a over b) at_most (c over d) = (0 < b * d) × ((a *ℤ pos d) ≤ℤ (c *ℤ pos b))

-- |x − y| <= e
pub record Within (e x y : Fraction) : Type 0 where
  pub not_above : x at_most y plus e
  pub not_below : y at_most x plus e
