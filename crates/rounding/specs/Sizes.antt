-- How large an f64 is: bounds on its absolute value, and the powers of two that it is a multiple of. |x| is the
-- fraction num x / den x.
use Rattle.std.specs.Prelude.{ℕ, ◌*◌, ◌^◌, ◌≤◌, T, Float}
use Rattle.std.specs.Float.{binary64}
use Rattle.std.specs.Float.Ieee.{fits, le}
use Rattle.std.specs.Float.Ieee.Scale.{finite}
use Rattle.std.specs.Float.Ieee.Positive.{num, den}

-- x is finite, and |x| <= b / d
pub record AtMost (b d : ℕ) (x : Float) : Type 0 where
  pub finite : T (finite x)
  pub size : num x * d ≤ b * den x

-- x is finite, and |x| >= b / d
pub record AtLeast (b d : ℕ) (x : Float) : Type 0 where
  pub finite : T (finite x)
  pub size : b * den x ≤ num x * d

-- |x| <= 2^p
abbrev pub Below : ℕ → Float → Type 0
Below p x = AtMost (2 ^ p) 1 x

-- |x| >= 2^-s
abbrev pub Above : ℕ → Float → Type 0
Above s x = AtLeast 1 (2 ^ s) x

-- x is finite, and a multiple of 2^-k
abbrev pub OnGrid : ℕ → Float → Type 0
OnGrid k x = T (finite x) × (den x ≤ 2 ^ k)

-- a and b are f64s of at most 2^p, and a <= b
pub record InOrder (p : ℕ) (a b : Float) : Type 0 where
  pub lower_f64 : T (fits binary64 a)
  pub upper_f64 : T (fits binary64 b)
  pub lower_below : Below p a
  pub upper_below : Below p b
  pub ordered : T (le a b)
