-- "Its value is the nearest f64, ties to the even last bit, stated over whole numbers" (document 02, Paper 2): the
-- digits are one whole number n, of which k stand after the point. The statement is `IsNearest` (floats/specs/Nearest),
-- which has one answer (floats/proofs/Unique).
use Rattle.std.specs.Prelude.{Bool, ℕ, ◌^◌, Float}
use Rattle.std.specs.Float.{binary64}
use Rattle.std.specs.Float.Ieee.{round}

-- the f64 nearest to n / 10 ^ k, with the sign minus where `minus` is true: the program logic's rounding, which meets
-- the statement (proofs/Signs: decimal-nearest, decimal-only)
abbrev pub decimal_of : Bool → ℕ → ℕ → Float
decimal_of minus n k = round binary64 minus n (10 ^ k)
