-- A coordinate in cutter steps of 2^-20 m, exactly (document 02, "Where may I drill?": "All is exact in cutter steps of
-- 2^-20 m over whole numbers"). A unit is 2^-1074, the smallest positive f64, so every finite f64 is a whole number of
-- units (floats/specs/Units), and so is the exact sum of two.
use Rattle.std.specs.Prelude.{Bool, cond, ◌%◌, ◌^◌, eqb, ℤ, pos, neg_ℤ, nat_abs, Float}
use Rattle.std.specs.Float.{nan, inf, fin}
use Rattle.std.specs.Int.Signed.{quot_z}
use Rattle.floats.specs.Units.{units_of}

-- a finite f64 in units, with its sign; 0 for the others
abbrev pub exact_of : Float → ℤ
exact_of nan = pos 0
exact_of (inf s) = pos 0
exact_of (fin s m e) = cond s (neg_ℤ (pos (units_of (fin s m e)))) (pos (units_of (fin s m e)))

-- a step is 2^1054 units: whether a number of units is a whole number of steps, and how many
unfoldable pub is_whole : ℤ → Bool
is_whole u = eqb (nat_abs u % 2 ^ 1054) 0

unfoldable pub steps_of : ℤ → ℤ
steps_of u = quot_z u (pos (2 ^ 1054))
