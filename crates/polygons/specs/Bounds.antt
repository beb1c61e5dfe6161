-- Which numbers the code takes, so that an i64 holds every product: a coordinate of at most 2^27 steps, which is 128 m,
-- and the difference of two.
use Rattle.std.specs.Prelude.{List, ℕ, ◌^◌, ◌≤◌, ℤ, pos, nat_abs, get_or}
use Rattle.polygons.specs.declared.Offset.{Offset}

abbrev pub IsCoordinate : ℤ → Type 0
IsCoordinate z = nat_abs z ≤ 2 ^ 27

abbrev pub IsOffset : ℤ → Type 0
IsOffset z = nat_abs z ≤ 2 ^ 28

abbrev pub IsProduct : ℤ → Type 0
IsProduct z = nat_abs z ≤ 2 ^ 56

abbrev pub AreOffsets : Offset → Type 0
AreOffsets a = IsOffset a.across × IsOffset a.up

-- every number of a polygon's corners, and the point's, is a coordinate
pub record InReach (corners : List ℤ) (x height : ℤ) : Type 0 where
  pub all : (k : ℕ) → IsCoordinate (get_or corners k (pos 0))
  pub across : IsCoordinate x
  pub up : IsCoordinate height
