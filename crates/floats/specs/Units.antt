-- f64s counted in units: a unit is 2 ^ -1074, the smallest positive f64, so every finite f64 is a whole number of
-- units.
use Rattle.std.specs.Prelude.{◌≡◌, Bool, ℕ, ◌*◌, ◌/◌, ◌^◌, Float}
use Rattle.std.specs.Float.{nan, inf, fin}
use Rattle.std.specs.Float.Ieee.{up, down}

-- the magnitude of a finite f64, m * 2 ^ e, in units; 0 for a NaN and the infinities. `up e` is 2 ^ e where e is at
-- least 0, `down e` is 2 ^ -e where it is below, and each is 1 otherwise.
abbrev pub units_of : Float → ℕ
units_of nan = 0
units_of (inf s) = 0
units_of (fin s m e) = m * up e * 2 ^ 1074 / down e

-- an f64 is finite, and has the sign minus just where s is true
abbrev pub Signed : Bool → Float → Type 0
Signed s nan = ⊥
Signed s (inf t) = ⊥
Signed s (fin t m e) = t ≡ s
