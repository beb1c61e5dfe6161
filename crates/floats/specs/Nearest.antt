-- The f64 nearest to a fraction of whole numbers, of two as near the one with the even last bit, stated over whole
-- numbers. In units of 2 ^ -1074 (specs/Units) n / d is n * 2 ^ 1074 / d; distances are compared by cross products,
-- times d.
use Rattle.std.specs.Prelude.{◌≡◌, Bool, ℕ, ◌+◌, ◌-◌, ◌*◌, ◌%◌, ◌^◌, ◌≤◌, T, Float}
use Rattle.std.specs.Float.{binary64}
use Rattle.std.specs.Float.Ieee.{fits, to_bits}
use Rattle.floats.specs.Floats.{is_finite}
use Rattle.floats.specs.Units.{units_of, Signed}

-- how far two whole numbers are apart
abbrev pub apart : ℕ → ℕ → ℕ
apart a b = (a - b) + (b - a)

-- how far n / d is from the magnitude of y, in units and times d
abbrev pub distance : ℕ → ℕ → Float → ℕ
distance n d y = apart (n * 2 ^ 1074) (units_of y * d)

-- r is the f64 nearest to n / d, with the sign minus where s is true: no finite f64's magnitude is nearer, and where
-- another one's is as near, r's last bit is 0. `fits binary64 y`: y is an f64.
pub record IsNearest (s : Bool) (n d : ℕ) (r : Float) : Type 0 where
  pub held : T (fits binary64 r)
  pub sign : Signed s r
  pub least : (y : Float) → T (fits binary64 y) → T (is_finite y) → distance n d r ≤ distance n d y
  pub even :
      (y : Float) → T (fits binary64 y) → T (is_finite y) → distance n d r ≡ distance n d y
      → (units_of r ≡ units_of y → ⊥)
      → to_bits binary64 r % 2 ≡ 0
