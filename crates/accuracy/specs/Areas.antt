-- How near the area of a trapezoid whose strip is one piece is to the exact one, (root + tip)/2·span.
use Rattle.std.specs.Prelude.{◌≡◌, List, ◌⊎◌, ℕ, ◌*◌, ◌^◌, ◌<◌, T, pos, Float, Ok}
use Rattle.std.specs.Float.{binary64}
use Rattle.std.specs.Float.Ieee.{fits}
use Rattle.floats.specs.Fractions.{Fraction, ◌over◌, ◌plus◌, ◌times◌, value_of}
use Rattle.rounding.specs.Sizes.{AtMost}
use Rattle.rounding_error.specs.Distances.{Within}
use Rattle.planforms.specs.declared.Planform.TheVariants.{Trapezoid}
use Rattle.figures.specs.Answers.{AreaAnswers}
use Rattle.figures.specs.declared.Area.{Area}
use Rattle.one_piece.specs.OnePiece.{Proportions}

-- the call for a trapezoid's area (`figures::geometry`) answered r with figures, and the four lengths are f64s
pub record AreaGiven (root tip span sweep : Float) (points : List Float) (L : ℕ) (entry : List Float) (r : Area)
    (exit : List Float)
    : Type 0 where
  pub f64s : T (fits binary64 root) × (T (fits binary64 tip) × (T (fits binary64 span) × T (fits binary64 sweep)))
  pub answers : AreaAnswers (Trapezoid root tip span sweep) points L entry r exit
  pub given : r.verdict ≡ Ok tt

-- root, tip and |sweep| are at most b / d
pub record Reach (b d : ℕ) (root tip sweep : Float) : Type 0 where
  pub is_size : 0 < d
  pub root_most : AtMost b d root
  pub tip_most : AtMost b d tip
  pub sweep_most : AtMost b d sweep

-- the exact area of a trapezoid
abbrev pub exact_area : Float → Float → Float → Fraction
exact_area root tip span = (pos 1 over 2) times ((value_of root plus value_of tip) times value_of span)

-- one piece is enough for the strip (one_piece/specs/OnePiece), or the call says that it took one
abbrev pub InOnePiece : (root tip sweep : Float) → ℕ → Type 0
InOnePiece root tip sweep intervals = Proportions 4 4 root tip sweep ⊎ (intervals ≡ 1)

-- the answered area is at most 45·2^-53·span·B from the exact one, where B = b / d is no less than root, tip and
-- |sweep|
abbrev pub AreaNear : (b d : ℕ) (root tip span : Float) → Area → Type 0
AreaNear b d root tip span r =
    Within ((pos (b * 45) over (d * 2 ^ 53)) times value_of span) (value_of r.area_m2) (exact_area root tip span)

-- every area that the call answers for a trapezoid in one piece is so near, whatever B
abbrev pub TrapezoidArea : Type 0
TrapezoidArea =
    (root tip span sweep : Float) (points : List Float) (L : ℕ) (entry : List Float) (r : Area) (exit : List Float)
    (b d : ℕ)
    → AreaGiven root tip span sweep points L entry r exit
    → Reach b d root tip sweep
    → InOnePiece root tip sweep r.intervals
    → AreaNear b d root tip span r
