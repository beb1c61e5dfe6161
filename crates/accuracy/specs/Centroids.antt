-- How near the centroid of a trapezoid whose strip is one piece is to the exact one. The exact coordinates are
-- `along_root` and `in_height` divided by 3·(root + tip): both sides are multiplied by that, since the fractions here
-- have no division.
use Rattle.std.specs.Prelude.{List, ℕ, ◌*◌, ◌^◌, pos, Float}
use Rattle.std.specs.Float.Ieee.Positive.{num, den}
use Rattle.floats.specs.Fractions.{Fraction, ◌over◌, ◌plus◌, ◌times◌, value_of}
use Rattle.rounding.specs.Sizes.{AtMost}
use Rattle.rounding_error.specs.Distances.{Within}
use Rattle.figures.specs.declared.Area.{Area}
use Rattle.accuracy.specs.Areas.{AreaGiven, InOnePiece}

-- 3·(root + tip), by which both sides are multiplied
abbrev pub thrice : Float → Float → Fraction
thrice root tip = (pos 3 over 1) times (value_of root plus value_of tip)

-- the exact x from the leading edge of the root, times 3·(root + tip): root² + root·tip + tip² + sweep·(root + 2·tip)
abbrev pub along_root : Float → Float → Float → Fraction
along_root root tip sweep =
    value_of root times value_of root plus value_of root times value_of tip plus value_of tip times value_of tip
    plus value_of sweep times (value_of root plus (pos 2 over 1) times value_of tip)

-- the exact height above the root, times 3·(root + tip): span·(root + 2·tip)
abbrev pub in_height : Float → Float → Float → Fraction
in_height root tip span = value_of span times (value_of root plus (pos 2 over 1) times value_of tip)

-- the theorem: where tip and |sweep| are at most `chords` root chords and the strip is one piece, the answered x is at
-- most `along` unit roundoffs (2^-53) of the root chord from the exact one, and the answered height at most `height`
-- unit roundoffs of the span
abbrev pub OrdinaryCentroid : ℕ → ℕ → ℕ → Type 0
OrdinaryCentroid chords along height =
    (root tip span sweep : Float) (points : List Float) (L : ℕ) (entry : List Float) (r : Area) (exit : List Float)
    → AreaGiven root tip span sweep points L entry r exit
    → AtMost (chords * num root) (den root) tip × AtMost (chords * num root) (den root) sweep
    → InOnePiece root tip sweep r.intervals
    → Within ((pos along over 2 ^ 53) times value_of root times thrice root tip)
    (value_of r.centroid_x_m times thrice root tip) (along_root root tip sweep)
    × Within ((pos height over 2 ^ 53) times value_of span times thrice root tip)
    (value_of r.centroid_span_m times thrice root tip) (in_height root tip span)
