-- No sample of a trapezoid or an ellipse lies at its span, which document 02, Paper 1, gave a chord, if its strip ends
-- with at most 40 pieces.
use Rattle.std.specs.Prelude.{◌≡◌, List, ℕ, ◌≤◌, T, length, Float, Ok}
use Rattle.std.specs.Float.{binary64}
use Rattle.std.specs.Float.Ieee.{fits, lt}
use Rattle.floats.specs.Operations.{◌⊗◌, ◌⊘◌, bits}
use Rattle.sorting.specs.Sorted.{Each}
use Rattle.planforms.specs.declared.Planform.{Planform}
use Rattle.planforms.specs.declared.Planform.TheVariants.{Trapezoid, Ellipse}
use Rattle.planforms.specs.Planforms.{span_of}
use Rattle.integrands.specs.Integrands.{scale_of}
use Rattle.halving.specs.Halving.{halving}
use Rattle.outlines.specs.Outlines.{planform_check}

-- whatever is integrated over the planform's one strip, if the halving ends with at most 40 pieces, every sample's
-- height (a height of the halving times the scale) lies below the span
abbrev pub BelowSpan : Planform → List Float → Type 0
BelowSpan planform points =
    (w : ℕ) (f : Float → List Float) (limit : ℕ)
    → length
    (halving w f (bits 0 ⊘ scale_of planform points)
    (span_of planform points ⊘ scale_of planform points) limit).pieces ≤ 40
    → Each (λ h. T (lt (h ⊗ scale_of planform points) (span_of planform points)))
    (halving w f (bits 0 ⊘ scale_of planform points) (span_of planform points ⊘ scale_of planform points) limit).heights

-- the theorem for a trapezoid of f64s that passes the planform's checks
abbrev pub TrapezoidBelow : Type 0
TrapezoidBelow =
    (root tip span sweep : Float) (points : List Float)
    → T (fits binary64 root) × (T (fits binary64 tip) × (T (fits binary64 span) × T (fits binary64 sweep)))
    → planform_check (Trapezoid root tip span sweep) points ≡ Ok tt
    → BelowSpan (Trapezoid root tip span sweep) points

-- the theorem for an ellipse of f64s that passes the planform's checks
abbrev pub EllipseBelow : Type 0
EllipseBelow =
    (root span : Float) (points : List Float)
    → T (fits binary64 root) × T (fits binary64 span)
    → planform_check (Ellipse root span) points ≡ Ok tt
    → BelowSpan (Ellipse root span) points
