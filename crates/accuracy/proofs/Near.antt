-- What the call for a trapezoid's area is worked from: lengths within the limits, and one strip of at least one piece. Assumes nothing.
use mathlib.Core.Path.{◌≡◌, ap, ◌∙◌}
use mathlib.Core.Bool.{Bool, true, false, cond}
use mathlib.Core.List.{List}
use Prim.Native.Nat.{ℕ, ◌*◌, ◌≤◌}
use lib.ListN.{length}
use lib.Ieee.{Float, eq, lt}
use Rattle.floats.specs.Operations.{◌⊘◌, bits}
use Rattle.rounding.proofs.Sizes.{positive_of}
use Rattle.rounding_error.proofs.Numbers.{◌per◌}
use Rattle.planforms.specs.declared.Planform.{Planform}
use Rattle.planforms.specs.declared.Planform.TheVariants.{Trapezoid}
use Rattle.planforms.proofs.Sized.{Sized}
use Rattle.quadrature.specs.declared.Piece.{Piece}
use Rattle.integrands.specs.Integrands.{scale_of}
use Rattle.integrands.proofs.Scales.{scale_sized}
use Rattle.fins.proofs.Accepted.{area_planform}
use Rattle.fins.proofs.Sized.{planform_sized}
use Rattle.strips.specs.Strips.{pieces_of}
use Rattle.figures.specs.declared.Area.{Area}
use Rattle.accuracy.specs.Areas.{AreaGiven, Reach}
use Rattle.accuracy.proofs.Given.{Lengths}
use Rattle.accuracy.proofs.Limits.{lengths}
use Rattle.accuracy.proofs.Called.{Given, area_given, Strip, intervals_are}
use Rattle.accuracy.proofs.StripEnds.{ends_differ}
use Rattle.one_piece.proofs.PlatePiece.{positive_above}

-- ---- the call
module _ (root tip span sweep : Float) (points : List Float) (L : ℕ) (entry : List Float) (r : Area) (exit : List Float)
    (g : AreaGiven root tip span sweep points L entry r exit) where
  abbrev Shape : Planform
  Shape = Trapezoid root tip span sweep

  abbrev S : Float
  S = scale_of Shape points

  pub figures_given : Given Shape points L (length entry) r
  figures_given = area_given Shape points L (length entry) r g.answers.call.0 g.given

  pub sized : Sized Shape points
  sized = planform_sized Shape points g.f64s (area_planform Shape points L (length entry) figures_given.accepted)

  pub span_above : lt (bits 0) span ≡ true
  span_above = positive_above span (positive_of span 20 sized.1.1.0.not_minus sized.1.1.0.above)

  -- the strip's ends differ, so that the intervals are its pieces
  pub ends_apart : eq (bits 0 ⊘ S) (span ⊘ S) ≡ false
  ends_apart = ends_differ span S sized.1.1.0 (scale_sized Shape points sized)

  abbrev pub strip_pieces : List Piece
  strip_pieces = pieces_of (Strip root tip span sweep points L span_above)

  pub pieces_counted : r.intervals ≡ length strip_pieces
  pieces_counted =
      figures_given.intervals ∙ intervals_are root tip span sweep points L span_above ∙ ap
      (λ (b : Bool). cond b 1 (length strip_pieces)) ends_apart

  module _ (b d : ℕ) (reach : Reach b d root tip sweep) where
    -- B at most 64, which every length is
    pub sizes : b ≤ 64 * d → Lengths root tip span sweep S (b per d)
    sizes most = lengths root tip span sweep S b d reach.is_size most sized.0 sized.1.1.0 (scale_sized Shape points sized)
        reach.root_most reach.tip_most reach.sweep_most
