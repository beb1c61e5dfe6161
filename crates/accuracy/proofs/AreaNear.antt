-- The area that the call gives for a trapezoid whose strip is one piece is near the exact one. Assumes nothing.
use Rattle.std.specs.Prelude.{Ok}
use mathlib.Core.Path.{◌≡◌, sym, ap, ◌∙◌, subst}
use mathlib.Core.Bool.{Bool, true, false, not}
use mathlib.Core.List.{List, [], ◌∷◌}
use mathlib.Core.Logic.{inl, inr}
use Prim.Native.Nat.{ℕ, ◌*◌, ◌^◌, ◌≤◌, ◌<◌}
use native.Mathlib.Nat.{mul-pos, mul-le-mul_right, one-mul, mul-one, zero-mul, mul-zero, zero-add, add-zero}
use native.Mathlib.Omega.{arith}
use lib.Dec.{T, leb, leb→le, nleb→lt, lit≤}
use lib.Pow.{pow_pos}
use lib.IntN.{pos}
use lib.Ieee.{Float}
use lib.Ieee.Positive.{num, den, den_pos, positive-finite}
use Rattle.floats.specs.Operations.{◌⊕◌, ◌⊗◌, ◌⊘◌, bits, at}
use Rattle.floats.specs.Fractions.{◌over◌, ◌times◌ as product, value_of as fraction_of}
use Rattle.rounding.proofs.Sizes.{positive_of}
use Rattle.rounding_error.proofs.Numbers.{Number, number, ◌per◌, ◌plus◌, ◌times◌, Near, value_of}
use Rattle.rounding_error.proofs.Distances.{sorted, within_upto}
use Rattle.rounding_error.proofs.Counts as Counts
use Rattle.rounding_error.proofs.Polynomials.{Expression, given, ratio, ◌add◌, ◌mul◌, evaluated_is}
use Rattle.rounding_error.proofs.Fractions.{value_fraction, whole_fraction, within_fraction}
use Rattle.refusals.specs.declared.Refusal.TheVariants.{NoArea}
use Rattle.strips.specs.Claim.{Report}
use Rattle.planforms.specs.declared.Planform.{Planform}
use Rattle.planforms.specs.declared.Planform.TheVariants.{Trapezoid}
use Rattle.planforms.proofs.Sized.{Sized}
use Rattle.integrands.specs.Integrands.{scale_of, area_three}
use Rattle.quadrature.specs.Rule.{half_width, kronrod_weight, sum_of, piece_of}
use Rattle.quadrature.specs.declared.Piece.{Piece}
use Rattle.strips.specs.Strips.{value_from}
use Rattle.tolerance.specs.Bounds.{sum_from, total_of}
use Rattle.figures.specs.declared.Area.{Area}
use Rattle.figures.specs.Answers.{area_report}
use Rattle.figures.specs.Areas.{area_seven}
use Rattle.figures.proofs.Reports.{no_refusal}
use Rattle.one_piece.specs.OnePiece.{OnePiece}
use Rattle.one_piece.proofs.Answers.{area_one_piece}
use Rattle.accuracy.specs.Areas.{AreaGiven, Reach, InOnePiece, AreaNear, TrapezoidArea, exact_area as exact_fraction}
use Rattle.accuracy.proofs.Called.{total_is, three_values, values_there}
use Rattle.accuracy.proofs.WholePieces.{whole_piece, value_is, chords_there, area_sum}
use Rattle.accuracy.proofs.Near.{figures_given, sized, sizes, span_above, ends_apart, strip_pieces, pieces_counted}
use Rattle.accuracy.proofs.ToFractions.{expression_fraction, positive_fraction, product_fraction}

ruleset plain = (sorted, one-mul, mul-one, zero-mul, mul-zero, zero-add, add-zero)

-- it is figures, so the one piece that is enough is the one that was counted
pub only_piece : (report : Report) → OnePiece report → report.verdict ≡ Ok tt → report.intervals ≡ 1
only_piece report one accepted = elim one.figures_or_8 [
  | inl e ↦ e.1
  | inr e ↦ no_refusal NoArea (sym e ∙ accepted)
]

-- (root + tip)/2·span
abbrev area_e : Expression
area_e = ratio 1 1 mul ((given 0 add given 1) mul given 2)

abbrev exact_area : Float → Float → Float → Number
exact_area root tip span = number 1 0 2 times ((value_of root plus value_of tip) times value_of span)

module _ (root tip span sweep : Float) (points : List Float) (L : ℕ) (entry : List Float) (r : Area) (exit : List Float)
    (g : AreaGiven root tip span sweep points L entry r exit) (one : InOnePiece root tip sweep r.intervals) where
  abbrev Shape : Planform
  Shape = Trapezoid root tip span sweep

  abbrev scale : Float
  scale = scale_of Shape points

  abbrev low : Float
  low = bits 0 ⊘ scale

  abbrev high : Float
  high = span ⊘ scale

  shape_sized : Sized Shape points
  shape_sized = sized root tip span sweep points L entry r exit g

  counted : InOnePiece root tip sweep r.intervals → r.intervals ≡ 1
  counted (inl q) =
      only_piece (area_report r)
      (area_one_piece root tip span sweep points L entry r exit g.f64s g.answers
      (figures_given root tip span sweep points L entry r exit g).accepted q) g.given
  counted (inr e) = e

  one_piece : strip_pieces root tip span sweep points L entry r exit g ≡ piece_of 3 (area_three Shape points) low high ∷ []
  one_piece =
      whole_piece 3 (area_three Shape points) low high L (ends_apart root tip span sweep points L entry r exit g)
      (sym (pieces_counted root tip span sweep points L entry r exit g) ∙ counted one)

  -- no length is above 64
  pub sixty_four_lem : Reach 64 1 root tip sweep
  sixty_four_lem = record {
    is_size = pow_pos 0;
    root_most = shape_sized.0.length.below;
    tip_most = shape_sized.1.0.below;
    sweep_most = shape_sized.1.1.1.below;
  }

  -- what the call sums over its one piece: the chords of 15 samples
  abbrev pub total : ℕ → Float
  total k = bits 0 ⊕ (bits 0 ⊕ half_width low high ⊗ sum_of kronrod_weight
      (λ h. three_values root tip sweep (h ⊗ scale ⊘ span) scale h) low high k)

  pub total_at_lem : (k : ℕ) → k < 3 → value_from (bits 0) k (area_seven Shape points L) ≡ total k
  unfolding total_of
  total_at_lem k l =
      total_is root tip span sweep points L (span_above root tip span sweep points L entry r exit g) k l
      ∙ ap (λ (p : List Piece). bits 0 ⊕ sum_from (bits 0) (λ q. at q.value k) p) one_piece
      ∙ ap (λ (z : Float). bits 0 ⊕ (bits 0 ⊕ z))
      (value_is 3 (area_three Shape points) low high k l
      ∙ ap (λ (z : Float). half_width low high ⊗ z)
      (chords_there root tip span sweep scale 64 1
      (sizes root tip span sweep points L entry r exit g 64 1 sixty_four_lem (lit≤ tt)) (area_three Shape points)
      (values_there root tip span sweep points) k))

  area_is : r.area_m2 ≡ total 0 ⊗ scale ⊗ scale
  area_is = (figures_given root tip span sweep points L entry r exit g).area
      ∙ ap (λ (x : Float). x ⊗ scale ⊗ scale) (total_at_lem 0 (lit≤ tt))

  -- B at most 64, which every length is
  small : (b d : ℕ) → Reach b d root tip sweep → b ≤ 64 * d
      → Near r.area_m2 (exact_area root tip span) ((b * 45 * num span) per (d * 2 ^ 53 * den span))
  small b d reach most =
      subst (λ (x : Float). Near x (exact_area root tip span) ((b * 45 * num span) per (d * 2 ^ 53 * den span))) (sym area_is)
      (area_sum root tip span sweep scale b d (sizes root tip span sweep points L entry r exit g b d reach most))

  -- a larger B is a weaker bound
  large : (b d : ℕ) → 64 * d < b
      → Near r.area_m2 (exact_area root tip span) ((b * 45 * num span) per (d * 2 ^ 53 * den span))
  large b d most =
      let n = small 64 1 sixty_four_lem (lit≤ tt) in
      record {
        finite = n.finite;
        within =
            within_upto ((64 * 45 * num span) per (1 * 2 ^ 53 * den span)) ((b * 45 * num span) per (d * 2 ^ 53 * den span))
            (value_of r.area_m2) (exact_area root tip span) (mul-pos (mul-pos (pow_pos 0) (pow_pos 53)) (den_pos span))
            (go (num span) (den span) (2 ^ 53) (less_of most)) n.within;
      }
    where
      less_of : 64 * d < b → 64 * d ≤ b
      less_of l = omega arith

      go : (N D P : ℕ) → 64 * d ≤ b → 64 * 45 * N * (d * P * D) ≤ b * 45 * N * (1 * P * D)
      go N D P l = let x = simp plain at (mul-le-mul_right (45 * N * (P * D)) l) in simp plain (omega (arith, x))

  pub area_near : (b d : ℕ) → Reach b d root tip sweep → AreaNear b d root tip span r
  area_near b d reach =
      let p = positive_of span 20 shape_sized.1.1.0.not_minus shape_sized.1.1.0.above in
      let l = value_of root ∷ value_of tip ∷ value_of span ∷ [] in
      let n = any (leb b (64 * d)) (leb→le b (64 * d)) (nleb→lt b (64 * d)) in
      within_fraction (b * 45 * num span) (d * 2 ^ 53 * den span) (value_of r.area_m2) (exact_area root tip span)
      (product (pos (b * 45) over (d * 2 ^ 53)) (fraction_of span)) (fraction_of r.area_m2) (exact_fraction root tip span)
      (mul-pos (mul-pos reach.is_size (pow_pos 53)) (den_pos span)) (Counts.value_is r.area_m2)
      (evaluated_is l (Counts.value_is root, (Counts.value_is tip, (Counts.value_is span, tt))) area_e)
      (product_fraction (b * 45) (d * 2 ^ 53) (num span) (den span) (pos (b * 45) over (d * 2 ^ 53)) (fraction_of span)
      (whole_fraction (b * 45) (d * 2 ^ 53)) (positive_fraction span p))
      (value_fraction r.area_m2 n.finite)
      (expression_fraction l (fraction_of root ∷ fraction_of tip ∷ fraction_of span ∷ []) (
        value_fraction root reach.root_most.finite,
        (value_fraction tip reach.tip_most.finite, (value_fraction span (positive-finite span p), tt)),
      ) area_e)
      n.within
    where
      any : (x : Bool) → (T x → b ≤ 64 * d) → (T (not x) → 64 * d < b)
          → Near r.area_m2 (exact_area root tip span) ((b * 45 * num span) per (d * 2 ^ 53 * den span))
      any true h k = small b d reach (h tt)
      any false h k = large b d (k tt)

pub trapezoid_area : TrapezoidArea
trapezoid_area root tip span sweep points L entry r exit b d g reach one =
    area_near root tip span sweep points L entry r exit g one b d reach
