-- A trapezoid that passes the checks, tip and sweep within so many root chords, is worked in one piece by 15 samples,
-- and is never refused 13. Assumes nothing.
use Rattle.std.specs.Prelude.{Ok}
use mathlib.Core.Path.{◌≡◌, refl, sym, ap, ◌∙◌, subst}
use mathlib.Core.Bool.{Bool, true, false}
use mathlib.Core.Logic.{inl, inr}
use mathlib.Core.List.{List, [], ◌∷◌}
use Prim.Native.Nat.{ℕ, zero, suc, ◌+◌, ◌-◌, ◌*◌, ◌^◌, ◌≤◌, ◌<◌, zero-le}
use native.Mathlib.Nat.{le_trans, le_of_eq, mul-pos, mul-le-mul_left, mul-le-mul_right, mul_comm, mul-one, one-mul, zero-mul}
use native.Mathlib.Omega.{arith}
use borrow.Author.Tests.{ltb-false}
use lib.Dec.{T}
use lib.Pow.{pow_pos, pow_mono}
use lib.ListN.{length}
use lib.Ieee.{Float, nan, inf, fin, binary64, up, down, lt, eq, le, fits, of_bits}
use lib.Ieee.Scale.{finite}
use lib.Ieee.Positive.{num, den, den_pos, positive, positive-finite}
use Rattle.floats.specs.Operations.{◌⊘◌, bits}
use Rattle.floats.proofs.Bools.{of_true}
use Rattle.floats.proofs.Order.{le_of_not, equal_not_below}
use Rattle.rounding.specs.Sizes.{AtMost, Below, Above}
use Rattle.rounding.proofs.Exact.{zero_exact}
use Rattle.rounding.proofs.Monotone.{positive_num}
use Rattle.rounding.proofs.Operations.{div_most}
use Rattle.rounding.proofs.Ordered.{le→order}
use Rattle.rounding.proofs.Signs.{minus, finite_no_nan, positive_plus}
use Rattle.rounding.proofs.Signed.{over as above, under as below}
use Rattle.rounding.proofs.Sizes.{positive_of}
use Rattle.refusals.specs.declared.Refusal.TheVariants.{NoArea}
use Rattle.refusals.specs.Verdict.{Verdict}
use Rattle.refusals.specs.Order.{refuse_when}
use Rattle.refusals.specs.Calls.{leaves_alone, by_verdict}
use Rattle.refusals.proofs.Accepted.{both}
use Rattle.limits.specs.Limits.{piece_samples, root_chord_field, tip_chord_field, thickness_field, body_radius_field, length_check}
use Rattle.limits.proofs.Lengths.{PositiveLength, Height, field_above, height_checked}
use Rattle.planforms.specs.Planforms.{root_chord_of, span_of}
use Rattle.planforms.specs.declared.Planform.{Planform}
use Rattle.planforms.specs.declared.Planform.TheVariants.{Trapezoid}
use Rattle.planforms.proofs.Sized.{PlanformF64, Sized}
use Rattle.breaks.specs.Breaks.{break_heights, one_strip}
use Rattle.breaks.proofs.Listed.{two_heights}
use Rattle.sections.specs.declared.Section.{Section}
use Rattle.sections.specs.declared.Section.TheVariants.{Square, Rounded, Airfoil, AirfoilOpen}
use Rattle.integrands.specs.Integrands.{scale_of, area_three, plate_of}
use Rattle.integrands.proofs.Scales.{Scale, scale_sized}
use Rattle.quadrature.specs.Rule.{heights_to, heights_of, piece_of}
use Rattle.quadrature.specs.declared.Piece.{Piece}
use Rattle.tolerance.specs.Bounds.{converged}
use Rattle.halving.specs.Halving.{ended, repeat, halving}
use Rattle.halving.specs.Endings.{accepted as Accepted}
use Rattle.halving.specs.declared.Totals.{Totals}
use Rattle.strips.specs.Strips.{Worked, worked_of, summed_of, seven_wide}
use Rattle.bodies.specs.declared.Body.{Body}
use Rattle.outlines.specs.Outlines.{planform_check}
use Rattle.fins.specs.Fins.{area_check, set_check}
use Rattle.fins.specs.declared.FinSet.{FinSet}
use Rattle.fins.proofs.Accepted.{area_planform, set_accepted}
use Rattle.fins.proofs.Sized.{planform_sized}
use Rattle.figures.specs.Areas.{area_strips, area_call, worked_area, worked_planform, refused_area, concluded_area, unscaled_area, area_by}
use Rattle.figures.specs.declared.Area.{Area}
use Rattle.figures.specs.Answers.{set_report, area_report}
use Rattle.figures.specs.declared.Figures.{Figures}
use Rattle.plates.specs.Integrals.{volume}
use Rattle.plates.specs.Plates.{integrals_of}
use Rattle.figures.specs.Figures.{set_strips, set_call, worked_figures, worked_set, refused_figures, size_check, figures_by, fins_of, concluded_set}
use Rattle.rounding_error.proofs.Numbers.{◌per◌, ◌of◌, Under, value_of, size_of, Ranges}
use Rattle.error_terms.proofs.Floors.{NotBelow}
use Rattle.one_piece.proofs.AreaPiece.{Fin, area_converged, high_positive}
use Rattle.one_piece.proofs.PlatePiece.{positive_above}
use Rattle.one_piece.proofs.PlateFits.{PlateFin, fin_converged}
use Rattle.one_piece.specs.OnePiece.{NotRounded, tips_of, Proportions, OnePiece, AreaOnePiece, SetOnePiece}

-- ---- the halving of a strip whose first piece meets the tolerance
repeat_one : (w : ℕ) (f : Float → List Float) (more : ℕ) (pieces : List Piece) (heights : List Float) → converged w pieces ≡ true
    → repeat w f more pieces heights ≡ ended Accepted pieces heights
unfolding repeat
repeat_one w f zero pieces heights e = rw e
repeat_one w f (suc more) pieces heights e = rw e

pub halving_one : (w : ℕ) (f : Float → List Float) (lower upper : Float) (limit : ℕ) → eq lower upper ≡ false
    → converged w (piece_of w f lower upper ∷ []) ≡ true
    → halving w f lower upper limit ≡ ended Accepted (piece_of w f lower upper ∷ []) (heights_of lower upper)
unfolding halving
halving_one w f lower upper limit d e = rw d (repeat_one w f (limit - 1) (piece_of w f lower upper ∷ []) (heights_of lower upper) e)

-- one strip of one piece
abbrev pub one_worked : ℕ → (Float → List Float) → Float → Float → Worked
one_worked w f lower upper = record {
  lower = lower;
  upper = upper;
  halved = ended Accepted (piece_of w f lower upper ∷ [])
      (heights_of lower upper);
}

worked_one : (w : ℕ) (f : Float → List Float) (limit : ℕ) (scale h k : Float) → eq (h ⊘ scale) (k ⊘ scale) ≡ false
    → converged w (piece_of w f (h ⊘ scale) (k ⊘ scale) ∷ []) ≡ true
    → worked_of w f limit scale (h ∷ k ∷ []) ≡ one_worked w f (h ⊘ scale) (k ⊘ scale) ∷ []
unfolding worked_of
worked_one w f limit scale h k d e = rw (halving_one w f (h ⊘ scale) (k ⊘ scale) limit d e)

-- ---- the strip's ends differ
pub lower_none : (scale : Float) → T (positive scale) → AtMost 0 1 (bits 0 ⊘ scale)
unfolding of_bits
lower_none scale p = div_most binary64 (bits 0) scale 0 1 (pow_pos 0) (zero_exact binary64) tt (positive-finite scale p)
    (positive_num scale p) (omega arith)

pub not_equal : (x y : Float) → AtMost 0 1 x → T (positive y) → eq x y ≡ false
not_equal x y a p = go (eq x y) refl
  where
    pick : (s : Bool) (n : ℕ) → n ≡ 0 → above s n ≡ 0
    pick true n e = refl
    pick false n e = e

    go : (b : Bool) → eq x y ≡ b → b ≡ false
    go false e = refl
    go true e =
        let yf = positive-finite y p in
        let o = le→order y x yf a.finite (of_true _
        (le_of_not y x (finite_no_nan y yf) (finite_no_nan x a.finite) (equal_not_below x y e))) in
        absurd (clash (num y * den x) (num x * den y) (minus x) (mul-pos (positive_num y p) (den_pos x))
        (zero_of (num x) (den x) (den y) a.size) (rw (positive_plus y p) at o))
      where
        zero_of : (N D E : ℕ) → N * 1 ≤ 0 * D → N * E ≡ 0
        zero_of N D E h = z N E (small N D h)
          where
            small : (N D : ℕ) → N * 1 ≤ 0 * D → N ≡ 0
            small N D h = omega arith

            z : (N E : ℕ) → N ≡ 0 → N * E ≡ 0
            z N E e = rw e (zero-mul E)

        clash : (u v : ℕ) (s : Bool) → 0 < u → v ≡ 0 → u + below s v ≤ above s v + 0 → ⊥
        clash u v s h e o = no u (above s v) (below s v) h (pick s v e) o
          where
            no : (u w z : ℕ) → 0 < u → w ≡ 0 → u + z ≤ w + 0 → ⊥
            no u w z h e o = omega arith

-- ---- sizes from the limits
ranges_of : (x : Float) (p s : ℕ) → p ≤ 32 → s ≤ 32 → Below p x → Above s x → Ranges 32 (size_of x)
ranges_of x p s l k b a =
    record {
      real = den_pos x;
      least = le_trans (le_of_eq (sym (one-mul (den x)))) (le_trans a.size (mul-le-mul_left (num x) (pow_mono k)));
      most = le_trans (le_of_eq (sym (mul-one (num x))))
          (le_trans b.size (le_trans (mul-le-mul_right (den x) (pow_mono l)) (le_of_eq (mul_comm (2 ^ 32) (den x)))));
    }

-- |x| <= k·(a/c)
most_under : (x : Float) (k a c : ℕ) → AtMost (k * a) c x → Under (k of (a per c)) (value_of x)
most_under nan k a c h = absurd h.finite
most_under (inf s) k a c h = absurd h.finite
most_under (fin true m e) k a c h = record { below = low (m * up e) (down e) (k * a); above = high (m * up e) (down e) (k * a) h.size }
  where
    low : (N D b : ℕ) → (0 * 1 + 0 * D) * c ≤ (0 * D + N * 1) * c + b * (D * 1)
    low N D b = omega arith

    high : (N D b : ℕ) → N * c ≤ b * D → (0 * D + N * 1) * c ≤ (0 * 1 + 0 * D) * c + b * (1 * D)
    high N D b u = omega arith
most_under (fin false m e) k a c h = record {
  below = high (m * up e) (down e) (k * a) h.size;
  above = low (m * up e) (down e)
      (k * a);
}
  where
    high : (N D b : ℕ) → N * c ≤ b * D → (N * 1 + 0 * D) * c ≤ (0 * D + 0 * 1) * c + b * (D * 1)
    high N D b u = omega arith

    low : (N D b : ℕ) → (0 * D + 0 * 1) * c ≤ (N * 1 + 0 * D) * c + b * (1 * D)
    low N D b = omega arith

from_zero : (x : Float) → T (finite x) → lt x (bits 0) ≡ false → NotBelow (value_of x)
unfolding lt of_bits
from_zero nan f h = absurd f
from_zero (inf s) f h = absurd f
from_zero (fin false m e) f h = zero-le
from_zero (fin true m e) f h = go (m * up e) (down e) (ltb-false _ _ h)
  where
    go : (N D : ℕ) → N * 1 + 0 * D ≤ 0 → N ≤ 0
    go N D u = omega arith

module _ (root tip span sweep : Float) (points : List Float) (f64s : PlanformF64 (Trapezoid root tip span sweep) points)
    (checked : planform_check (Trapezoid root tip span sweep) points ≡ Ok tt) where
  abbrev planform : Planform
  planform = Trapezoid root tip span sweep

  abbrev S : Float
  S = scale_of planform points

  sized : Sized planform points
  sized = planform_sized planform points f64s checked

  scale_is : Scale S
  scale_is = scale_sized planform points sized

  tip_height : Height tip
  unfolding planform_check
  tip_height =
      let a = both (length_check root_chord_field root) _ checked in
      let b = both (length_check tip_chord_field tip) _ a.1 in
      height_checked tip_chord_field tip f64s.1.0 b.0 refl refl

  root_is : PositiveLength root
  root_is = sized.0

  span_is : PositiveLength span
  span_is = sized.1.1.0

  positive_length : (x : Float) → PositiveLength x → T (positive x)
  positive_length x p = positive_of x 20 p.not_minus p.above

  positive_ranges : (x : Float) → PositiveLength x → Ranges 32 (size_of x)
  positive_ranges x p = ranges_of x 6 20 (omega arith) (omega arith) p.length.below p.above

  area_fin : Proportions 4 4 root tip sweep → Fin root tip span sweep S
  area_fin q =
      record {
        root_positive = positive_length root root_is;
        span_positive = positive_length span span_is;
        scale_positive = scale_is.is_positive;
        tip_finite = q.tip_most.finite;
        sweep_finite = q.sweep_most.finite;
        tip_from_zero = from_zero tip q.tip_most.finite tip_height.not_under;
        sweep_from_zero = from_zero sweep q.sweep_most.finite q.backward;
        tip_under = most_under tip 4 (num root) (den root) q.tip_most;
        sweep_under = most_under sweep 4 (num root) (den root) q.sweep_most;
        ranges = positive_ranges root root_is;
        span_ranges = positive_ranges span span_is;
        scale_ranges = ranges_of S 7 20 (omega arith) (omega arith) scale_is.below scale_is.above;
      }

  span_above : lt (bits 0) span ≡ true
  span_above = positive_above span (positive_length span span_is)

  heights_are : break_heights planform points ≡ bits 0 ∷ span ∷ []
  unfolding one_strip span_of
  heights_are = two_heights planform points span_above

  ends_differ : T (positive (span ⊘ S)) → eq (bits 0 ⊘ S) (span ⊘ S) ≡ false
  ends_differ p = not_equal (bits 0 ⊘ S) (span ⊘ S) (lower_none S scale_is.is_positive) p

  -- ---- the area's strips: one, of one piece
  pub area_strips_lem : (L : ℕ) → Proportions 4 4 root tip sweep
      → area_strips planform points L ≡ one_worked 3 (area_three planform points) (bits 0 ⊘ S) (span ⊘ S) ∷ []
  area_strips_lem L q =
      rw heights_are
      (worked_one 3 (area_three planform points) L S (bits 0) span (ends_differ (high_positive root tip span sweep S (area_fin q)))
      (area_converged root tip span sweep points (area_fin q)))

  -- ---- a plate's
  module _ (c : Section) (plain_section : NotRounded c) (thickness radius : Float) (thick : PositiveLength thickness)
      (out : Height radius) where
    pub plate_fin : Proportions (tips_of c) 4 root tip sweep → PlateFin (tips_of c) root tip span sweep S thickness radius
    plate_fin q =
        record {
          root_positive = positive_length root root_is;
          span_positive = positive_length span span_is;
          scale_positive = scale_is.is_positive;
          thickness_positive = positive_length thickness thick;
          tip_finite = q.tip_most.finite;
          sweep_finite = q.sweep_most.finite;
          radius_finite = out.length.below.finite;
          tip_from_zero = from_zero tip q.tip_most.finite tip_height.not_under;
          sweep_from_zero = from_zero sweep q.sweep_most.finite q.backward;
          radius_from_zero = from_zero radius out.length.below.finite out.not_under;
          tip_under = most_under tip (tips_of c) (num root) (den root) q.tip_most;
          sweep_under = most_under sweep 4 (num root) (den root) q.sweep_most;
          ranges = positive_ranges root root_is;
          span_ranges = positive_ranges span span_is;
          scale_ranges = ranges_of S 7 20 (omega arith) (omega arith) scale_is.below scale_is.above;
          thickness_ranges = positive_ranges thickness thick;
          radius_most = le_trans (le_of_eq (sym (mul-one (num radius))))
              (le_trans out.length.below.size (le_trans (mul-le-mul_right (den radius) (pow_mono {i = 6} {j = 32} (omega arith)))
              (le_of_eq (mul_comm (2 ^ 32) (den radius)))));
        }

    wider : Proportions (tips_of c) 4 root tip sweep → Proportions 4 4 root tip sweep
    wider q = record {
      tip_most = record {
        finite = q.tip_most.finite;
        size = go c (num tip * den root) (num root) (den tip)
            q.tip_most.size;
      };
      sweep_most = q.sweep_most;
      backward = q.backward;
    }
      where
        go : (c : Section) (X N D : ℕ) → X ≤ tips_of c * N * D → X ≤ 4 * N * D
        go Square X N D h = omega arith
        go Rounded X N D h = omega arith
        go Airfoil X N D h = omega arith
        go AirfoilOpen X N D h = omega arith

    pub plate_strips : (L : ℕ) → Proportions (tips_of c) 4 root tip sweep
        → worked_of 7 (plate_of planform points c thickness radius) L S (break_heights planform points) ≡ one_worked 7
        (plate_of planform points c thickness radius) (bits 0 ⊘ S) (span ⊘ S) ∷ []
    plate_strips L q =
        rw heights_are
        (worked_one 7 (plate_of planform points c thickness radius) L S (bits 0) span
        (ends_differ (high_positive root tip span sweep S (area_fin (wider q))))
        (fin_converged c plain_section root tip span sweep thickness radius points (plate_fin q)))

-- ---- the answers of the two calls: figures or 8, by one piece and 15 samples
abbrev one_total : List Float → Totals
one_total value = record { value = value; intervals = 1; samples = piece_samples }

abbrev one_area : Float → List Float → Area
one_area scale value = area_by (size_check (unscaled_area scale value)) scale (one_total value)

abbrev one_set : FinSet → Float → Float → List Float → Figures
one_set set root scale value =
    let v = integrals_of set scale value in figures_by (size_check (volume v)) (fins_of set root v) (one_total value)

module _ (root tip span sweep : Float) (points : List Float) (L n : ℕ) (f64s : PlanformF64 (Trapezoid root tip span sweep) points) where
  abbrev shape : Planform
  shape = Trapezoid root tip span sweep

  abbrev scale : Float
  scale = scale_of shape points

  -- the area: figures or 8, by one piece and 15 samples
  pub area_figures_lem : area_check shape points L n ≡ Ok tt → Proportions 4 4 root tip sweep
      → worked_area shape points L
      ≡ one_area scale (summed_of (seven_wide 3 (one_worked 3 (area_three shape points) (bits 0 ⊘ scale) (span ⊘ scale) ∷ []))).totals.value
  unfolding concluded_area heights_to
  area_figures_lem c q =
      let checked = area_planform shape points L n c in
      rw (
        area_strips_lem root tip span sweep points f64s checked L q,
        ends_differ root tip span sweep points f64s checked
            (high_positive root tip span sweep scale (area_fin root tip span sweep points f64s checked q)),
      )

  -- a set of square or airfoil section: figures or 8, by one piece and 15 samples
  pub set_figures_lem : (set : FinSet) → set.planform ≡ shape → NotRounded set.cross_section → T (fits binary64 set.thickness_m)
      → T (fits binary64 set.body_radius_m)
      → set_check set points L n ≡ Ok tt → Proportions (tips_of set.cross_section) 4 root tip sweep
      → worked_figures set points L
      ≡ one_set set (root_chord_of set.planform points) scale
      (summed_of (one_worked 7 (plate_of shape points set.cross_section set.thickness_m set.body_radius_m) (bits 0 ⊘ scale)
      (span ⊘ scale) ∷ [])).totals.value
  unfolding concluded_set heights_to
  set_figures_lem set e s ft fr c q =
      let a = set_accepted set points L n c in
      let checked = subst (λ (p : Planform). planform_check p points ≡ Ok tt) e a.planform in
      let thick = field_above thickness_field set.thickness_m ft a.thickness refl refl in
      let out = height_checked body_radius_field set.body_radius_m fr a.radius refl refl in
      let strips : set_strips set points L ≡ one_worked 7
      (plate_of shape points set.cross_section set.thickness_m set.body_radius_m) (bits 0 ⊘ scale) (span ⊘ scale) ∷ [] =
      rw e (plate_strips root tip span sweep points f64s checked set.cross_section s set.thickness_m
      set.body_radius_m thick out L q) in
      let d = ends_differ root tip span sweep points f64s checked
      (high_positive root tip span sweep scale
      (area_fin root tip span sweep points f64s checked
      (wider root tip span sweep points f64s checked set.cross_section s set.thickness_m
      set.body_radius_m thick out q))) in
      rw (strips, e, d)

-- ---- what is reported: figures by one piece, or 8
by_area : (b : Bool) (S : Float) (value : List Float) → OnePiece (area_report (area_by (refuse_when b NoArea) S (one_total value)))
by_area true S value = record { fifteen = refl; figures_or_8 = inr refl }
by_area false S value = record { fifteen = refl; figures_or_8 = inl (refl, refl) }

by_set : (b : Bool) (body : Body) (value : List Float) → OnePiece (set_report (figures_by (refuse_when b NoArea) body (one_total value)))
by_set true body value = record { fifteen = refl; figures_or_8 = inr refl }
by_set false body value = record { fifteen = refl; figures_or_8 = inl (refl, refl) }

pub area_one_piece : AreaOnePiece
unfolding area_call
area_one_piece root tip span sweep points L entry r exit f64s answers checked q =
    let planform = Trapezoid root tip span sweep in
    let scale = scale_of planform points in
    let total = (summed_of (seven_wide 3 (one_worked 3 (area_three planform points) (bits 0 ⊘ scale) (span ⊘ scale) ∷ []))).totals.value in
    subst (λ (a : Area). OnePiece (area_report a))
    (sym (answers.call.0
    ∙ ap (λ (v : Verdict). (by_verdict v (worked_planform planform points L) (λ refusal. leaves_alone (refused_area refusal 0))).answer)
    checked
    ∙ area_figures_lem root tip span sweep points L (length entry) f64s checked q))
    (by_area (le (unscaled_area scale total) (bits 0)) scale total)

pub set_one_piece : SetOnePiece
unfolding set_call
set_one_piece set root tip span sweep points L entry r exit e plain f64s (thick, out) answers checked q =
    let planform = Trapezoid root tip span sweep in
    let scale = scale_of planform points in
    let plate = plate_of planform points set.cross_section set.thickness_m set.body_radius_m in
    let total = (summed_of (one_worked 7 plate (bits 0 ⊘ scale) (span ⊘ scale) ∷ [])).totals.value in
    let v = integrals_of set scale total in
    subst (λ (f : Figures). OnePiece (set_report f))
    (sym (answers.call.0
    ∙ ap (λ (v : Verdict). (by_verdict v (worked_set set points L) (λ refusal. leaves_alone (refused_figures refusal 0))).answer) checked
    ∙ set_figures_lem root tip span sweep points L (length entry) f64s set e plain thick out checked q))
    (by_set (le (volume v) (bits 0)) (fins_of set (root_chord_of set.planform points) v) total)
