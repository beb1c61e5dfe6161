-- From the call for a set's figures to the fin of proofs/SevenIntegrals: its lengths, its integrals, and the exact ones of specs/Inertias
-- in fractions. Assumes nothing.
use Rattle.std.specs.Prelude.{Ok, Option, Some, None}
use mathlib.Core.Path.{◌≡◌, refl, sym, ap, ◌∙◌, subst}
use mathlib.Core.Bool.{Bool, true, false, cond}
use mathlib.Core.List.{List, [], ◌∷◌}
use mathlib.Core.Logic.{◌⊎◌, inl, inr}
use Prim.Native.Nat.{ℕ, zero, suc, ◌*◌, ◌^◌, ◌≤◌, ◌<◌}
use native.Mathlib.Nat.{le_trans, mul-le-mul_right, one-mul, add-zero}
use native.Mathlib.Omega.{arith}
use lib.Dec.{T, lit≤}
use lib.ListN.{length}
use lib.Ieee.{Float, binary64, fits, lt, eq}
use lib.Ieee.Positive.{num, den, positive, positive-finite}
use Rattle.floats.specs.Operations.{◌⊕◌, ◌⊗◌, ◌⊘◌, bits, at}
use Rattle.floats.specs.Fractions.{Fraction, ◌plus◌ as sum, value_of as fraction_of}
use Rattle.rounding.specs.Sizes.{AtMost}
use Rattle.rounding.proofs.Sizes.{positive_of}
use Rattle.rounding_error.proofs.Numbers.{◌per◌, ◌of◌, Under, Ranges, value_of, size_of}
use Rattle.rounding_error.proofs.Fractions.{IsFraction, value_fraction}
use Rattle.rounding_error.proofs.Polynomials.{◌add◌}
use Rattle.refusals.proofs.Accepted.{each_accepts}
use Rattle.limits.specs.Limits.{thickness_field, body_radius_field, tab_height_field, tab_length_field, tab_offset_field, length_check}
use Rattle.limits.proofs.Lengths.{PositiveLength, Height, field_above, height_checked}
use Rattle.planforms.specs.declared.Planform.{Planform}
use Rattle.planforms.specs.declared.Planform.TheVariants.{Trapezoid}
use Rattle.planforms.specs.Planforms.{root_chord_of}
use Rattle.planforms.proofs.Sized.{Sized}
use Rattle.sections.specs.declared.Section.{Section}
use Rattle.sections.specs.declared.Section.TheVariants.{Square, Airfoil, AirfoilOpen}
use Rattle.integrands.specs.Integrands.{scale_of, plate_of}
use Rattle.integrands.proofs.Scales.{Scale, scale_sized}
use Rattle.quadrature.specs.Rule.{half_width, kronrod_weight, sum_of, piece_of}
use Rattle.quadrature.specs.declared.Piece.{Piece}
use Rattle.tolerance.specs.Bounds.{total_of, sum_from}
use Rattle.strips.specs.Strips.{Worked, value_from, strip_of, pieces_of, intervals_in}
use Rattle.fins.specs.declared.FinSet.{FinSet}
use Rattle.fins.specs.declared.FinTab.{FinTab}
use Rattle.fins.specs.Fins.{tab_check}
use Rattle.fins.proofs.Accepted.{AcceptedSet, set_accepted}
use Rattle.fins.proofs.Sized.{planform_sized}
use Rattle.figures.specs.Figures.{set_strips}
use Rattle.figures.specs.declared.Figures.{Figures}
use Rattle.one_piece.specs.OnePiece.{NotRounded, tips_of, Proportions}
use Rattle.error_terms.proofs.Floors.{positive_from, NotBelow}
use Rattle.one_piece.proofs.PlatePiece.{each_of_seven, plain_sections, positive_above}
use Rattle.one_piece.proofs.Answers.{plate_strips}
use Rattle.accuracy.specs.Masses.{Plate, Mount, set_with, SectionGiven, OneStrip}
use Rattle.accuracy.specs.Inertias.{Integrals, fin_integrals, tab_integrals, together, TabBeside}
use Rattle.accuracy.proofs.Limits.{ranges_of, least_of, most_under}
use Rattle.accuracy.proofs.WholePieces.{value_is, wider, whole_piece}
use Rattle.accuracy.proofs.StripEnds.{ends_differ}
use Rattle.accuracy.proofs.Called.{heights_are, one_strip_lem}
use Rattle.accuracy.proofs.ChordWidths.{one_sums}
use Rattle.accuracy.proofs.Checked.{density_checked, tip_checked, not_below as from_zero}
use Rattle.accuracy.proofs.SetCalled as Called
use Rattle.accuracy.proofs.SetCalled.{set_given}
use Rattle.accuracy.proofs.SevenIntegrals.{Fin, Class, near, far, wide, tips_in, sweeps_in, spans_in, Sizes, TabKnown, exactly, exact_e}
use Rattle.accuracy.proofs.SevenIntegrals.{numbers_in, tab_numbers, fin_in, tab_e, total_at}
use Rattle.accuracy.proofs.ToFractions.{fraction_in, among_fractions, AreFractions, expression_fraction}

-- ---- the exact integrals of specs/Inertias
abbrev tab_fractions : Option FinTab → List Fraction
tab_fractions None = []
tab_fractions (Some tab) = fraction_of tab.height_m ∷ fraction_of tab.length_m ∷ fraction_of tab.offset_m ∷ []

abbrev fractions_of : Plate → Float → List Fraction
fractions_of p radius =
    fraction_of p.root ∷ fraction_of p.tip ∷ fraction_of p.span ∷ fraction_of p.sweep ∷ fraction_of p.thickness ∷
    fraction_of radius ∷
    tab_fractions p.tab

abbrev pub field_of : Integrals → ℕ → Fraction
field_of v zero = v.volume
field_of v (suc zero) = v.r1
field_of v (suc (suc zero)) = v.r2
field_of v (suc (suc (suc zero))) = v.x1
field_of v (suc (suc (suc (suc zero)))) = v.x2
field_of v (suc (suc (suc (suc (suc zero))))) = v.rx
field_of v (suc (suc (suc (suc (suc (suc i)))))) = v.tau2

abbrev pub exact_at : Section → Plate → Float → Integrals
exact_at s p radius = together (fin_integrals s p radius) (tab_integrals p.tab p.thickness radius)

module _ (p : Plate) (radius : Float) where
  abbrev FinField : Section → ℕ → Type 0
  FinField s i = fraction_in (among_fractions (fractions_of p radius)) (fin_in s i) ≡ field_of (fin_integrals s p radius) i

  fin_field : (s : Section) → NotRounded s → (i : ℕ) → i < 7 → FinField s i
  fin_field = plain_sections (λ s. (i : ℕ) → i < 7 → FinField s i)
      (each_of_seven (λ i. FinField Square i) refl refl refl refl refl refl refl)
      (each_of_seven (λ i. FinField Airfoil i) refl refl refl refl refl refl refl)
      (each_of_seven (λ i. FinField AirfoilOpen i) refl refl refl refl refl refl refl)

-- of a tab, where its numbers stand behind six others
module _ (a b c d thickness radius : Float) where
  abbrev TabField : Option FinTab → ℕ → Type 0
  TabField t i =
      fraction_in (among_fractions (fraction_of a ∷ fraction_of b ∷ fraction_of c ∷ fraction_of d ∷ fraction_of thickness ∷
      fraction_of radius ∷ tab_fractions t)) (tab_e t i) ≡ field_of (tab_integrals t thickness radius) i

  tab_field : (t : Option FinTab) (i : ℕ) → i < 7 → TabField t i
  tab_field None = each_of_seven (λ i. TabField None i) refl refl refl refl refl refl refl
  tab_field (Some t) = each_of_seven (λ i. TabField (Some t) i) refl refl refl refl refl refl refl

both_field : (a b : Integrals) (i : ℕ) → i < 7 → field_of (together a b) i ≡ sum (field_of a i) (field_of b i)
both_field a b = each_of_seven (λ i. field_of (together a b) i ≡ sum (field_of a i) (field_of b i)) refl refl refl refl refl refl refl

exact_field : (s : Section) → NotRounded s → (p : Plate) (radius : Float) (i : ℕ) → i < 7
    → fraction_in (among_fractions (fractions_of p radius)) (fin_in s i add tab_e p.tab i) ≡ field_of (exact_at s p radius) i
exact_field s e p radius i l =
    ap (λ (x : Fraction). sum x (fraction_in (among_fractions (fractions_of p radius)) (tab_e p.tab i))) (fin_field p radius s e i l)
    ∙ ap (λ (x : Fraction). sum (field_of (fin_integrals s p radius) i) x)
    (tab_field p.root p.tip p.span p.sweep p.thickness radius p.tab i l)
    ∙ sym (both_field (fin_integrals s p radius) (tab_integrals p.tab p.thickness radius) i l)

-- ---- the call
pub tab_lengths : (tab : FinTab) (root : Float) → T (fits binary64 tab.height_m) → T (fits binary64 tab.length_m)
    → tab_check (Some tab) root ≡ Ok tt → PositiveLength tab.height_m × PositiveLength tab.length_m
unfolding tab_check
tab_lengths tab root h l c =
    let (a, (b, rest)) = each_accepts
    (length_check tab_height_field tab.height_m ∷ length_check tab_length_field tab.length_m
    ∷ length_check tab_offset_field tab.offset_m ∷ _ ∷ []) c in
    (field_above tab_height_field tab.height_m h a refl refl, field_above tab_length_field tab.length_m l b refl refl)

-- what root, span, thickness and a radius do not pass
pub record Reached (p : Plate) (radius : Float) (b d : ℕ) : Type 0 where
  pub is_size : 0 < d
  pub most : b ≤ 64 * d
  pub root_most : AtMost b d p.root
  pub span_most : AtMost b d p.span
  pub radius_most : AtMost b d radius
  pub thickness_most : AtMost b d p.thickness

module _ (section : Section) (p : Plate) (m : Mount) (points : List Float) (L : ℕ) (start : List Float) (r : Figures)
    (exit : List Float) (plain_section : NotRounded section) (g : SectionGiven section p m points L start r exit)
    (radius_f64 : T (fits binary64 m.radius)) (c : Class) (q : OneStrip (tips_in c) (sweeps_in c) section p r.intervals) where
  abbrev pub planform : Planform
  planform = Trapezoid p.root p.tip p.span p.sweep

  abbrev pub S : Float
  S = scale_of planform points

  abbrev pub set : FinSet
  set = set_with section p m

  pub figures : Called.Given section p m points L (length start) r
  figures = set_given section p m points L (length start) r g.answers.call.0 g.given g.no_fillet_lem

  pub checks : AcceptedSet set points L (length start)
  checks = set_accepted set points L (length start) figures.accepted

  pub sized : Sized planform points
  sized = planform_sized planform points g.f64s checks.planform

  pub scaled : Scale S
  scaled = scale_sized planform points sized

  pub thick : PositiveLength p.thickness
  thick = field_above thickness_field p.thickness g.thickness_f64 checks.thickness refl refl

  pub out : Height m.radius
  out = height_checked body_radius_field m.radius radius_f64 checks.radius refl refl

  pub heavy : T (positive p.density) × Ranges 24 (size_of p.density)
  heavy = density_checked p.density checks.density g.heavy

  long : (x : Float) → PositiveLength x → T (positive x) × Ranges 32 (size_of x)
  long x h = (
    positive_of x 20 h.not_minus h.above,
    wider 24 (size_of x) (omega arith) (ranges_of x 6 20 (omega arith) (omega arith) h.length.below h.above),
  )

  pub root_positive : T (positive p.root)
  root_positive = (long p.root sized.0).0

  lengths_under : (y : Float) (k : ℕ) (x : Float) → AtMost (k * num y) (den y) x → Under (k of size_of y) (value_of x)
  lengths_under y k x h = subst (λ (n : ℕ). Under (n per den y) (value_of x)) (one-mul (k * num y)) (most_under x (k * num y) (den y) h)

  chords_most : (k j : ℕ) (x : Float) → k ≤ j → AtMost (k * num p.root) (den p.root) x → Under (j of size_of p.root) (value_of x)
  chords_most k j x l h = lengths_under p.root j x
      (record { finite = h.finite; size = le_trans h.size (mul-le-mul_right (den x) (mul-le-mul_right (num p.root) l)) })

  few : (c : Class) → (tips_in c ≤ 2) × (sweeps_in c ≤ 8)
  few near = (lit≤ tt, lit≤ tt)
  few far = (lit≤ tt, lit≤ tt)
  few wide = (lit≤ tt, lit≤ tt)

  -- the fin, at a distance from the axis that may stand for its own where it counts for nothing
  abbrev pub fin_at : Float → Fin
  fin_at x =
      record {
        section = section;
        root = p.root;
        tip = p.tip;
        span = p.span;
        sweep = p.sweep;
        scale = S;
        thickness = p.thickness;
        radius = x;
        tab = p.tab;
        density = p.density;
      }

  abbrev pub f : Float → List Float
  f = plate_of planform points section p.thickness m.radius

  abbrev pub low : Float
  low = bits 0 ⊘ S

  abbrev pub high : Float
  high = p.span ⊘ S

  -- ---- its one piece
  span_positive : T (positive p.span)
  span_positive = (long p.span sized.1.1.0).0

  span_above : lt (bits 0) p.span ≡ true
  span_above = positive_above p.span span_positive

  abbrev strip : Worked
  strip = strip_of 7 f L low high

  strips_are : set_strips set points L ≡ strip ∷ []
  strips_are =
      rw (heights_are p.root p.tip p.span p.sweep points L span_above)
      (one_strip_lem p.root p.tip p.span p.sweep points L span_above 7 f L S (bits 0) p.span)

  apart : eq low high ≡ false
  apart = ends_differ p.span S sized.1.1.0 scaled

  pieces_counted : r.intervals ≡ length (pieces_of strip)
  pieces_counted = subst (λ (x : Bool). r.intervals ≡ cond x 1 (length (pieces_of strip))) apart
      (figures.intervals ∙ ap intervals_in strips_are ∙ add-zero _)

  pub sum_is : (k : ℕ) → k < 7 → value_from (bits 0) k (set_strips set points L) ≡ bits 0 ⊕
      (bits 0 ⊕ half_width low high ⊗ sum_of kronrod_weight f low high k)
  unfolding total_of
  sum_is k l = go q.one_piece ∙ ap (λ (z : Float). bits 0 ⊕ (bits 0 ⊕ z)) (value_is 7 f low high k l)
    where
      go : Proportions (tips_of section) 4 p.root p.tip p.sweep ⊎ (r.intervals ≡ 1)
          → value_from (bits 0) k (set_strips set points L) ≡ bits 0 ⊕ (bits 0 ⊕ at (piece_of 7 f low high).value k)
      go (inl proportions) =
          ap (value_from (bits 0) k)
          (plate_strips p.root p.tip p.span p.sweep points g.f64s checks.planform section plain_section
          p.thickness m.radius thick out L proportions)
      go (inr one) =
          ap (value_from (bits 0) k) strips_are
          ∙ ap (λ (pieces : List Piece). bits 0 ⊕ sum_from (bits 0) (λ x. at x.value k) pieces)
          (whole_piece 7 f low high L apart (sym pieces_counted ∙ one))

  tip_from_zero : NotBelow (value_of p.tip)
  tip_from_zero = from_zero p.tip q.tip_most.finite
      (tip_checked p.root p.tip p.span p.sweep points g.f64s.1.0 checks.planform)

  scale_ranges : Ranges 32 (size_of S)
  scale_ranges = wider 24 (size_of S) (omega arith) (ranges_of S 7 20 (omega arith) (omega arith) scaled.below scaled.above)

  pub total_is : (k : ℕ) → k < 7 → value_from (bits 0) k (set_strips set points L) ≡ total_at (fin_at m.radius) section k
  total_is k l =
      sum_is k l
      ∙ ap (λ (z : Float). bits 0 ⊕ (bits 0 ⊕ half_width low high ⊗ z))
      (one_sums section p.root p.tip p.span p.sweep p.thickness m.radius points
      (record {
        root_positive = root_positive;
        span_positive = span_positive;
        scale_positive = scaled.is_positive;
        tip_finite = q.tip_most.finite;
        sweep_finite = q.sweep_most.finite;
        tip_from_zero = tip_from_zero;
        tip_under = chords_most (tips_in c) 2 p.tip (few c).0 q.tip_most;
        sweep_under = chords_most (sweeps_in c) 8 p.sweep (few c).1 q.sweep_most;
        root_ranges = (long p.root sized.0).1;
        span_ranges = (long p.span sized.1.1.0).1;
        scale_ranges = scale_ranges;
      }) kronrod_weight k)

  pub tab_accepted : tab_check p.tab p.root ≡ Ok tt
  unfolding root_chord_of
  tab_accepted = checks.tab

  -- ---- its lengths
  module _ (x : Float) (b d : ℕ) (reached : Reached p x b d) (beside : TabBeside (spans_in c) p.tab p x) where
    tab_sizes : (t : Option FinTab) → TabBeside (spans_in c) t p x → tab_check t p.root ≡ Ok tt → TabKnown (fin_at x) c t
    tab_sizes None w k = tt
    tab_sizes (Some tab) w k =
        let v = w.0 in
        let l = tab_lengths tab p.root v.0.0 v.0.1 k in
        record {
          height_finite = v.1.1.finite;
          length_finite = v.1.0.0.finite;
          offset_finite = v.1.0.1.finite;
          height_from_zero = positive_from tab.height_m (long tab.height_m l.0).0;
          length_from_zero = positive_from tab.length_m (long tab.length_m l.1).0;
          height_under = lengths_under p.span (spans_in c) tab.height_m v.1.1;
          length_under = most_under tab.length_m (num p.root) (den p.root) v.1.0.0;
          offset_under = most_under tab.offset_m (num p.root) (den p.root) v.1.0.1;
          radius_under = most_under x (num p.span) (den p.span) w.1;
        }

    pub sizes : Sizes (fin_at x) c b d
    sizes =
        record {
          plain_section = plain_section;
          root_positive = root_positive;
          span_positive = span_positive;
          scale_positive = scaled.is_positive;
          thickness_positive = (long p.thickness thick).0;
          density_positive = heavy.0;
          tip_finite = q.tip_most.finite;
          sweep_finite = q.sweep_most.finite;
          radius_finite = reached.radius_most.finite;
          tip_from_zero = tip_from_zero;
          tip_under = lengths_under p.root (tips_in c) p.tip q.tip_most;
          sweep_under = lengths_under p.root (sweeps_in c) p.sweep q.sweep_most;
          is_size = reached.is_size;
          root_most = reached.root_most.size;
          span_most = reached.span_most.size;
          thickness_most = reached.thickness_most.size;
          radius_under = most_under x b d reached.radius_most;
          tab = tab_sizes p.tab beside tab_accepted;
          ranges = (
            (long p.root sized.0).1,
            (
              (long p.span sized.1.1.0).1,
              (
                scale_ranges,
                (
                  (long p.thickness thick).1,
                  (wider 24 (b per d) (omega arith) size_ranges, (wider 24 (size_of p.density) (omega arith) heavy.1, tt)),
                ),
              ),
            ),
          );
        }
      where
        size_ranges : Ranges 24 (b per d)
        size_ranges =
            record {
              real = reached.is_size;
              least = least_of p.root b d root_positive sized.0.above reached.root_most;
              most = below b d reached.most;
            }
          where
            below : (b d : ℕ) → b ≤ 64 * d → b ≤ d * 2 ^ 24
            below b d h = omega arith

    -- ---- in fractions
    tab_fractions_lem : (t : Option FinTab) → TabKnown (fin_at x) c t → AreFractions (tab_numbers t) (tab_fractions t)
    tab_fractions_lem None h = tt
    tab_fractions_lem (Some tab) h =
        let l = value_fraction tab.length_m h.length_finite in
        (value_fraction tab.height_m h.height_finite, (l, (value_fraction tab.offset_m h.offset_finite, tt)))

    lengths_are : AreFractions (numbers_in (fin_at x)) (fractions_of p x)
    lengths_are =
        let root = value_fraction p.root (positive-finite p.root root_positive) in
        let tip = value_fraction p.tip q.tip_most.finite in
        let span = value_fraction p.span (positive-finite p.span sizes.span_positive) in
        let sweep = value_fraction p.sweep q.sweep_most.finite in
        let thickness = value_fraction p.thickness (positive-finite p.thickness sizes.thickness_positive) in
        (root, (tip, (span, (sweep, (thickness, (value_fraction x reached.radius_most.finite, tab_fractions_lem p.tab sizes.tab))))))

    pub field_is : (i : ℕ) → i < 7 → IsFraction (exactly (fin_at x) i) (field_of (exact_at section p x) i)
    field_is i l = subst (λ (y : Fraction). IsFraction (exactly (fin_at x) i) y) (exact_field section plain_section p x i l)
        (expression_fraction (numbers_in (fin_at x)) (fractions_of p x) lengths_are (exact_e (fin_at x) i))

  pub density_fraction : IsFraction (value_of p.density) (fraction_of p.density)
  density_fraction = value_fraction p.density (positive-finite p.density heavy.0)
