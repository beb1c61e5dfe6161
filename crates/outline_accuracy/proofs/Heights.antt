-- The sample heights of a strip of one piece, in metres: each is near the exact one, and inside the strip. Assumes nothing.
use lib.Dec.{lit≤, T}
use Rattle.error_terms.proofs.Orders.{near_lt, near_le}
use Rattle.accuracy.proofs.StripEnds.{scaled_unit}
use Rattle.accuracy.proofs.Samples.{Sample, IsSample, height_of, at_samples, at_samples_lem, node_e, node_of, node_same, between_e, between}
use Rattle.accuracy.proofs.Samples.{between_is, reach_t, height_value, lower_share, upper_share, shares_not_below, above_is, below_is}
use Rattle.accuracy.proofs.Samples.{above_equal, below_equal, above_reaches, below_reaches}
use mathlib.Core.Path.{◌≡◌, refl, sym, subst}
use mathlib.Core.Bool.{true, false}
use mathlib.Core.List.{List, [], ◌∷◌}
use Prim.Native.Nat.{ℕ, ◌+◌, ◌-◌, ◌*◌, ◌^◌, ◌≤◌}
use native.Mathlib.Nat.{mul-pos, mul-le-mul_right, one-mul, mul-one, zero-mul, mul-zero, zero-add, add-zero}
use native.Mathlib.Omega.{arith}
use lib.Pow.{pow_pos}
use lib.Ieee.{Float, nan, inf, fin, up, down, of_bits, round, lt, le}
use lib.Ieee.Scale.{finite}
use lib.Ieee.Positive.{num, den, den_pos, positive}
use Rattle.floats.specs.Operations.{◌⊗◌, ◌⊘◌}
use Rattle.rounding.proofs.Monotone.{positive_num}
use Rattle.gauss_kronrod.specs.Tables.{nodes}
use Rattle.quadrature.specs.Rule.{half_sum, half_width}
use Rattle.rounding_error.proofs.Numbers.{Number, number, Size, ◌per◌, ◌of◌, ◌plus◌, ◌less◌, ◌times◌, ◌roundoffs◌, IsNumber, Under, Near}
use Rattle.rounding_error.proofs.Numbers.{Ranges, value_of, size_of}
use Rattle.rounding_error.proofs.Distances.{sorted, within_upto}
use Rattle.rounding_error.proofs.Counts as Counts
use Rattle.rounding_error.proofs.Polynomials.{Expression, given, ratio, ◌take◌, ◌mul◌, among, equal_by}
use Rattle.error_terms.proofs.Monomials.{place, AllRanges}
use Rattle.error_terms.proofs.Laws.{Reaches, inverse_of}
use Rattle.error_terms.proofs.Terms.{Given, value, AllKnown, numbers_of}
use Rattle.error_terms.proofs.Terms.{unit_by}
use Rattle.error_terms.proofs.Sound.{numbers_are, unit_real}
use Rattle.error_terms.proofs.Judged.{judge, nearer, near_within}
use Rattle.error_terms.proofs.Entries.{sized_entry, own_entry, near_given}
use Rattle.error_terms.proofs.Floors.{NotBelow, equal_reaches, times_not_below}
use Rattle.outline_accuracy.proofs.Signs.{equal_not_below}
use Rattle.outline_accuracy.proofs.HeightTests.{low_t, high_t, metres_t, placeholder, height_test}

ruleset plain = (sorted, one-mul, mul-one, zero-mul, mul-zero, zero-add, add-zero)

pub record StripGiven (h k span scale : Float) : Type 0 where
  pub span_positive : T (positive span)
  pub scale_positive : T (positive scale)
  pub span_ranges : Ranges 32 (size_of span)
  pub scale_ranges : Ranges 32 (size_of scale)
  pub lower_finite : T (finite h)
  pub upper_finite : T (finite k)
  pub lower_under : Under (1 of size_of span) (value_of h)
  pub upper_under : Under (1 of size_of span) (value_of k)

module _ (h k span scale : Float) (g : StripGiven h k span scale) where
  abbrev low : Float
  low = h ⊘ scale

  abbrev high : Float
  high = k ⊘ scale

  abbrev bases : List Size
  bases = size_of span ∷ size_of scale ∷ []

  abbrev entries : List Given
  entries = placeholder h k scale

  ranges : AllRanges 32 bases
  ranges = (g.span_ranges, (g.scale_ranges, tt))

  all : AllKnown bases entries
  all = (
    (sized_entry bases 0 (num span) (den span) refl h (den_pos span) g.lower_finite g.lower_under, tt),
    (
      (sized_entry bases 0 (num span) (den span) refl k (den_pos span) g.upper_finite g.upper_under, tt),
      (own_entry bases 1 scale refl g.scale_positive, tt),
    ),
  )

  tested : T (at_samples (height_test entries) 7)
  unfolding round of_bits nodes
  tested = tt

  abbrev pub sample_metres : Sample → Float
  sample_metres s = height_of s (half_sum low high) (half_width low high) ⊗ scale

  abbrev pub exact_metres : Sample → Number
  exact_metres s = between (value_of h) (value_of k) (node_of s)

  pub metres_near : (s : Sample) → IsSample s → Near (sample_metres s) (exact_metres s) (11 roundoffs size_of span)
  metres_near s i =
      subst (λ (x : Float). Near (x ⊗ scale) (exact_metres s) (11 roundoffs size_of span)) (height_value entries low_t high_t s)
      (subst (λ (f : Number). Near (value entries (metres_t s)) (number 1 0 2 times (value_of h plus value_of k) plus f times
      (number 1 0 2 times (value_of k less value_of h))) (11 roundoffs size_of span)) (node_same (numbers_of entries) (among []) s)
      (near_given bases 0 (num span) (den span) refl _ _ 11 (den_pos span)
      (near_within bases ranges entries all (metres_t s) (between_e (given 0) (given 2) (node_e s)) (11 * 2 ^ 30) (place 0) []
      (at_samples_lem (height_test entries) tested s i))))

  -- ---- half the strip's height over the scale
  abbrev reach_e : Expression
  reach_e = ratio 1 1 mul (given 2 take given 0) mul given 5

  abbrev pub exact_reach : Number
  exact_reach = number 1 0 2 times (value_of k less value_of h) times inverse_of (value_of scale)

  reach_test : T (nearer entries reach_e (4 * 2 ^ 30) (place 0) (place 1) (judge entries (reach_t low_t high_t)))
  unfolding round of_bits
  reach_test = tt

  pub reach_near : Near (half_width low high) exact_reach ((4 * 2 ^ 30) roundoffs unit_by bases (place 0) (place 1))
  reach_near = near_within bases ranges entries all (reach_t low_t high_t) reach_e (4 * 2 ^ 30) (place 0) (place 1) reach_test

  -- ---- inside the strip

  abbrev pub strip_height : Number
  strip_height = value_of k less value_of h

  height_is : IsNumber strip_height
  height_is = Counts.less_is (value_of k) (value_of h) (Counts.value_is k) (Counts.value_is h)

  pub metres_is : (s : Sample) → IsNumber (exact_metres s)
  metres_is = between_is (value_of h) (value_of k) (Counts.value_is h) (Counts.value_is k)

  pub above_lower : NotBelow strip_height → (s : Sample) → IsSample s → NotBelow (exact_metres s less value_of h)
  above_lower n s i =
      equal_not_below (above_is (value_of h) (value_of k) (Counts.value_is h) (Counts.value_is k) s)
      (above_equal (value_of h) (value_of k) (Counts.value_is h) (Counts.value_is k) s)
      (times_not_below (upper_share s) strip_height (shares_not_below s i).1 n)

  pub below_upper : NotBelow strip_height → (s : Sample) → IsSample s → NotBelow (value_of k less exact_metres s)
  below_upper n s i =
      equal_not_below (below_is (value_of h) (value_of k) (Counts.value_is h) (Counts.value_is k) s)
      (below_equal (value_of h) (value_of k) (Counts.value_is h) (Counts.value_is k) s)
      (times_not_below (lower_share s) strip_height (shares_not_below s i).0 n)

  -- ---- and so is the f64, of a strip of at least 1/4096 of the span
  module _ (high_enough : Reaches 1 (num span) (den span * 4096) strip_height) where
    in_roundoffs : Reaches (2 ^ 41) (num span) (den span * 2 ^ 53) strip_height
    in_roundoffs = finer' (num span) (den span) strip_height high_enough
      where
        finer' : (N c : ℕ) (δ : Number) → Reaches 1 N (c * 4096) δ → Reaches (2 ^ 41) N (c * 2 ^ 53) δ
        finer' N c (number q m e) h = go (mul-le-mul_right (2 ^ 41) h)
          where
            go : (1 * N * e + m * (c * 4096)) * 2 ^ 41 ≤ q * (c * 4096) * 2 ^ 41 → 2 ^ 41 * N * e + m * (c * 2 ^ 53) ≤ q * (c * 2 ^ 53)
            go u = omega (arith, u)

    pub sample_above : (s : Sample) → IsSample s → T (le h (sample_metres s))
    sample_above s i =
        near_le h (sample_metres s) (value_of h) (exact_metres s) 0 11 (num span) (den span) (den_pos span) (Counts.value_is h)
        (metres_is s)
        (Counts.itself h (size_of span) g.lower_finite) (metres_near s i)
        (above_reaches (value_of h) (value_of k) (Counts.value_is h) (Counts.value_is k) s i 11 (2 ^ 41) (num span) (den span * 2 ^ 53)
        (lit≤ tt) in_roundoffs)

    pub sample_below : (s : Sample) → IsSample s → lt (sample_metres s) k ≡ true
    sample_below s i =
        near_lt (sample_metres s) k (exact_metres s) (value_of k) 11 0 (num span) (den span) (positive_num span g.span_positive)
        (den_pos span) (metres_is s) (Counts.value_is k) (metres_near s i) (Counts.itself k (size_of span) g.upper_finite)
        (below_reaches (value_of h) (value_of k) (Counts.value_is h) (Counts.value_is k) s i 12 (2 ^ 41) (num span) (den span * 2 ^ 53)
        (lit≤ tt) in_roundoffs)

    -- ---- the scaled ends are in order, too
    scaled_reaches : (v : Number) (y : Float) → T (positive y) → Reaches 1 (num span) (den span * 4096) v
        → Reaches 5 (num span * den y) (den span * num y * 2 ^ 53) (v times inverse_of (value_of y))
    scaled_reaches v nan p r = absurd p
    scaled_reaches v (inf s) p r = absurd p
    scaled_reaches v (fin true m e) p r = absurd p
    scaled_reaches (number q n d) (fin false m e) p r =
        go (num span) (den span) (m * up e) (down e) (m * up e - 0) (none (m * up e)) r
      where
        none : (x : ℕ) → x - 0 ≡ x
        none x = omega arith

        go : (N D A C A' : ℕ) → A' ≡ A → 1 * N * d + n * (D * 4096) ≤ q * (D * 4096)
            → 5 * (N * C) * (d * A') + (q * 0 + n * C) * (D * A * 2 ^ 53) ≤ (q * C + n * 0) * (D * A * 2 ^ 53)
        go N D A C A' e u = subst (λ (A' : ℕ). 5 * (N * C) * (d * A') + (q * 0 + n * C) * (D * A * 2 ^ 53) ≤ (q * C + n * 0) *
            (D * A * 2 ^ 53)) (sym e)
            (let x = simp plain at (mul-le-mul_right (C * A) u) in simp plain (omega (arith, x)))

    abbrev i : Number
    i = inverse_of (value_of scale)

    i_is : IsNumber i
    i_is = numbers_are bases ranges entries all 5

    in_scales : (x : Float) (v : Number) → Near x v ((2 * 2 ^ 30) roundoffs unit_by bases (place 0) (place 1)) → Near x v
        (2 roundoffs ((num span * den scale) per (den span * num scale)))
    in_scales x v n =
        record {
          finite = n.finite;
          within = within_upto ((2 * 2 ^ 30) roundoffs unit_by bases (place 0) (place 1))
              (2 roundoffs ((num span * den scale) per (den span * num scale))) (value_of x) v
              (mul-pos (unit_real bases ranges (place 0) (place 1)) (pow_pos 53))
              (scaled_unit 2 (num span) (den span) (num scale) (den scale)) n.within;
        }

    pub ends_rise : lt low high ≡ true
    ends_rise =
        near_lt low high (value_of h times i) (value_of k times i) 2 2 (num span * den scale) (den span * num scale)
        (mul-pos (positive_num span g.span_positive) (den_pos scale)) (mul-pos (den_pos span) (positive_num scale g.scale_positive))
        (Counts.times_is (value_of h) i (Counts.value_is h) i_is) (Counts.times_is (value_of k) i (Counts.value_is k) i_is)
        (in_scales low (value_of h times i) (near_within bases ranges entries all low_t (given 0 mul given 5) (2 * 2 ^ 30) (place 0)
        (place 1) tt))
        (in_scales high (value_of k times i) (near_within bases ranges entries all high_t (given 2 mul given 5) (2 * 2 ^ 30) (place 0)
        (place 1) tt))
        (equal_reaches 5 (num span * den scale) (den span * num scale * 2 ^ 53) (Counts.times_is strip_height i height_is i_is)
        (equal_by (value_of h ∷ value_of k ∷ i ∷ []) (Counts.value_is h, (Counts.value_is k, (i_is, tt)))
        ((given 1 take given 0) mul given 2)
        (given 1 mul given 2 take given 0 mul given 2) tt)
        (scaled_reaches strip_height scale g.scale_positive high_enough))
