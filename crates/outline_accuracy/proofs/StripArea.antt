-- The value of a strip of one piece that two edges span is near the exact one. Assumes nothing.
use Rattle.accuracy.proofs.ToFractions.{first_power}
use mathlib.Core.Path.{◌≡◌, subst}
use mathlib.Core.Bool.{Bool, true, false}
use mathlib.Core.List.{[], ◌∷◌}
use Prim.Native.Nat.{ℕ, ◌+◌, ◌-◌, ◌*◌, ◌^◌, ◌≤◌, ◌<◌}
use native.Mathlib.Nat.{le_refl, mul-pos, one-mul, mul-one, zero-mul, mul-zero, zero-add, add-zero, pow-zero}
use native.Mathlib.Omega.{arith}
use lib.Dec.{T}
use lib.Pow.{pow_pos}
use lib.Ieee.{Float, nan, inf, fin, up, down}
use lib.Ieee.Positive.{num, den, den_pos, positive}
use Rattle.floats.specs.Operations.{◌⊗◌, ◌⊘◌}
use Rattle.rounding.proofs.Monotone.{positive_num}
use Rattle.quadrature.specs.Rule.{half_sum, half_width, weighted_to, kronrod_weight}
use Rattle.rounding_error.proofs.Numbers.{Number, number, Size, ◌per◌, ◌of◌, ◌by◌, ◌for◌, ◌upto◌, ◌plus◌, ◌less◌, ◌times◌, ◌roundoffs◌}
use Rattle.rounding_error.proofs.Numbers.{IsNumber, Under, Near, Ranges, Normal, zero_number, value_of, size_of}
use Rattle.rounding_error.proofs.Distances.{sorted, within_upto}
use Rattle.rounding_error.proofs.Counts as Counts
use Rattle.rounding_error.proofs.Ranges.{ranges_by, ranges_for, in_range}
use Rattle.rounding_error.proofs.Polynomials.{given, ratio, ◌add◌, ◌mul◌, ◌equals◌, trans, equal_by, evaluated_is}
use Rattle.error_terms.proofs.Monomials.{top, bottom, place}
use Rattle.error_terms.proofs.Laws.{inverse_of, Reaches}
use Rattle.error_terms.proofs.Terms.{Known, unit_by}
use Rattle.error_terms.proofs.Sound.{unit_real}
use Rattle.error_terms.proofs.Floors.{NotBelow}
use Rattle.outline_accuracy.proofs.Signs.{extent_of, extent_under}
use Rattle.outline_accuracy.proofs.Crossings.{some}
use Rattle.outline_accuracy.proofs.Lines.{equal_under}
use Rattle.outline_accuracy.proofs.Heights.{exact_reach, reach_near, exact_metres}
use Rattle.accuracy.proofs.StripEnds.{scaled_unit}
use Rattle.accuracy.proofs.Samples.{between_e, node_of, height_of, IsSample, centre, Sample}
use Rattle.outline_accuracy.proofs.Samples.{StripSized, Spanning, δ, δ-is, δ-not-below, δ-most, δ-ranges, strip_given, ranges}
use Rattle.outline_accuracy.proofs.Samples.{sample_under}
use Rattle.outline_accuracy.proofs.Chord as Chord
use Rattle.outline_accuracy.proofs.WeightedSum.{above, below, sample_shape, twice_near}
use Rattle.outline_accuracy.proofs.Product as Product

ruleset plain = (sorted, one-mul, mul-one, zero-mul, mul-zero, zero-add, add-zero)

inverse_under : (y : Float) → T (positive y) → Under (1 of (den y per num y)) (inverse_of (value_of y))
inverse_under nan p = absurd p
inverse_under (inf s) p = absurd p
inverse_under (fin true m e) p = absurd p
inverse_under (fin false m e) p = record {
  below = low (m * up e) (down e) (none (m * up e));
  above = high (m * up e) (down e)
      (none (m * up e));
}
  where
    none : (x : ℕ) → x - 0 ≡ x
    none x = omega arith

    low : (N D : ℕ) → N - 0 ≡ N → (D * 1 + 0 * (N - 0)) * N ≤ (0 * (N - 0) + 0 * 1) * N + 1 * D * ((N - 0) * 1)
    low N D e = rw e (simp plain (le_refl _))

    high : (N D : ℕ) → N - 0 ≡ N → (0 * (N - 0) + 0 * 1) * N ≤ (D * 1 + 0 * (N - 0)) * N + 1 * D * (1 * (N - 0))
    high N D e = rw e (simp plain (omega arith))

width_unit_lem : (b d N D A C e f : ℕ)
    → (251 * 2 ^ 30) roundoffs unit_by ((b per d) ∷ (N per D) ∷ (A per C) ∷ (e per f) ∷ []) above below upto 251 roundoffs
    ((b * N * C * f) per (d * D * A * e))
width_unit_lem b d N D A C e f =
    rw (
      first_power b,
      first_power d,
      first_power N,
      first_power D,
      first_power A,
      first_power C,
      first_power e,
      first_power f,
      pow-zero b,
      pow-zero d,
      pow-zero N,
      pow-zero D,
    )
    (go (2 ^ 30) (2 ^ 53))
  where
    go : (P Q : ℕ) → 251 * P * (b * (N * 1) * (1 * (1 * (C * (f * 1))))) * (d * D * A * e * Q)
        ≤ 251 * (b * N * C * f) * (d * (D * 1) * (1 * (1 * (A * (e * 1)))) * P * Q)
    go P Q = simp plain (le_refl _)

-- the strip's height over half the scale
half_under : (v : Number) → IsNumber v → NotBelow v → (y : Float) → T (positive y)
    → Under ((top (extent_of v) * den y) per (2 * bottom (extent_of v) * num y)) (number 1 0 2 times v times inverse_of (value_of y))
half_under (number p n d) I l y P =
    let v = number p n d in
    let E = extent_of v in
    let half : Under (1 of (1 per 2)) (number 1 0 2) = record { below = omega arith; above = omega arith } in
    let one = Counts.under_times 1 1 (1 per 2) E (number 1 0 2) v (omega arith) I (omega arith) half (extent_under v l) in
    let two = Counts.under_times 1 1 ((1 per 2) by E) (den y per num y) (number 1 0 2 times v) (inverse_of (value_of y))
    (mul-pos (omega arith) I)
    (positive_num y P) (Counts.times_is (number 1 0 2) v (omega arith) I) one (inverse_under y P) in
    within_upto (1 of (((1 per 2) by E) by (den y per num y))) ((top E * den y) per (2 * bottom E * num y))
    (number 1 0 2 times v times inverse_of (value_of y))
    zero_number (mul-pos (mul-pos (omega arith) I) (positive_num y P)) (go (p - n) (den y) (num y)) two
  where
    go : (x C A : ℕ) → 1 * (1 * x * C) * (2 * d * A) ≤ x * C * (2 * d * A)
    go x C A = simp plain (le_refl _)

-- ---- the strip's height as e / f
bottom_some : (v : Number) → IsNumber v → 0 < bottom (extent_of v)
bottom_some (number p n d) I = I

pub top_some : (v : Number) → Ranges 32 (extent_of v) → 0 < top (extent_of v)
top_some (number p n d) r = some (p - n) d r.real r.least

extent_at_most : (v : Number) (N D : ℕ) → extent_of v upto (N per D) → top (extent_of v) * D ≤ N * bottom (extent_of v)
extent_at_most (number p n d) N D h = h

extent_at_least : (v : Number) (N D : ℕ) → NotBelow v → Reaches 1 N (D * 4096) v → N * bottom (extent_of v) ≤ 4096 * top (extent_of v) * D
extent_at_least (number p n d) N D l h = go (p - n) (subst (λ (p : ℕ). 1 * N * d + n * (D * 4096) ≤ p * (D * 4096)) (split l) h)
  where
    split : n ≤ p → p ≡ n + (p - n)
    split u = omega arith

    go : (x : ℕ) → 1 * N * d + n * (D * 4096) ≤ (n + x) * (D * 4096) → N * d ≤ 4096 * x * D
    go x u = let z = simp plain at u in simp plain (omega (arith, z))

pub unit_ranges : (b d : ℕ) (span scale : Float) → Ranges 32 (b per d) → Ranges 20 (size_of span) → T (positive scale) → Ranges 20
    (size_of scale)
    → Ranges 92 ((b * num span * den scale * den scale) per (d * den span * num scale * num scale))
unit_ranges b d span scale l s p c =
    subst (λ (x : ℕ). Ranges 92 ((b * num span * den scale * den scale) per x)) (turn (num scale) (d * den span))
    (ranges_for 72 20 (((b per d) by size_of span) for scale) scale p
    (ranges_for 52 20 ((b per d) by size_of span) scale p (ranges_by 32 20 (b per d) (size_of span) l s) c) c)
  where
    turn : (A x : ℕ) → A * (A * x) ≡ x * A * A
    turn A x = simp sorted

module _ (h k span scale : Float) (g : StripSized h k span scale) (b d : ℕ) (L_ranges : Ranges 32 (b per d)) where
  abbrev N : ℕ
  N = num span

  abbrev D : ℕ
  D = den span

  abbrev A : ℕ
  A = num scale

  abbrev C : ℕ
  C = den scale

  abbrev Δ : Number
  Δ = δ h k span scale g

  abbrev e : ℕ
  e = top (extent_of Δ)

  abbrev f : ℕ
  f = bottom (extent_of Δ)

  -- the longest x times the span over the scale squared
  abbrev pub area_unit : Size
  area_unit = (b * N * C * C) per (d * D * A * A)

  ee : 0 < e
  ee = top_some Δ (δ-ranges h k span scale g)

  ff : 0 < f
  ff = bottom_some Δ (δ-is h k span scale g)

  AA : 0 < A
  AA = positive_num scale g.scale_positive

  most : e * D ≤ N * f
  most = extent_at_most Δ N D (δ-most h k span scale g)

  least : N * f ≤ 4096 * e * D
  least = extent_at_least Δ N D (δ-not-below h k span scale g) g.high_enough

  normal : Normal (4 of area_unit)
  normal = Counts.normal_size 4 area_unit (omega arith) (omega arith)
      (in_range 92 area_unit (omega arith) (unit_ranges b d span scale L_ranges g.span_ranges g.scale_positive g.scale_ranges))

  abbrev low : Float
  low = h ⊘ scale

  abbrev high : Float
  high = k ⊘ scale

  abbrev ρ : Number
  ρ = exact_reach h k span scale (strip_given h k span scale g)

  reach : Near (half_width low high) ρ (4 roundoffs Product.height_unit b d N D A C e f L_ranges.real (den_pos span) AA ee ff most least)
  reach =
      let n = reach_near h k span scale (strip_given h k span scale g) in
      record {
        finite = n.finite;
        within = within_upto ((4 * 2 ^ 30) roundoffs unit_by (size_of span ∷ size_of scale ∷ []) (place 0) (place 1))
            (4 roundoffs ((N * C) per (D * A)))
            (value_of (half_width low high)) ρ
            (mul-pos (unit_real (size_of span ∷ size_of scale ∷ []) (
              (strip_given h k span scale g).span_ranges,
              ((strip_given h k span scale g).scale_ranges, tt),
            ) (place 0) (place 1)) (pow_pos 53))
            (scaled_unit 4 N D A C) n.within;
      }

  module _ (lr : Bool) (lxp lyp lxq lyq : Float) (l : Spanning h k span b d lr lxp lyp lxq lyq) (rr : Bool) (rxp ryp rxq ryq : Float)
      (r : Spanning h k span b d rr rxp ryp rxq ryq) where
    abbrev pub M : Number
    M = Chord.middle h k span scale g b d L_ranges lr lxp lyp lxq lyq l rr rxp ryp rxq ryq r

    abbrev pub slant : Number
    slant = Chord.slant h k span scale g b d L_ranges lr lxp lyp lxq lyq l rr rxp ryp rxq ryq r

    M_is : IsNumber M
    M_is = evaluated_is (Chord.list h k span scale g b d L_ranges lr lxp lyp lxq lyq l rr rxp ryp rxq ryq r centre)
        (Chord.list_is h k span scale g b d L_ranges lr lxp lyp lxq lyq l rr rxp ryp rxq ryq r centre) Chord.middle_e

    slant_is : IsNumber slant
    slant_is = evaluated_is (Chord.list h k span scale g b d L_ranges lr lxp lyp lxq lyq l rr rxp ryp rxq ryq r centre)
        (Chord.list_is h k span scale g b d L_ranges lr lxp lyp lxq lyq l rr rxp ryp rxq ryq r centre) Chord.slant_e

    -- what a strip's value is exactly
    abbrev pub exact_strip : Number
    exact_strip = ρ times (M times number 2 0 1)

    middle_under : Under (4 of ((b * C) per (d * A))) (M times number 2 0 1)
    middle_under =
        let R = Chord.right_at h k span scale g b d L_ranges lr lxp lyp lxq lyq l rr rxp ryp rxq ryq r
        (exact_metres h k span scale (strip_given h k span scale g) centre) in
        let Q = Chord.left_at h k span scale g b d L_ranges lr lxp lyp lxq lyq l rr rxp ryp rxq ryq r
        (exact_metres h k span scale (strip_given h k span scale g) centre) in
        let i = inverse_of (value_of scale) in
        let list = Chord.list h k span scale g b d L_ranges lr lxp lyp lxq lyq l rr rxp ryp rxq ryq r centre in
        let list_is = Chord.list_is h k span scale g b d L_ranges lr lxp lyp lxq lyq l rr rxp ryp rxq ryq r centre in
        let width_is : IsNumber (R less Q) = evaluated_is list list_is (Chord.width_e (between_e (given 8) (given 9) (given 10))) in
        let one = Counts.under_less 1 1 (b per d) R Q L_ranges.real
        (sample_under h k span scale g b d L_ranges rr rxp ryp rxq ryq r centre tt)
        (sample_under h k span scale g b d L_ranges lr lxp lyp lxq lyq l centre tt) in
        let two = Counts.under_times 2 1 (b per d) (C per A) (R less Q) i L_ranges.real AA width_is one
        (inverse_under scale g.scale_positive) in
        let is_middle : (R less Q) times i equals M =
        trans (evaluated_is (M ∷ slant ∷ []) (M_is, (slant_is, tt)) (given 0 add ratio 0 0 mul given 1))
        (Chord.linear h k span scale g b d L_ranges lr lxp lyp lxq lyq l rr rxp ryp rxq ryq r centre)
        (equal_by (M ∷ slant ∷ []) (M_is, (slant_is, tt)) (given 0 add ratio 0 0 mul given 1) (given 0) tt) in
        let three = equal_under (2 of ((b per d) by (C per A))) (evaluated_is list list_is Chord.sample_e) is_middle two in
        let of_two : Under (2 of (1 per 1)) (number 2 0 1) = record { below = omega arith; above = omega arith } in
        within_upto (4 of (((b per d) by (C per A)) by (1 per 1))) (4 of ((b * C) per (d * A))) (M times number 2 0 1) zero_number
        (mul-pos (mul-pos L_ranges.real AA) (pow_pos 0)) same_unit
        (Counts.under_times 2 2 ((b per d) by (C per A)) (1 per 1) M (number 2 0 1) (mul-pos L_ranges.real AA) (pow_pos 0) M_is three
        of_two)
      where
        same_unit : 4 * (b * C * 1) * (d * A) ≤ 4 * (b * C) * (d * A * 1)
        same_unit = go b C d A
          where
            go : (b C d A : ℕ) → 4 * (b * C * 1) * (d * A) ≤ 4 * (b * C) * (d * A * 1)
            go b C d A = simp plain (le_refl _)

    module _ (y : Float → Float) (known : (s : Sample) → IsSample s
        → Known (Chord.bases h k span scale g b d L_ranges) (y (height_of s (half_sum low high) (half_width low high)))
        (M plus node_of s times slant) sample_shape) where
      abbrev sum : Float
      sum = weighted_to 7 kronrod_weight y (half_sum low high) (half_width low high)

      summed : Near sum (M times number 2 0 1) (251 roundoffs Product.width_unit b d N D A C e f L_ranges.real (den_pos span) AA ee ff
          most least)
      summed =
          let B = Chord.bases h k span scale g b d L_ranges in
          let n =
          twice_near B (ranges h k span scale g b d L_ranges) y (half_sum low high) (half_width low high) M slant M_is slant_is known
          in
          record {
            finite = n.finite;
            within = within_upto ((251 * 2 ^ 30) roundoffs unit_by B above below) (251 roundoffs ((b * N * C * f) per (d * D * A * e)))
                (value_of sum) (M times number 2 0 1)
                (mul-pos (unit_real B (ranges h k span scale g b d L_ranges) above below) (pow_pos 53)) (width_unit_lem b d N D A C e f)
                n.within;
          }

      ρ-is : IsNumber ρ
      ρ-is = Counts.times_is (number 1 0 2 times Δ) (inverse_of (value_of scale))
          (Counts.times_is (number 1 0 2) Δ (omega arith) (δ-is h k span scale g))
          (Chord.inverse_real scale g.scale_positive)

      pub strip_near : Near (half_width low high ⊗ sum) exact_strip (177 roundoffs area_unit)
      strip_near =
          Product.product_near b d N D A C e f L_ranges.real (den_pos span) AA ee ff most least (half_width low high) sum ρ
          (M times number 2 0 1) ρ-is
          (Counts.times_is M (number 2 0 1) M_is (pow_pos 0)) reach summed
          (half_under Δ (δ-is h k span scale g) (δ-not-below h k span scale g) scale g.scale_positive)
          middle_under normal

      pub strip_size : Under (2 of area_unit) exact_strip
      strip_size =
          Product.product_size b d N D A C e f L_ranges.real (den_pos span) AA ee ff most least (half_width low high) sum ρ
          (M times number 2 0 1) ρ-is
          (Counts.times_is M (number 2 0 1) M_is (pow_pos 0)) reach summed
          (half_under Δ (δ-is h k span scale g) (δ-not-below h k span scale g) scale g.scale_positive)
          middle_under normal
