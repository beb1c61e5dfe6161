-- The area that the call gives for an outline is near the exact one. Assumes nothing.
use Rattle.std.specs.Prelude.{Ok}
use mathlib.Core.Path.{◌≡◌, refl, sym, ap, ◌∙◌, subst}
use mathlib.Core.Bool.{Bool, true, false, not}
use mathlib.Core.List.{List, [], ◌∷◌}
use Prim.Native.Nat.{ℕ, zero, suc, ◌+◌, ◌*◌, ◌^◌, ◌≤◌, ◌<◌, zero-le}
use native.Mathlib.Nat.{le_refl, le_trans, mul-pos, mul-le-mul_left, mul-le-mul_right, one-mul, mul-one, zero-mul, mul-zero, zero-add}
use native.Mathlib.Nat.{add-zero}
use native.Mathlib.Omega.{arith}
use lib.Dec.{T, leb, le→leb, leb→le, nleb→lt, lit≤}
use lib.ListN.{length}
use lib.Pow.{pow_pos, pow_mono}
use lib.IntN.{pos}
use lib.Ieee.{Float, of_bits, lt}
use lib.Ieee.Bits.{is_true}
use lib.Ieee.Positive.{num, den, den_pos, positive, positive-finite}
use Rattle.floats.specs.Operations.{◌⊗◌, bits}
use Rattle.floats.specs.Fractions.{◌over◌, ◌times◌ as product, value_of as fraction_of}
use Rattle.floats.proofs.Bools.{no, and_left}
use Rattle.floats.proofs.Order.{below_through, not_lt_through}
use Rattle.rounding.specs.Sizes.{AtMost}
use Rattle.rounding.proofs.Sizes.{positive_of, zero_below}
use Rattle.sorting.specs.Sorted.{Rising, Each, below_all}
use Rattle.planforms.specs.declared.Planform.TheVariants.{Outline}
use Rattle.planforms.specs.Planforms.{x_at, pair_count, last_x, span_of}
use Rattle.planforms.proofs.Sized.{Sized, span_sized}
use Rattle.rounding.proofs.Signs.{finite_no_nan}
use Rattle.outlines.specs.Outlines.{planform_check}
use Rattle.refusals.specs.Given.{Gives}
use Rattle.refusals.specs.Verdict.{Verdict}
use Rattle.breaks.specs.Breaks.{break_heights}
use Rattle.breaks.proofs.Bounded.{breaks_rise}
use Rattle.breaks.proofs.Listed.{most_breaks}
use Rattle.integrands.specs.Integrands.{scale_of, area_three}
use Rattle.integrands.proofs.Scales.{Scale, scale_sized}
use Rattle.std.specs.Prelude.{Ok, Err}
use Rattle.halving.specs.Endings.{Ending, accepted as ended}
use Rattle.strips.specs.Strips.{worked_of, value_from, intervals_in, ending_of}
use Rattle.strips.specs.Claim.{Reported}
use Rattle.widths.proofs.Strips.{intervals_same}
use Rattle.widths.proofs.Totals.{totals_same}
use Rattle.fins.proofs.Accepted.{area_limit, area_planform, area_points}
use Rattle.fins.proofs.Sized.{planform_sized}
use Rattle.figures.specs.Areas.{area_strips}
use Rattle.figures.specs.declared.Area.{Area}
use Rattle.figures.proofs.StripCount.{heights_some}
use Rattle.rounding_error.specs.Distances.{Within as Apart}
use Rattle.rounding_error.proofs.Numbers.{Number, number, Size, ◌per◌, ◌by◌, ◌plus◌, ◌times◌, ◌roundoffs◌, IsNumber, Near, Ranges, value_of}
use Rattle.rounding_error.proofs.Numbers.{size_of}
use Rattle.rounding_error.proofs.Distances.{sorted, within_upto}
use Rattle.rounding_error.proofs.Operations.{near_same}
use Rattle.rounding_error.proofs.Counts as Counts
use Rattle.rounding_error.proofs.Ranges.{ranges_by}
use Rattle.rounding_error.proofs.Polynomials.{given, ratio, ◌add◌, ◌mul◌, ◌equals◌, trans, itself, equal_by, evaluated_is, evaluated_equal}
use Rattle.rounding_error.proofs.Polynomials.{AllNumbers}
use Rattle.rounding_error.proofs.Fractions.{IsFraction, times_fraction, value_fraction, whole_fraction, shifted_fraction, within_fraction}
use Rattle.error_terms.proofs.Laws.{inverse_of}
use Rattle.error_terms.proofs.Floors.{NotBelow}
use Rattle.accuracy.proofs.Called.{Given, area_given}
use Rattle.accuracy.proofs.Limits.{least_of}
use Rattle.error_terms.proofs.Shares.{positive_value}
use Rattle.outline_accuracy.specs.OutlineAreas.{OutlineGiven, Reach, AllInOrder, area_between, OutlineArea}
use Rattle.outline_accuracy.proofs.Lines.{times_inverse}
use Rattle.outline_accuracy.proofs.StripArea.{unit_ranges}
use Rattle.outline_accuracy.proofs.StripSums.{strips, numbers, numbers_is, area_near}
use Rattle.outline_accuracy.proofs.Corners as Corners
use Rattle.outline_accuracy.proofs.BuiltStrips as Built

ruleset plain = (sorted, one-mul, mul-one, zero-mul, mul-zero, zero-add, add-zero)

wider : (j k : ℕ) (S : Size) → j ≤ k → Ranges j S → Ranges k S
wider j k (a per c) h s =
    record {
      real = s.real;
      least = le_trans s.least (mul-le-mul_left a (pow_mono h));
      most = le_trans s.most (mul-le-mul_left c (pow_mono h));
    }

error_is : (span : Float) (b c : ℕ) → T (positive span) → IsFraction (number (b * num span) 0 (c * den span))
    (product (pos b over c) (fraction_of span))
error_is span b c p =
    shifted_fraction (b * num span) 0 (b * num span + 0 * 0) (b * 0 + 0 * num span) (c * den span)
    (product (pos b over c) (fraction_of span)) (none b (num span))
    (times_fraction (number b 0 c) (number (num span) 0 (den span)) (pos b over c) (fraction_of span) (whole_fraction b c)
    (subst (λ (x : Number). IsFraction x (fraction_of span)) (positive_value span p) (value_fraction span (positive-finite span p))))
  where
    none : (b N : ℕ) → b * N + (b * 0 + 0 * N) ≡ 0 + (b * N + 0 * 0)
    none b N = omega arith

first_rises : (h k : Float) (l : List Float) → Rising (h ∷ k ∷ l) → lt h k ≡ true
unfolding Rising below_all
first_rises h k l r = and_left (lt h k) (below_all h l) r.0

-- given figures, the last strip was accepted
ended_so : (e : Ending) (v : Verdict) → Reported e v → v ≡ Ok tt → e ≡ ended
ended_so (Ok done) v r a = refl
ended_so (Err c) v r a = absurd (subst (λ (v : Verdict). Gives v 13 (c.component ∷ [])) a r)

module _ (points : List Float) (L : ℕ) (entry : List Float) (r : Area) (exit : List Float) (g : OutlineGiven points L entry r exit) where
  abbrev heights : List Float
  heights = break_heights Outline points

  abbrev span : Float
  span = span_of Outline points

  abbrev scale : Float
  scale = scale_of Outline points

  figures : Given Outline points L (length entry) r
  figures = area_given Outline points L (length entry) r g.answers.call.0 g.given

  check : planform_check Outline points ≡ Ok tt
  check = area_planform Outline points L (length entry) figures.accepted

  sized : Sized Outline points
  sized = planform_sized Outline points g.f64s check

  counts : (3 ≤ pair_count points) × (pair_count points ≤ 64)
  counts = area_points Outline points L (length entry) figures.accepted refl

  few : leb (pair_count points) 64 ≡ true
  few = is_true _ (le→leb (pair_count points) 64 counts.1)

  scaled : Scale scale
  scaled = scale_sized Outline points sized

  limits : (1 ≤ L) × (L ≤ 64)
  limits = area_limit Outline points L (length entry) figures.accepted

  abbrev Inside : Float → Type 0
  Inside = Corners.Inside points g.f64s check sized few

  inside : Each Inside heights
  inside = Corners.breaks_inside points g.f64s check sized few

  -- ---- the span is above 0, as there are two break heights
  above : lt (bits 0) span ≡ true
  above = go heights (heights_some Outline points check) (breaks_rise Outline points sized) inside
    where
      second : (h k : Float) → lt h k ≡ true → Inside h → Inside k → lt (bits 0) span ≡ true
      second h k t i j = pick (lt (bits 0) span) refl
        where
          past : lt h span ≡ true
          past = below_through h k span (finite_no_nan span (span_sized Outline points sized).below.finite) t j.1.1

          pick : (c : Bool) → lt (bits 0) span ≡ c → lt (bits 0) span ≡ true
          pick true e = e
          pick false e = no (sym past ∙ not_lt_through (bits 0) span h (finite_no_nan (bits 0) zero_below.finite) e i.1.0)

      go : (l : List Float) → 2 ≤ length l → Rising l → Each Inside l → lt (bits 0) span ≡ true
      go [] s r i = absurd (let z : ⊥ = omega (arith, s) in z)
      go (h ∷ []) s r i = absurd (let z : ⊥ = omega (arith, s) in z)
      go (h ∷ k ∷ l) s r i = second h k (first_rises h k l r) i.0 i.1.0

  module _ (b d : ℕ) (reach : Reach b d points) (most : b ≤ 64 * d) where
    -- ---- no x is over b / d
    root_most : (m : ℕ) → 3 ≤ m → ((i : ℕ) → i < m → AtMost b d (x_at points i)) → AtMost b d (last_x points m)
    root_most zero l e = absurd (let z : ⊥ = omega (arith, l) in z)
    root_most (suc m) l e = e m (le_refl (suc m))

    L_ranges : Ranges 32 (b per d)
    L_ranges =
        let root = sized.1 in
        wider 24 32 (b per d) (omega arith)
        (record {
          real = reach.is_size;
          least = least_of (last_x points (pair_count points)) b d (positive_of (last_x points (pair_count points)) 20 root.not_minus
              root.above) root.above
              (root_most (pair_count points) counts.0 reach.each_x);
          most = sixty_four_lem (most);
        })
      where
        sixty_four_lem : b ≤ 64 * d → b ≤ d * 2 ^ 24
        sixty_four_lem h = omega (arith, h)

    abbrev U : Size
    U = (b * num span * den scale * den scale) per (d * den span * num scale * num scale)

    span_ranges : Ranges 20 (size_of span)
    span_ranges = Built.span_ranges points g.f64s check sized few b d L_ranges reach.each_x scaled L above

    scale_ranges : Ranges 20 (size_of scale)
    scale_ranges = Built.scale_ranges points g.f64s check sized few b d L_ranges reach.each_x scaled L above

    U_ranges : Ranges 92 U
    U_ranges = unit_ranges b d span scale L_ranges span_ranges scaled.is_positive scale_ranges

    U_once : Ranges 112 (U by size_of scale)
    U_once = ranges_by 92 20 U (size_of scale) U_ranges scale_ranges

    U_twice : Ranges 132 (U by size_of scale by size_of scale)
    U_twice = ranges_by 112 20 (U by size_of scale) (size_of scale) U_once scale_ranges

    unit_in : Ranges 900 U
    unit_in = wider 92 900 U (omega arith) U_ranges

    -- ---- the strips
    ending : ending_of (area_strips Outline points L) ≡ ended
    ending = ended_so (ending_of (area_strips Outline points L)) r.verdict
        (g.answers.demand_3 figures.accepted).reported.ending_reported g.given

    intervals : r.intervals ≡ intervals_in (area_strips Outline points L)
    intervals = figures.intervals ∙ intervals_same 4 (area_strips Outline points L)

    abbrev strip_count : List Float → ℕ
    strip_count = Built.strip_count points g.f64s check sized few b d L_ranges reach.each_x scaled L above limits.0

    count_is : (l : List Float) → 2 ≤ length l → strip_count l + 1 ≡ length l
    count_is [] s = absurd (let z : ⊥ = omega (arith, s) in z)
    count_is (h ∷ []) s = absurd (let z : ⊥ = omega (arith, s) in z)
    count_is (h ∷ k ∷ []) s = refl
    count_is (h ∷ k ∷ j ∷ l) s = let e = count_is (k ∷ j ∷ l) (omega arith) in omega (arith, e)

    strips_is : (l : List Float) → 2 ≤ length l → strips (area_three Outline points) L scale U unit_in l + 1 ≡ length l
    strips_is [] s = absurd (let z : ⊥ = omega (arith, s) in z)
    strips_is (h ∷ []) s = absurd (let z : ⊥ = omega (arith, s) in z)
    strips_is (h ∷ k ∷ []) s = refl
    strips_is (h ∷ k ∷ j ∷ l) s = let e = strips_is (k ∷ j ∷ l) (omega arith) in omega (arith, e)

    strips_counted : strips (area_three Outline points) L scale U unit_in heights ≡ r.intervals
    strips_counted = let e = strips_is heights (heights_some Outline points check) in let f = g.one_piece_each in omega (arith, e, f)

    intervals_counted : intervals_in (area_strips Outline points L) ≡ strip_count heights
    intervals_counted =
        let e = count_is heights (heights_some Outline points check) in
        let f = g.one_piece_each in
        let i = intervals in
        omega (arith, e, f, i)

    follows : Built.FollowsAll points g.f64s check sized few b d L_ranges reach.each_x scaled L above limits.0 heights
    follows = go heights refl
      where
        go : (l : List Float) → heights ≡ l → Built.FollowsAll points g.f64s check sized few b d L_ranges reach.each_x scaled L above
            limits.0 l
        go [] e = tt
        go (h ∷ l) e = Corners.follow_first points g.f64s check sized few h l e

    module _ (o : AllInOrder points heights) where
      built : Built.AllBuilt points g.f64s check sized few b d L_ranges reach.each_x scaled L above limits.0 unit_in heights o
      built = Built.all_built points g.f64s check sized few b d L_ranges reach.each_x scaled L above limits.0 unit_in heights o
          (breaks_rise Outline points sized)
          inside follows ending intervals_counted

      abbrev n : ℕ
      n = strips (area_three Outline points) L scale U unit_in heights

      abbrev total : Float
      total = value_from (bits 0) 0 (worked_of 3 (area_three Outline points) L scale heights)

      area_is : r.area_m2 ≡ total ⊗ scale ⊗ scale
      area_is =
          figures.area
          ∙ ap (λ (x : Float). x ⊗ scale ⊗ scale) (totals_same 3 7 (lit≤ tt) (area_three Outline points) L scale heights 0 (lit≤ tt))

      abbrev A : Number
      A = built.area

      abbrev s : Number
      s = value_of scale

      abbrev i : Number
      i = inverse_of (value_of scale)

      i_is : IsNumber i
      i_is = Built.inverse_is points g.f64s check sized few b d L_ranges reach.each_x scaled L above

      abbrev N0 : Number
      N0 = numbers (area_three Outline points) L scale U unit_in heights built.worths

      N0_is : IsNumber N0
      N0_is = numbers_is (area_three Outline points) L scale U unit_in heights built.worths

      scale_not_below : NotBelow s
      scale_not_below = subst NotBelow (sym (positive_value scale scaled.is_positive)) zero-le

      -- the scale cancels
      exact : (value_of (bits 0) plus N0) times s times s equals A
      unfolding of_bits
      exact =
          let X = A times (i times i) in
          let S_is : IsNumber s = Counts.value_is scale in
          let A_is = built.is in
          let list : List Number = A ∷ i ∷ s ∷ [] in
          let list_is : AllNumbers (A ∷ i ∷ s ∷ []) = (A_is, (i_is, (S_is, tt))) in
          let X_is : IsNumber X = evaluated_is (A ∷ i ∷ s ∷ []) list_is (given 0 mul (given 1 mul given 1)) in
          let e = (ratio 0 0 add given 0) mul given 1 mul given 1 in
          let f = (ratio 0 0 add given 0 mul (given 1 mul given 1)) mul given 2 mul given 2 in
          let h = (given 2 mul given 1) mul (given 2 mul given 1) mul given 0 in
          let one = number 1 0 1 in
          let si_is = Counts.times_is s i S_is i_is in
          trans (evaluated_is (A ∷ i ∷ s ∷ []) list_is f)
          (evaluated_equal (N0 ∷ s ∷ []) (X ∷ s ∷ []) (N0_is, (S_is, tt)) (X_is, (S_is, tt)) (built.same, (itself, tt)) e)
          (trans (evaluated_is (A ∷ i ∷ s ∷ []) list_is h) (equal_by (A ∷ i ∷ s ∷ []) list_is f h tt)
          (trans (evaluated_is (one ∷ A ∷ []) (pow_pos 0, (A_is, tt)) (given 0 mul given 0 mul given 1))
          (evaluated_equal ((s times i) ∷ A ∷ []) (one ∷ A ∷ []) (si_is, (A_is, tt)) (pow_pos 0, (A_is, tt))
          (times_inverse s scale_not_below, (itself, tt))
          (given 0 mul given 0 mul given 1))
          (equal_by (A ∷ []) (A_is, tt) (ratio 1 0 mul ratio 1 0 mul given 0) (given 0) tt)))

      few_strips : n ≤ 65
      few_strips = let e = strips_is heights (heights_some Outline points check) in let f = most_breaks Outline points in omega
          (arith, e, f)

      some_strips : 1 ≤ n
      some_strips = let e = strips_is heights (heights_some Outline points check) in let f = heights_some Outline points check in omega
          (arith, e, f)

      near : Near r.area_m2 A ((n * (n + 196)) roundoffs (U by size_of scale by size_of scale))
      near =
          subst (λ (x : Float). Near x A ((n * (n + 196)) roundoffs (U by size_of scale by size_of scale))) (sym area_is)
          (near_same (total ⊗ scale ⊗ scale) ((value_of (bits 0) plus N0) times s times s) A
          ((n * (n + 196)) roundoffs (U by size_of scale by size_of scale))
          (Counts.times_is ((value_of (bits 0) plus N0) times s) s (Counts.times_is (value_of (bits 0) plus N0) s
          (Counts.plus_is (value_of (bits 0)) N0 (Counts.value_is (bits 0)) N0_is)
          (Counts.value_is scale)) (Counts.value_is scale))
          (area_near (area_three Outline points) L scale U unit_in heights built.worths some_strips few_strips scaled.is_positive
          (wider 112 900 (U by size_of scale) (omega arith) U_once) (wider 132 900 (U by size_of scale by size_of scale) (omega arith)
          U_twice))
          exact.same)

      span_positive : T (positive span)
      span_positive = Corners.span_positive points g.f64s check sized few b d reach.each_x above

      apart : (c e : ℕ) → 0 < e → b * e ≤ c * d
          → Apart (product (pos (c * (n * (n + 196))) over (e * 2 ^ 53)) (fraction_of span)) (fraction_of r.area_m2)
          (area_between points heights o)
      apart c e E l =
          let K = n * (n + 196) in
          within_fraction (c * K * num span) (e * 2 ^ 53 * den span) (value_of r.area_m2) A
          (product (pos (c * K) over (e * 2 ^ 53)) (fraction_of span)) (fraction_of r.area_m2) (area_between points heights o)
          (mul-pos (mul-pos E (pow_pos 53)) (den_pos span)) (Counts.value_is r.area_m2) built.is
          (error_is span (c * K) (e * 2 ^ 53) span_positive) (value_fraction r.area_m2 near.finite) built.fraction
          (within_upto (K roundoffs (U by size_of scale by size_of scale)) ((c * K * num span) per (e * 2 ^ 53 * den span))
          (value_of r.area_m2) A
          (mul-pos U_twice.real (pow_pos 53))
          (fits K (num span) (den span) (num scale) (den scale) (2 ^ 53)
          (mul-le-mul_right (K * num span * den scale * den scale * num scale * num scale * 2 ^ 53 * den span) l)) near.within)
        where
          fits : (K N D A C P : ℕ) → b * e * (K * N * C * C * A * A * P * D) ≤ c * d * (K * N * C * C * A * A * P * D)
              → K * (b * N * C * C * A * A) * (e * P * D) ≤ c * K * N * (d * D * A * A * C * C * P)
          fits K N D A C P h = let x = simp plain at h in simp plain (omega (arith, x))

      pub counted : (c e : ℕ) → 0 < e → b * e ≤ c * d
          → Apart (product (pos (c * (r.intervals * (r.intervals + 196))) over (e * 2 ^ 53)) (fraction_of span))
          (fraction_of r.area_m2)
          (area_between points heights o)
      counted c e E l =
          subst (λ (n : ℕ). Apart (product (pos (c * (n * (n + 196))) over (e * 2 ^ 53)) (fraction_of span)) (fraction_of r.area_m2)
          (area_between points heights o)) strips_counted (apart c e E l)

  -- every x is at most 64
  sixty_four_lem : Reach 64 1 points
  sixty_four_lem = record { is_size = pow_pos 0; each_x = λ i l. (sized.0 i l).0.below }

pub outline_area : OutlineArea
outline_area points L entry r exit b d g reach o = go (leb b (64 * d)) (leb→le b (64 * d)) (nleb→lt b (64 * d))
  where
    go : (x : Bool) → (T x → b ≤ 64 * d) → (T (not x) → 64 * d < b)
        → Apart (product (pos (b * (r.intervals * (r.intervals + 196))) over (d * 2 ^ 53)) (fraction_of (span_of Outline points)))
        (fraction_of r.area_m2) (area_between points (break_heights Outline points) o)
    go true h k = counted points L entry r exit g b d reach (h tt) o b d reach.is_size (le_refl _)
    go false h k = counted points L entry r exit g 64 1 (sixty_four_lem points L entry r exit g) (omega arith) o b d reach.is_size
        (less_of (k tt))
      where
        less_of : 64 * d < b → 64 * d ≤ b * 1
        less_of l = omega arith
