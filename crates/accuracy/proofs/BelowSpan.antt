-- Every sample of a strip that ends with at most 40 pieces lies below the span: a cut leaves half the width but for rounding, so that each
-- piece is at least 8,186 roundoffs of the strip wide, and no sample is nearer to a piece's end than a 256th of that. Assumes nothing.
use mathlib.Core.Path.{◌≡◌, refl, sym, subst}
use mathlib.Core.List.{List, [], ◌∷◌, ◌++◌}
use Prim.Native.Nat.{ℕ, zero, suc, ◌+◌, ◌-◌, ◌*◌, ◌^◌, ◌≤◌}
use native.Mathlib.Nat.{le_refl, mul-pos, mul-le-mul_right, le_of_mul-le-mul_right, one-mul, mul-one, zero-mul, mul-zero, zero-add}
use native.Mathlib.Nat.{add-zero}
use native.Mathlib.Omega.{arith}
use lib.Dec.{T, lit≤}
use lib.Pow.{pow_pos}
use lib.ListN.{length, set}
use lib.Ieee.{Float, lt, le, round, of_bits}
use lib.Ieee.Bits.{is_true}
use lib.Ieee.Scale.{finite}
use lib.Ieee.Positive.{num, den, den_pos, positive, positive-finite}
use Rattle.floats.specs.Operations.{◌⊗◌, ◌⊘◌, bits}
use Rattle.floats.proofs.Bools.{of_true}
use Rattle.floats.proofs.Order.{le_through}
use Rattle.rounding.proofs.Halves.{left_half, right_half_lem}
use Rattle.rounding.proofs.Monotone.{positive_num}
use Rattle.rounding.proofs.Signs.{finite_no_nan}
use Rattle.gauss_kronrod.specs.Tables.{nodes}
use Rattle.sorting.specs.Sorted.{Each}
use Rattle.planforms.specs.declared.Planform.TheVariants.{Trapezoid, Ellipse}
use Rattle.planforms.specs.Planforms.{span_of}
use Rattle.limits.proofs.Lengths.{PositiveLength}
use Rattle.integrands.proofs.Scales.{Scale, scale_sized}
use Rattle.fins.proofs.Sized.{planform_sized}
use Rattle.quadrature.specs.Rule.{half_sum, half_width, minus_side, plus_side, heights_to, heights_of, piece_of}
use Rattle.quadrature.specs.declared.Piece.{Piece}
use Rattle.quadrature.proofs.Heights.{each_append}
use Rattle.tolerance.specs.Bounds.{worst_place, worst_piece, middle_of}
use Rattle.tolerance.proofs.Places.{worst_below}
use Rattle.tolerance.proofs.AllPieces.{All, all_at, all_set, all_append}
use Rattle.halving.specs.Halving.{halving}
use Rattle.halving.proofs.Outcomes.{outcome, kept, one_more, halves_of_worst, left_heights, right_heights}
use Rattle.rounding_error.proofs.Numbers.{Number, number, Size, ◌per◌, ◌plus◌, ◌less◌, ◌times◌, ◌roundoffs◌, IsNumber, Over, Under, Near}
use Rattle.rounding_error.proofs.Numbers.{value_of, size_of, ◌of◌}
use Rattle.rounding_error.proofs.Distances.{sorted, within_upto}
use Rattle.rounding_error.proofs.Counts as Counts
use Rattle.rounding_error.proofs.Polynomials.{given, ratio, ◌add◌, ◌take◌, ◌mul◌, equal_by, evaluated_is, AllNumbers, times_is}
use Rattle.error_terms.proofs.Laws.{Reaches}
use Rattle.error_terms.proofs.Monomials.{place, AllRanges}
use Rattle.error_terms.proofs.Terms.{shape, Given, entry, Term, var, tight, ◌mul◌ as ◌mul_t◌, AllKnown, numbers_of, unit_by, value}
use Rattle.error_terms.proofs.Sound.{unit_real}
use Rattle.error_terms.proofs.Judged.{judge, nearer, near_within}
use Rattle.error_terms.proofs.Entries.{full, sized_entry, own_entry, near_given}
use Rattle.error_terms.proofs.Floors.{NotBelow, positive_from, plus_not_below, ordered_not_below, under_both, factor_reaches, equal_reaches}
use Rattle.error_terms.proofs.Floors.{reaches_none, plus_reaches}
use Rattle.error_terms.proofs.Orders.{near_lt}
use Rattle.error_terms.proofs.Shares.{weaker, positive_value}
use Rattle.one_piece.proofs.Answers.{lower_none}
use Rattle.accuracy.specs.Tips.{TrapezoidBelow, EllipseBelow}
use Rattle.accuracy.proofs.Checked.{from_zero}
use Rattle.accuracy.proofs.Limits.{ranges_to, most_under}
use Rattle.accuracy.proofs.Samples.{Sample, centre, minus_side_lem, plus_side_lem, IsSample, height_of, at_samples, at_samples_lem, node_e, node_of}
use Rattle.accuracy.proofs.Samples.{node_same, between_e, between, between_is, height_t, height_value, below_reaches}
use Rattle.accuracy.proofs.StripEnds.{InStrip, in_strip, upper_positive, upper_near, upper_ranges, ends_differ, product_unit}

ruleset plain = (sorted, one-mul, mul-one, zero-mul, mul-zero, zero-add, add-zero)

-- ---- numbers
-- y is at most z + k, and y − x at least j + k: so z − x is at least j
from_more : (j k N c : ℕ) (x y z : Number) → IsNumber y → Over (k roundoffs (N per c)) y z → Reaches (j + k) N (c * 2 ^ 53) (y less x)
    → Reaches j N (c * 2 ^ 53) (z less x)
from_more j k N c (number p n d) (number q m e) (number r l f) E u h = le_of_mul-le-mul_right (go (c * 2 ^ 53) (mul-le-mul_right d u)
    (mul-le-mul_right f h)) E
  where
    go : (C : ℕ) → (q * f + l * e) * C * d ≤ ((r * e + m * f) * C + k * N * (e * f)) * d
        → ((j + k) * N * (e * d) + (m * d + p * e) * C) * f ≤ (q * d + n * e) * C * f
        → (j * N * (f * d) + (l * d + p * f) * C) * e ≤ (r * d + n * f) * C * e
    go C s t = let x = simp sorted at s in let y = simp sorted at t in simp sorted (omega (arith, x, y))

-- z is at most y + k, and x − y at least j + k: so x − z is at least j
from_less : (j k N c : ℕ) (x y z : Number) → IsNumber y → Over (k roundoffs (N per c)) z y → Reaches (j + k) N (c * 2 ^ 53) (x less y)
    → Reaches j N (c * 2 ^ 53) (x less z)
from_less j k N c (number p n d) (number q m e) (number r l f) E u h = le_of_mul-le-mul_right (go (c * 2 ^ 53) (mul-le-mul_right d u)
    (mul-le-mul_right f h)) E
  where
    go : (C : ℕ) → (r * e + m * f) * C * d ≤ ((q * f + l * e) * C + k * N * (f * e)) * d
        → ((j + k) * N * (d * e) + (n * e + q * d) * C) * f ≤ (p * e + m * d) * C * f
        → (j * N * (d * f) + (n * f + r * d) * C) * e ≤ (p * f + l * d) * C * e
    go C s t = let x = simp sorted at s in let y = simp sorted at t in simp sorted (omega (arith, x, y))

-- times S / E
scaled_reaches : (j N c S E : ℕ) (v : Number) → Reaches j N (c * 2 ^ 53) v → Reaches j (N * S) (c * E * 2 ^ 53) (v times number S 0 E)
scaled_reaches j N c S E (number p m e) h = go (2 ^ 53) (mul-le-mul_right (S * E) h)
  where
    go : (Q : ℕ) → (j * N * e + m * (c * Q)) * (S * E) ≤ p * (c * Q) * (S * E)
        → j * (N * S) * (e * E) + (p * 0 + m * S) * (c * E * Q) ≤ (p * S + m * 0) * (c * E * Q)
    go Q u = let x = simp plain at u in simp plain (omega (arith, x))

-- how many roundoffs of the strip a piece is wide at least, if so many more cuts may come: half of it, less three, after each
abbrev width_left : ℕ → ℕ
width_left zero = 8186
width_left (suc k) = 2 * width_left k + 6

le_trans : (x y z : Float) → T (finite z) → T (le x y) → T (le y z) → T (le x z)
le_trans x y z i h k = of_true _ (le_through x y z (finite_no_nan z i) (is_true _ h) (is_true _ k))

module _ (span scale : Float) (s : PositiveLength span) (q : Scale scale) where
  abbrev Top : Float
  Top = span ⊘ scale

  abbrev N : ℕ
  N = num Top

  abbrev D : ℕ
  D = den Top

  top_positive : T (positive Top)
  top_positive = upper_positive span scale s q

  abbrev Lies : Float → Type 0
  Lies h = T (lt (h ⊗ scale) span)

  abbrev bases : List Size
  bases = size_of Top ∷ size_of scale ∷ []

  ranges : AllRanges 32 bases
  ranges = (
    upper_ranges span scale s q,
    (ranges_to 32 scale 7 20 (omega arith) (omega arith) q.below q.above, tt),
  )

  -- a piece that is so many roundoffs of the strip wide
  pub record Wide (j : ℕ) (a b : Float) : Type 0 where
    pub in_strip : InStrip Top a b
    pub wide : Reaches j N (D * 2 ^ 53) (value_of b less value_of a)

  module _ (a b : Float) (i : InStrip Top a b) where
    a_finite : T (finite a)
    a_finite = i.in_order.lower_below.finite

    b_finite : T (finite b)
    b_finite = i.in_order.upper_below.finite

    above_a : T (le (bits 0) b)
    above_a = le_trans (bits 0) a b b_finite i.from_zero i.in_order.ordered

    under : (x : Float) → T (finite x) → T (le (bits 0) x) → T (le x Top) → Under (1 of size_of Top) (value_of x)
    under x f z l =
        under_both N D (value_of x)
        (subst (λ (t : Number). NotBelow (t less value_of x)) (positive_value Top top_positive)
        (ordered_not_below x Top f (positive-finite Top top_positive) l))
        (subst (λ (t : Number). NotBelow (t plus value_of x)) (positive_value Top top_positive)
        (plus_not_below (value_of Top) (value_of x) (positive_from Top top_positive) (from_zero x f z)))

    abbrev entries : List Given
    entries =
        entry a (value_of a) (shape 0 full (place 0) []) 0 ∷
        entry b (value_of b) (shape 0 full (place 0) []) 0 ∷
        entry scale (value_of scale) (shape 0 full (place 1) []) full ∷
        []

    known : AllKnown bases entries
    known =
        let to_top = le_trans a b Top (positive-finite Top top_positive) i.in_order.ordered i.to_upper in (
          (sized_entry bases 0 N D refl a (den_pos Top) a_finite (under a a_finite i.from_zero to_top), tt),
          (
            (sized_entry bases 0 N D refl b (den_pos Top) b_finite (under b b_finite above_a i.to_upper), tt),
            (own_entry bases 1 scale refl q.is_positive, tt),
          ),
        )

    abbrev A : Number
    A = value_of a

    abbrev B : Number
    B = value_of b

    A_is : IsNumber A
    A_is = Counts.value_is a

    B_is : IsNumber B
    B_is = Counts.value_is b

    -- ---- its samples
    abbrev metres_t : Sample → Term
    metres_t t = tight (height_t (var 0) (var 1) t mul_t var 2)

    tested : T (at_samples (λ t. nearer entries (between_e (given 0) (given 2) (node_e t) mul given 4) (11 * 2 ^ 30) (1 ∷ 1 ∷ []) []
        (judge entries (metres_t t))) 7)
    unfolding round of_bits nodes
    tested = tt

    abbrev exact : Sample → Number
    exact t = between A B (node_of t)

    sample_near : (t : Sample) → IsSample t → Near (height_of t (half_sum a b) (half_width a b) ⊗ scale) (exact t times value_of scale)
        (11 roundoffs ((N * num scale) per (D * den scale)))
    sample_near t m =
        let U = (11 * 2 ^ 30) roundoffs unit_by bases (1 ∷ 1 ∷ []) [] in
        let n = near_within bases ranges entries known (metres_t t) (between_e (given 0) (given 2) (node_e t) mul given 4) (11 * 2 ^ 30)
        (1 ∷ 1 ∷ []) []
        (at_samples_lem (λ t. nearer entries (between_e (given 0) (given 2) (node_e t) mul given 4) (11 * 2 ^ 30) (1 ∷ 1 ∷ []) []
        (judge entries (metres_t t))) tested t m) in
        let o = subst (λ (x : Float). Near (x ⊗ scale) (exact t times value_of scale) U) (height_value entries (var 0) (var 1) t)
        (subst (λ (f : Number). Near (value entries (metres_t t)) ((number 1 0 2 times (A plus B) plus f times
        (number 1 0 2 times (B less A))) times value_of scale) U)
        (node_same (numbers_of entries) (λ i. number 0 0 1) t) n) in
        record {
          finite = o.finite;
          within = within_upto U (11 roundoffs ((N * num scale) per (D * den scale)))
              (value_of (height_of t (half_sum a b) (half_width a b) ⊗ scale)) (exact t times value_of scale)
              (mul-pos (unit_real bases ranges (1 ∷ 1 ∷ []) []) (pow_pos 53))
              (product_unit 11 N D (num scale) (den scale)) o.within;
        }

    module _ (wide : Reaches 8186 N (D * 2 ^ 53) (B less A)) where
      sample_lies : (t : Sample) → IsSample t → Lies (height_of t (half_sum a b) (half_width a b))
      sample_lies t m =
          let e = exact t in
          let S = value_of scale in
          let upper = value_of Top in
          let ie = between_is A B A_is B_is t in
          let i_s = Counts.value_is scale in
          let i_v = Counts.value_is Top in
          let below = below_reaches A B A_is B_is t m 31 8186 N (D * 2 ^ 53) (lit≤ tt) wide in
          let rest = reaches_none N (D * 2 ^ 53) (upper less B)
          (ordered_not_below b Top b_finite (positive-finite Top top_positive) i.to_upper) in
          let l = A ∷ B ∷ e ∷ upper ∷ S ∷ [] in
          let il : AllNumbers l = (A_is, (B_is, (ie, (i_v, (i_s, tt))))) in
          let under_top = equal_reaches 31 N (D * 2 ^ 53) (evaluated_is l il ((given 3 take given 1) add (given 1 take given 2)))
          (equal_by l il ((given 3 take given 1) add (given 1 take given 2)) (given 3 take given 2) tt)
          (plus_reaches 0 31 N (D * 2 ^ 53) (upper less B) (B less e) rest below) in
          let times_scale = subst (λ (x : Number). Reaches 31 (N * num scale) (D * den scale * 2 ^ 53) ((upper less e) times x))
          (sym (positive_value scale q.is_positive)) (scaled_reaches 31 N D (num scale) (den scale) (upper less e) under_top) in
          of_true _ (near_lt (height_of t (half_sum a b) (half_width a b) ⊗ scale) span (e times S) (upper times S) 11 3 (N * num scale)
          (D * den scale) (mul-pos (positive_num Top top_positive) (positive_num scale q.is_positive))
          (mul-pos (den_pos Top) (den_pos scale)) (times_is e S ie i_s) (times_is upper S i_v i_s) (sample_near t m)
          (upper_near span scale s q)
          (weaker 31 15 (N * num scale) (D * den scale * 2 ^ 53) ((upper times S) less (e times S)) (lit≤ tt)
          (equal_reaches 31 (N * num scale) (D * den scale * 2 ^ 53) (evaluated_is l il ((given 3 take given 2) mul given 4))
          (equal_by l il ((given 3 take given 2) mul given 4) (given 3 mul given 4 take given 2 mul given 4) tt) times_scale)))

      heights_lie : (n : ℕ) → n ≤ 7 → Each Lies (heights_to n (half_sum a b) (half_width a b))
      unfolding heights_to
      heights_lie zero l = (sample_lies centre tt, tt)
      heights_lie (suc k) l =
          each_append Lies (heights_to k (half_sum a b) (half_width a b))
          (minus_side (half_sum a b) (half_width a b) k ∷ plus_side (half_sum a b) (half_width a b) k ∷ []) (heights_lie k (less_of l))
          (sample_lies (minus_side_lem k) l, (sample_lies (plus_side_lem k) l, tt))
        where
          less_of : suc k ≤ 7 → k ≤ 7
          less_of h = omega arith

      pub piece_lies : Each Lies (heights_of a b)
      piece_lies = heights_lie 7 (lit≤ tt)

    -- ---- its halves
    abbrev M : Number
    M = value_of (half_sum a b)

    abbrev middle : Number
    middle = number 1 0 2 times (A plus B)

    middle_near : Near (half_sum a b) middle (3 roundoffs size_of Top)
    unfolding round of_bits
    middle_near = near_given bases 0 N D refl (half_sum a b) middle 3 (den_pos Top)
        (near_within bases ranges entries known (height_t (var 0) (var 1) centre) (ratio 1 1 mul (given 0 add given 2)) (3 * 2 ^ 30)
        (place 0) [] tt)

    middle_is : IsNumber middle
    middle_is = evaluated_is (A ∷ B ∷ []) (A_is, (B_is, tt)) (ratio 1 1 mul (given 0 add given 1))

    module _ (j : ℕ) (wide : Reaches (2 * j + 6) N (D * 2 ^ 53) (B less A)) where
      half_wide : Reaches (j + 3) N (D * 2 ^ 53) (number 1 0 2 times (B less A))
      half_wide = factor_reaches 1 0 2 (2 * j + 6) (j + 3) N (D * 2 ^ 53) (B less A) (lit≤ tt) (omega arith) wide

      half_is : IsNumber (number 1 0 2 times (B less A))
      half_is = evaluated_is (A ∷ B ∷ []) (A_is, (B_is, tt)) (ratio 1 1 mul (given 1 take given 0))

      pub left_wide : Wide j a (half_sum a b)
      left_wide = record {
        in_strip = record {
          in_order = left_half 26 (omega arith) a b i.in_order;
          from_zero = i.from_zero;
          to_upper = le_trans (half_sum a b) b Top (positive-finite Top top_positive)
              (right_half_lem 26 (omega arith) a b i.in_order).ordered i.to_upper;
        };
        wide = from_more j 3 N D A middle M middle_is middle_near.within.above
            (equal_reaches (j + 3) N (D * 2 ^ 53) half_is
            (equal_by (A ∷ B ∷ []) (A_is, (B_is, tt)) (ratio 1 1 mul (given 1 take given 0))
            (ratio 1 1 mul (given 0 add given 1) take given 0) tt) half_wide);
      }

      pub right_wide : Wide j (half_sum a b) b
      right_wide = record {
        in_strip = record {
          in_order = right_half_lem 26 (omega arith) a b i.in_order;
          from_zero = le_trans (bits 0) a (half_sum a b) (left_half 26 (omega arith) a b i.in_order).upper_below.finite
              i.from_zero (left_half 26 (omega arith) a b i.in_order).ordered;
          to_upper = i.to_upper;
        };
        wide = from_less j 3 N D B middle M middle_is middle_near.within.below
            (equal_reaches (j + 3) N (D * 2 ^ 53) half_is
            (equal_by (A ∷ B ∷ []) (A_is, (B_is, tt)) (ratio 1 1 mul (given 1 take given 0))
            (given 1 take ratio 1 1 mul (given 0 add given 1)) tt) half_wide);
      }

  -- ---- the halving
  least : (k : ℕ) → 8186 ≤ width_left k
  least zero = le_refl _
  least (suc k) = let l = least k in omega (arith, l)

  wide_lies : (k : ℕ) (a b : Float) → Wide (width_left k) a b → Each Lies (heights_of a b)
  wide_lies k a b h = piece_lies a b h.in_strip
      (weaker (width_left k) 8186 N (D * 2 ^ 53) (value_of b less value_of a) (least k) h.wide)

  module _ (w : ℕ) (f : Float → List Float) where
    abbrev Piece' : ℕ → Piece → Type 0
    Piece' k p = Wide (width_left k) p.start p.end

    made : (k : ℕ) (a b : Float) → Wide (width_left k) a b → Piece' k (piece_of w f a b)
    unfolding piece_of
    made k a b h = h

    no_wider : (k : ℕ) (l : List Piece) → All (Piece' (suc k)) l → All (Piece' k) l
    no_wider k [] a = tt
    no_wider k (p ∷ l) a = (
      record {
        in_strip = a.0.in_strip;
        wide = weaker (2 * width_left k + 6) (width_left k) N (D * 2 ^ 53) (value_of p.end less value_of p.start) (omega arith)
            a.0.wide;
      },
      no_wider k l a.1,
    )

    -- what a halving keeps, of pieces of which at most k more may come
    abbrev Holds : List Piece → List Float → Type 0
    Holds pieces heights = (1 ≤ length pieces) × ((k : ℕ) → length pieces + k ≡ 40 → All (Piece' k) pieces × Each Lies heights)

    keeps : (pieces : List Piece) (heights : List Float) → Holds pieces heights
        → Holds (halves_of_worst w f pieces) ((heights ++ left_heights w f pieces) ++ right_heights w f pieces)
    keeps pieces heights (some, hold) = (
      omega (arith, one_more w f pieces),
      λ k few.
          let p = worst_piece w pieces in
          let m = middle_of p in
          let before = hold (suc k) (omega (arith, one_more w f pieces, few)) in
          let i = all_at (Piece' (suc k)) pieces (worst_place w pieces) (worst_below w pieces some) before.0 in
          let left = left_wide p.start p.end i.in_strip (width_left k) i.wide in
          let right = right_wide p.start p.end i.in_strip (width_left k) i.wide in (
            all_append (Piece' k) (set pieces (worst_place w pieces) (piece_of w f p.start m)) (piece_of w f m p.end ∷ [])
                (all_set (Piece' k) pieces (worst_place w pieces) (piece_of w f p.start m) (no_wider k pieces before.0)
                (made k p.start m left)) (made k m p.end right, tt),
            each_append Lies (heights ++ left_heights w f pieces) (right_heights w f pieces)
                (each_append Lies heights (left_heights w f pieces) before.1 (wide_lies k p.start m left))
                (wide_lies k m p.end right),
          ),
    )

    -- the whole strip
    abbrev low : Float
    low = bits 0 ⊘ scale

    whole_wide : Reaches (2 ^ 53) N (D * 2 ^ 53) (value_of Top less value_of low)
    whole_wide = subst (λ (t : Number). Reaches (2 ^ 53) N (D * 2 ^ 53) (t less value_of low)) (sym (positive_value Top top_positive))
        (go N D (value_of low) (most_under low 0 1 (lower_none scale q.is_positive)))
      where
        go : (N D : ℕ) (v : Number) → Under (1 of (0 per 1)) v → Reaches (2 ^ 53) N (D * 2 ^ 53) (number N 0 D less v)
        go N D (number p n d) u = last (2 ^ 53) (mul-le-mul_right (D * D) (first u.below))
          where
            first : (p * 1 + 0 * d) * 1 ≤ (0 * d + n * 1) * 1 + 1 * 0 * (d * 1) → p ≤ n
            first h = omega arith

            last : (Q : ℕ) → p * (D * D) ≤ n * (D * D) → Q * N * (D * d) + (0 * d + p * D) * (D * Q) ≤ (N * d + n * D) * (D * Q)
            last Q h = let x = simp plain at (mul-le-mul_right Q h) in simp plain (omega (arith, x))

    halving_lies : (limit : ℕ) → length (halving w f low Top limit).pieces ≤ 40 → Each Lies (halving w f low Top limit).heights
    unfolding halving
    halving_lies limit few =
        let whole : Wide (width_left 39) low Top = record {
          in_strip = in_strip span scale s q;
          wide = weaker (2 ^ 53) (width_left 39) N (D * 2 ^ 53) (value_of Top less value_of low) (lit≤ tt) whole_wide;
        } in
        let first : Holds (piece_of w f low Top ∷ []) (heights_of low Top) = (
          le_refl 1,
          λ k e. subst (λ (k : ℕ). All (Piece' k) (piece_of w f low Top ∷ []) × Each Lies (heights_of low Top)) (sym (other e))
              ((made 39 low Top whole, tt), wide_lies 39 low Top whole),
        ) in
        let all = outcome w f (1 + (limit - 1)) Holds (λ pieces heights k l m. keeps pieces heights k) (limit - 1)
        (piece_of w f low Top ∷ []) (heights_of low Top) first refl in
        let c = rw (ends_differ span scale s q) at few in
        rw (ends_differ span scale s q) ((kept w f all).1 _ (to_forty c)).1
      where
        other : {k : ℕ} → 1 + k ≡ 40 → k ≡ 39
        other e = omega arith

        to_forty : {n : ℕ} → n ≤ 40 → n + (40 - n) ≡ 40
        to_forty h = omega arith

pub trapezoid_below : TrapezoidBelow
unfolding span_of
trapezoid_below root tip span sweep points f h w g limit =
    let s = planform_sized (Trapezoid root tip span sweep) points f h in
    halving_lies span _ s.1.1.0 (scale_sized (Trapezoid root tip span sweep) points s) w g limit

pub ellipse_below : EllipseBelow
unfolding span_of
ellipse_below root span points f h w g limit =
    let s = planform_sized (Ellipse root span) points f h in
    halving_lies span _ s.1 (scale_sized (Ellipse root span) points s) w g limit
