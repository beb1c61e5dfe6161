-- The strips of an outline whose edges are in order, each of one piece: what each is worth, and the exact area that they add up to. Assumes
-- nothing.
use Rattle.std.specs.Prelude.{Ok}
use mathlib.Core.Path.{◌≡◌, refl, sym, ap, ◌∙◌, subst}
use mathlib.Core.Bool.{Bool, true, false, cond}
use mathlib.Core.List.{List, [], ◌∷◌}
use mathlib.Core.Logic.{◌⊎◌, inl, inr}
use Prim.Native.Nat.{ℕ, suc, ◌+◌, ◌*◌, ◌≤◌, ◌<◌}
use native.Mathlib.Nat.{le_refl}
use native.Mathlib.Omega.{arith}
use lib.Dec.{T, leb, lit≤}
use lib.ListN.{length}
use lib.Pow.{pow_pos}
use lib.IntN.{pos}
use lib.Ieee.{Float, binary64, fits, of_bits, lt, eq}
use lib.Ieee.Positive.{num, den, positive}
use Rattle.floats.specs.Operations.{◌⊕◌, ◌⊗◌, ◌⊘◌, bits, at}
use Rattle.floats.specs.Fractions.{Fraction, ◌over◌, ◌plus◌ as sum, ◌times◌ as product, value_of as fraction_of}
use Rattle.floats.proofs.Bools.{no, and_left}
use Rattle.floats.proofs.Order.{equal_not_below}
use Rattle.rounding.specs.Sizes.{AtMost}
use Rattle.rounding.proofs.Signs.{finite_no_nan}
use Rattle.sorting.specs.Sorted.{Rising, Each, below_all}
use Rattle.segments.specs.Segments.{next}
use Rattle.planforms.specs.declared.Planform.TheVariants.{Outline}
use Rattle.planforms.specs.Planforms.{x_at, height_at, pair_count, span_of}
use Rattle.planforms.proofs.Sized.{Sized}
use Rattle.outlines.specs.Outlines.{planform_check}
use Rattle.integrands.specs.Integrands.{scale_of, area_three}
use Rattle.integrands.proofs.Scales.{Scale}
use Rattle.quadrature.specs.Rule.{half_sum, half_width, weighted_to, kronrod_weight}
use Rattle.quadrature.specs.declared.Piece.{Piece}
use Rattle.tolerance.specs.Bounds.{total_of, sum_from}
use Rattle.halving.specs.Halving.{halving, Halved}
use Rattle.halving.specs.Scratch.{intervals_of}
use Rattle.std.specs.Prelude.{Ok, Err}
use Rattle.halving.specs.Endings.{Ending, accepted as ended}
use Rattle.halving.proofs.Outcomes.{kept}
use Rattle.halving.proofs.Reached.{Ends, at_once, later, ends_so}
use Rattle.strips.specs.Strips.{Worked, worked_of, strip_of, pieces_of, is_accepted, ending_of, ending_from, intervals_in}
use Rattle.rounding_error.proofs.Numbers.{Number, number, Size, ◌per◌, ◌plus◌, ◌less◌, ◌times◌, IsNumber, Ranges, zero_number, value_of}
use Rattle.rounding_error.proofs.Numbers.{size_of}
use Rattle.rounding_error.proofs.Counts as Counts
use Rattle.rounding_error.proofs.Fractions.{IsFraction, plus_fraction, times_fraction, value_fraction, whole_fraction}
use Rattle.rounding_error.proofs.Chains.{Valued, zero_valued}
use Rattle.rounding_error.proofs.Polynomials.{given, ratio, ◌add◌, ◌mul◌, ◌equals◌, trans, plus_equal, equal_by, evaluated_is, AllNumbers}
use Rattle.error_terms.proofs.Laws.{inverse_of, plus_law}
use Rattle.error_terms.proofs.Floors.{NotBelow}
use Rattle.accuracy.proofs.Limits.{ranges_to}
use Rattle.accuracy.proofs.WholePieces.{whole_piece, value_is}
use Rattle.outline_accuracy.specs.OutlineAreas.{InOrder, AllInOrder, edges_crossed, edge_at, strip_area, area_between}
use Rattle.outline_accuracy.specs.OutlineAreas.{◌less◌ as ◌without◌}
use Rattle.outline_accuracy.proofs.Heights.{ends_rise}
use Rattle.outline_accuracy.proofs.Samples.{StripSized, strip_given, v_not_below, v_ranges, line_is}
use Rattle.outline_accuracy.proofs.Lines.{height_of}
use Rattle.outline_accuracy.proofs.Samples as Lines
use Rattle.outline_accuracy.proofs.Chord.{inverse_real}
use Rattle.outline_accuracy.proofs.StripArea.{top_some}
use Rattle.outline_accuracy.proofs.Edges.{Corner}
use Rattle.outline_accuracy.proofs.OutlineStrip as Strip
use Rattle.outline_accuracy.proofs.StripSums.{Worth, Worths, numbers, numbers_is}
use Rattle.outline_accuracy.proofs.Corners as Corners
use Rattle.outline_accuracy.proofs.ExactFractions.{in_order, less_fraction, line_fraction, high_number}

module _ (points : List Float) (f64s : (i : ℕ) → T (fits binary64 (at points i))) (check : planform_check Outline points ≡ Ok tt)
    (sized : Sized Outline points) (few : leb (pair_count points) 64 ≡ true) (b d : ℕ) (L_ranges : Ranges 32 (b per d))
    (each_x : (i : ℕ) → i < pair_count points → AtMost b d (x_at points i)) (scaled : Scale (scale_of Outline points)) (limit : ℕ)
    (above : lt (bits 0) (span_of Outline points) ≡ true) where
  abbrev n : ℕ
  n = pair_count points

  abbrev span : Float
  span = span_of Outline points

  abbrev scale : Float
  scale = scale_of Outline points

  abbrev f : Float → List Float
  f = area_three Outline points

  abbrev pub U : Size
  U = (b * num span * den scale * den scale) per (d * den span * num scale * num scale)

  abbrev pub Inside : Float → Type 0
  Inside = Corners.Inside points f64s check sized few

  abbrev pub Follows : Float → List Float → Type 0
  Follows = Corners.Follows points f64s check sized few

  corner : (i : ℕ) → i < n → Corner b d span (x_at points i) (height_at points i)
  corner = Corners.corner points f64s check sized few b d each_x above

  abbrev pub inverse_scale : Number
  inverse_scale = inverse_of (value_of scale)

  pub inverse_is : IsNumber inverse_scale
  inverse_is = inverse_real scale scaled.is_positive

  span_positive : T (positive span)
  span_positive = Corners.span_positive points f64s check sized few b d each_x above

  pub span_ranges : Ranges 20 (size_of span)
  span_ranges =
      let l = Corners.span_length points f64s check sized few above in
      ranges_to 20 span 6 20 (omega arith) (omega arith) l.length.below l.above

  pub scale_ranges : Ranges 20 (size_of scale)
  scale_ranges = ranges_to 20 scale 7 20 (omega arith) (omega arith) scaled.below scaled.above

  -- ---- a strip
  module _ (unit_in : Ranges 900 U) (h k : Float) (o : InOrder points h k) (hi : Inside h) (ki : Inside k) (rising : lt h k ≡ true)
      (outside : (i : ℕ) → i < n → (lt h (height_at points i) ≡ false) ⊎ (lt (height_at points i) k ≡ false)) where
    height_fraction : IsFraction (value_of k less value_of h) (fraction_of k without fraction_of h)
    height_fraction = less_fraction (value_of k) (value_of h) (fraction_of k) (fraction_of h) (value_fraction k ki.0.finite)
        (value_fraction h hi.0.finite)

    g : StripSized h k span scale
    g =
        record {
          span_positive = span_positive;
          scale_positive = scaled.is_positive;
          span_ranges = span_ranges;
          scale_ranges = scale_ranges;
          lower_finite = hi.0.finite;
          upper_finite = ki.0.finite;
          lower_not_below = Corners.not_under_zero h hi.0.finite hi.1.0;
          upper_most = Corners.under_span span k span_positive (Corners.span_length points f64s check sized few above).length.below.finite
              ki.0.finite ki.1.1;
          high_enough = high_number span (value_of k less value_of h) (fraction_of k without fraction_of h) span_positive
              (Corners.span_length points f64s check sized few above).length.below.finite height_fraction o.high_enough;
        }

    abbrev Crossed : ℕ → Type 0
    Crossed i = Strip.Crossed points n h i

    both_crossed : Crossed o.left × Crossed o.right
    both_crossed = go o.two_edges
      where
        go : (edges_crossed points h ≡ o.right ∷ o.left ∷ []) ⊎ (edges_crossed points h ≡ o.left ∷ o.right ∷ []) → Crossed o.left ×
            Crossed o.right
        go (inl e) = let c = subst (Strip.Each Crossed) e (Strip.each_crossed points n h n (le_refl n)) in (c.1.0, c.0)
        go (inr e) = let c = subst (Strip.Each Crossed) e (Strip.each_crossed points n h n (le_refl n)) in (c.0, c.1.0)

    abbrev Edge : ℕ → Type 0
    Edge i = Strip.Edge points few b d L_ranges corner h k g rising outside i

    edge : (i : ℕ) → Crossed i → Edge i
    edge i c = Strip.edge_spans points few b d L_ranges corner h k g rising outside i c

    l : Edge o.left
    l = edge o.left both_crossed.0

    r : Edge o.right
    r = edge o.right both_crossed.1

    abbrev left_at : Number → Number
    left_at η = Strip.left_at points few b d L_ranges corner h k g rising outside o.left o.right l r o.two_edges η

    abbrev right_at : Number → Number
    right_at η = Strip.right_at points few b d L_ranges corner h k g rising outside o.left o.right l r o.two_edges η

    -- x on the two edges is the statement's
    on_edge : (i : ℕ) (w : Edge i) (η : Number) (y : Fraction) → IsFraction η y
        → IsFraction (Lines.line_of h k span scale g b d L_ranges (Strip.rises points few b d L_ranges corner h k g rising outside i)
        (x_at points i) (height_at points i)
        (x_at points (next n i)) (height_at points (next n i)) w η) (edge_at points i y)
    on_edge i w η y Y =
        let rises = Strip.rises points few b d L_ranges corner h k g rising outside i in
        line_fraction rises (x_at points i) (height_at points i) (x_at points (next n i)) (height_at points (next n i)) η y w.xp_finite
        w.yp_finite w.xq_finite
        w.yq_finite (v_not_below h k span scale g b d L_ranges rises (x_at points i) (height_at points i) (x_at points (next n i))
        (height_at points (next n i)) w)
        (top_some (height_of rises (value_of (height_at points i)) (value_of (height_at points (next n i))))
        (v_ranges h k span scale g b d L_ranges rises (x_at points i) (height_at points i) (x_at points (next n i))
        (height_at points (next n i)) w)) Y

    left_fraction : (η : Number) (y : Fraction) → IsFraction η y → IsFraction (left_at η) (edge_at points o.left y)
    left_fraction η y Y = on_edge o.left l η y Y

    right_fraction : (η : Number) (y : Fraction) → IsFraction η y → IsFraction (right_at η) (edge_at points o.right y)
    right_fraction η y Y = on_edge o.right r η y Y

    at_lower : NotBelow (right_at (value_of h) less left_at (value_of h))
    at_lower =
        let Y = value_fraction h hi.0.finite in
        in_order (left_at (value_of h)) (right_at (value_of h)) (edge_at points o.left (fraction_of h))
        (edge_at points o.right (fraction_of h))
        (left_fraction (value_of h) (fraction_of h) Y) (right_fraction (value_of h) (fraction_of h) Y) o.at_lower_end

    at_upper : NotBelow (right_at (value_of k) less left_at (value_of k))
    at_upper =
        let Y = value_fraction k ki.0.finite in
        in_order (left_at (value_of k)) (right_at (value_of k)) (edge_at points o.left (fraction_of k))
        (edge_at points o.right (fraction_of k))
        (left_fraction (value_of k) (fraction_of k) Y) (right_fraction (value_of k) (fraction_of k) Y) o.at_upper_end

    -- the exact area
    abbrev mid : Number
    mid = number 1 0 2 times (value_of h plus value_of k)

    abbrev exact_area : Number
    exact_area = (value_of k less value_of h) times (right_at mid less left_at mid)

    area_fraction : IsFraction exact_area (strip_area points h k o)
    area_fraction =
        let H = value_fraction h hi.0.finite in
        let K = value_fraction k ki.0.finite in
        let y = product (pos 1 over 2) (sum (fraction_of h) (fraction_of k)) in
        let Y : IsFraction mid y =
        times_fraction (number 1 0 2) (value_of h plus value_of k) (pos 1 over 2) (sum (fraction_of h) (fraction_of k)) (whole_fraction 1 2)
        (plus_fraction (value_of h) (value_of k) (fraction_of h) (fraction_of k) H K) in
        times_fraction (value_of k less value_of h) (right_at mid less left_at mid) (fraction_of k without fraction_of h)
        (edge_at points o.right y without edge_at points o.left y) height_fraction
        (less_fraction (right_at mid) (left_at mid) (edge_at points o.right y) (edge_at points o.left y) (right_fraction mid y Y)
        (left_fraction mid y Y))

    mid_is : IsNumber mid
    mid_is = Counts.times_is (number 1 0 2) (value_of h plus value_of k) (omega arith)
        (Counts.plus_is (value_of h) (value_of k) (Counts.value_is h) (Counts.value_is k))

    δ-is : IsNumber (value_of k less value_of h)
    δ-is = Counts.less_is (value_of k) (value_of h) (Counts.value_is k) (Counts.value_is h)

    width_is : IsNumber (right_at mid less left_at mid)
    width_is = Counts.less_is (right_at mid) (left_at mid) (line o.right r) (line o.left l)
      where
        line : (i : ℕ) (w : Edge i)
            → IsNumber (Lines.line_of h k span scale g b d L_ranges (Strip.rises points few b d L_ranges corner h k g rising outside i)
            (x_at points i) (height_at points i)
            (x_at points (next n i)) (height_at points (next n i)) w mid)
        line i w = Lines.line_is h k span scale g b d L_ranges (Strip.rises points few b d L_ranges corner h k g rising outside i)
            (x_at points i) (height_at points i)
            (x_at points (next n i)) (height_at points (next n i)) w mid mid_is

    area_is : IsNumber exact_area
    area_is = Counts.times_is (value_of k less value_of h) (right_at mid less left_at mid) δ-is width_is

    abbrev exact_strip : Number
    exact_strip = Strip.exact_strip points few b d L_ranges corner h k g rising outside o.left o.right l r o.two_edges

    -- half the height times twice the width, over the scale squared
    strip_equal : value_of (bits 0) plus exact_strip equals exact_area times (inverse_scale times inverse_scale)
    unfolding of_bits
    strip_equal =
        equal_by ((value_of k less value_of h) ∷ (right_at mid less left_at mid) ∷ inverse_scale ∷ []) (δ-is, (width_is, (inverse_is, tt)))
        (ratio 0 0 add (ratio 1 1 mul given 0 mul given 2) mul ((given 1 mul given 2) mul ratio 2 0))
        ((given 0 mul given 1) mul (given 2 mul given 2)) tt

    -- ---- of one piece
    abbrev low : Float
    low = h ⊘ scale

    abbrev high : Float
    high = k ⊘ scale

    ends_differ : eq low high ≡ false
    ends_differ = go (eq low high) refl
      where
        go : (c : Bool) → eq low high ≡ c → eq low high ≡ false
        go false e = e
        go true e = no (sym (ends_rise h k span scale (strip_given h k span scale g) g.high_enough) ∙ equal_not_below low high e)

    total_is : length (pieces_of (strip_of 3 f limit low high)) ≡ 1
        → total_of (pieces_of (strip_of 3 f limit low high)) 0
        ≡ bits 0 ⊕ half_width low high ⊗ weighted_to 7 kronrod_weight (λ t. at (f t) 0)
        (half_sum low high) (half_width low high)
    unfolding total_of
    total_is one =
        ap (λ (p : List Piece). sum_from (bits 0) (λ p. at p.value 0) p) (whole_piece 3 f low high limit ends_differ one)
        ∙ ap (λ (x : Float). bits 0 ⊕ x) (value_is 3 f low high 0 (lit≤ tt))

    strip_worth : length (pieces_of (strip_of 3 f limit low high)) ≡ 1 → Valued (total_of (pieces_of (strip_of 3 f limit low high)) 0)
        (value_of (bits 0) plus exact_strip) 181 2 U
    strip_worth one =
        subst (λ (x : Float). Valued x (value_of (bits 0) plus exact_strip) 181 2 U) (sym (total_is one))
        (plus_law U unit_in (omega arith) (omega arith) (omega arith) (zero_valued U)
        (record {
          near = Strip.strip_value points few b d L_ranges corner h k g rising outside o.left o.right l r o.two_edges at_lower
              at_upper;
          size = Strip.strip_size points few b d L_ranges corner h k g rising outside o.left o.right l r o.two_edges at_lower
              at_upper;
          is = strip_is;
        }))
      where
        strip_is : IsNumber exact_strip
        strip_is =
            evaluated_is ((value_of k less value_of h) ∷ (right_at mid less left_at mid) ∷ inverse_scale ∷ [])
            (δ-is, (width_is, (inverse_is, tt)))
            ((ratio 1 1 mul given 0 mul given 2) mul ((given 1 mul given 2) mul ratio 2 0))

    -- what a strip is worth, and its exact area
    record Built : Type 0 where
      worth : Worth f limit scale U unit_in h k
      area : Number
      is : IsNumber area
      same : worth.worth equals area times (inverse_scale times inverse_scale)
      fraction : IsFraction area (strip_area points h k o)

    built : is_accepted (halving 3 f low high limit).ending ≡ true → intervals_of low high (halving 3 f low high limit) ≡ 1 → Built
    built accepted one =
        record {
          worth = record {
            worth = value_of (bits 0) plus exact_strip;
            accepted = accepted;
            valued = strip_worth
                (sym (counted ends_differ) ∙ one);
          };
          area = exact_area;
          is = area_is;
          same = strip_equal;
          fraction = area_fraction;
        }
      where
        counted : eq low high ≡ false → intervals_of low high (halving 3 f low high limit) ≡ length (halving 3 f low high limit).pieces
        counted e = ap (λ (c : Bool). cond c 1 (length (halving 3 f low high limit).pieces)) e

  -- ---- how many intervals were counted
  module _ (some : 1 ≤ limit) where
    one_interval : {x : Halved} (lo hi : Float) → Ends 3 f lo hi limit x → 1 ≤ intervals_of lo hi x
    one_interval lo hi (at_once e) = rw e (le_refl 1)
    one_interval lo hi (later e o) = rw e (kept 3 f o).some

    abbrev pub worked_strips : List Float → List Worked
    worked_strips heights = worked_of 3 f limit scale heights

    abbrev accepts : Float → Float → Bool
    accepts h k = is_accepted (halving 3 f (h ⊘ scale) (k ⊘ scale) limit).ending

    worked_is : (h k : Float) (l : List Float)
        → worked_strips (h ∷ k ∷ l) ≡ strip_of 3 f limit (h ⊘ scale) (k ⊘ scale) ∷ cond (accepts h k) (worked_strips (k ∷ l)) []
    unfolding worked_of
    worked_is h k l = refl

    is_accepted_lem : (e : Ending) → is_accepted e ≡ true → e ≡ ended
    is_accepted_lem (Ok done) t = refl
    is_accepted_lem (Err c) t = no (sym t)

    -- the run went on to its last strip
    goes_on : (h k : Float) (l : List Float) → ending_of (worked_strips (h ∷ k ∷ l)) ≡ ended → accepts h k ≡ true
    goes_on h k l e = go (accepts h k) refl (ap ending_of (sym (worked_is h k l)) ∙ e)
      where
        go : (b : Bool) → accepts h k ≡ b
            → ending_of (strip_of 3 f limit (h ⊘ scale) (k ⊘ scale) ∷ cond b (worked_strips (k ∷ l)) []) ≡ ended
            → accepts h k ≡ true
        go true t e = t
        go false t e = no (sym (ap is_accepted e) ∙ t)

    worked_on_lem : (h k : Float) (l : List Float) → accepts h k ≡ true
        → worked_strips (h ∷ k ∷ l) ≡ strip_of 3 f limit (h ⊘ scale) (k ⊘ scale)
        ∷ worked_strips (k ∷ l)
    worked_on_lem h k l t =
        worked_is h k l ∙ ap (λ (b : Bool). strip_of 3 f limit (h ⊘ scale) (k ⊘ scale) ∷ cond b (worked_strips (k ∷ l)) []) t

    ends_on : (h k : Float) (l : List Float) → ending_of (worked_strips (h ∷ k ∷ l)) ≡ ended → ending_of (worked_strips (k ∷ l)) ≡ ended
    ends_on h k l e =
        let t = goes_on h k l e in
        ap (λ (x : Ending). ending_from x (worked_strips (k ∷ l)))
        (sym (is_accepted_lem (halving 3 f (h ⊘ scale) (k ⊘ scale) limit).ending t))
        ∙ ap ending_of (sym (worked_on_lem h k l t)) ∙ e

    abbrev count : Float → Float → ℕ
    count h k = intervals_of (h ⊘ scale) (k ⊘ scale) (halving 3 f (h ⊘ scale) (k ⊘ scale) limit)

    counted_on : (h k : Float) (l : List Float) → accepts h k ≡ true → intervals_in (worked_strips (h ∷ k ∷ l)) ≡ count h k + intervals_in
        (worked_strips (k ∷ l))
    counted_on h k l t = ap intervals_in (worked_on_lem h k l t)

    count_some : (h k : Float) → 1 ≤ count h k
    count_some h k = one_interval (h ⊘ scale) (k ⊘ scale) (ends_so 3 f (h ⊘ scale) (k ⊘ scale) limit some)

    abbrev pub strip_count : List Float → ℕ
    strip_count [] = 0
    strip_count (h ∷ []) = 0
    strip_count (h ∷ k ∷ l) = suc (strip_count (k ∷ l))

    least : (heights : List Float) → ending_of (worked_strips heights) ≡ ended → strip_count heights ≤ intervals_in (worked_strips heights)
    unfolding worked_of
    least [] e = le_refl 0
    least (h ∷ []) e = le_refl 0
    least (h ∷ k ∷ l) e =
        let r = least (k ∷ l) (ends_on h k l e) in
        let c = counted_on h k l (goes_on h k l e) in
        let s = count_some h k in
        subst (λ (m : ℕ). suc (strip_count (k ∷ l)) ≤ m) (sym c)
        (both (count h k) (intervals_in (worked_strips (k ∷ l))) (strip_count (k ∷ l))
        s r)
      where
        both : (a b c : ℕ) → 1 ≤ a → c ≤ b → suc c ≤ a + b
        both a b c s r = omega (arith, s, r)

    one_each : (h k : Float) (l : List Float) → ending_of (worked_strips (h ∷ k ∷ l)) ≡ ended
        → intervals_in (worked_strips (h ∷ k ∷ l)) ≡ suc
        (strip_count (k ∷ l))
        → (count h k ≡ 1) × (intervals_in (worked_strips (k ∷ l)) ≡ strip_count (k ∷ l))
    one_each h k l e i =
        both (count h k) (intervals_in (worked_strips (k ∷ l))) (strip_count (k ∷ l)) (count_some h k) (least (k ∷ l) (ends_on h k l e))
        (sym (counted_on h k l (goes_on h k l e)) ∙ i)
      where
        both : (a b c : ℕ) → 1 ≤ a → c ≤ b → a + b ≡ suc c → (a ≡ 1) × (b ≡ c)
        both a b c s r i = (omega (arith, s, r, i), omega (arith, s, r, i))

    -- ---- all strips
    abbrev pub FollowsAll : List Float → Type 0
    FollowsAll [] = Unit {0}
    FollowsAll (h ∷ l) = Follows h l

    module _ (unit_in : Ranges 900 U) where
      pub record AllBuilt (heights : List Float) (o : AllInOrder points heights) : Type 0 where
        pub worths : Worths f limit scale U unit_in heights
        pub area : Number
        pub is : IsNumber area
        pub same : numbers f limit scale U unit_in heights worths equals area times (inverse_scale times inverse_scale)
        pub fraction : IsFraction area (area_between points heights o)

      none : zero_number equals zero_number times (inverse_scale times inverse_scale)
      none = equal_by (inverse_scale ∷ []) (inverse_is, tt) (ratio 0 0) (ratio 0 0 mul (given 0 mul given 0)) tt

      both_same : (w R x y : Number) → IsNumber w → IsNumber R → IsNumber x → IsNumber y → w equals x times
          (inverse_scale times inverse_scale)
          → R equals y times (inverse_scale times inverse_scale) → w plus R equals (x plus y) times (inverse_scale times inverse_scale)
      both_same w R x y W RR X Y s t =
          let j = given 2 mul given 2 in
          let list_is : AllNumbers (x ∷ y ∷ inverse_scale ∷ []) = (X, (Y, (inverse_is, tt))) in
          trans (evaluated_is (x ∷ y ∷ inverse_scale ∷ []) list_is (given 0 mul j add given 1 mul j)) (plus_equal s t)
          (equal_by (x ∷ y ∷ inverse_scale ∷ []) list_is (given 0 mul j add given 1 mul j) ((given 0 add given 1) mul j) tt)

      pub all_built : (heights : List Float) (o : AllInOrder points heights) → Rising heights → Each Inside heights → FollowsAll heights
          → ending_of (worked_strips heights) ≡ ended → intervals_in (worked_strips heights) ≡ strip_count heights → AllBuilt heights o
      unfolding Rising below_all
      all_built [] o r i w e c = record { worths = tt; area = zero_number; is = pow_pos 0; same = none; fraction = whole_fraction 0 1 }
      all_built (h ∷ []) o r i w e c =
          record { worths = tt; area = zero_number; is = pow_pos 0; same = none; fraction = whole_fraction 0 1 }
      all_built (h ∷ k ∷ l) o r i w e c =
          let rising = and_left (lt h k) (below_all h l) r.0 in
          let ones = one_each h k l e c in
          let B = built unit_in h k o.0 i.0 i.1.0 rising (Corners.none_between points f64s check sized few h k l r.1.0 w)
          (goes_on h k l e) ones.0 in
          let R = all_built (k ∷ l) o.1 r.1 i.1
          (Corners.follow_next points f64s check sized few h k l (finite_no_nan h i.0.0.finite) rising w) (ends_on h k l e) ones.1
          in
          record {
            worths = (B.worth, R.worths);
            area = B.area plus R.area;
            is = Counts.plus_is B.area R.area B.is R.is;
            same = both_same B.worth.worth (numbers f limit scale U unit_in (k ∷ l) R.worths) B.area R.area
                B.worth.valued.is
                (numbers_is f limit scale U unit_in (k ∷ l) R.worths) B.is R.is B.same R.same;
            fraction = plus_fraction B.area R.area (strip_area points h k o.0) (area_between points (k ∷ l) o.1) B.fraction
                R.fraction;
          }
