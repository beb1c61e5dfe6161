-- A sample of a strip that two edges span: its chord's width over the scale is near the exact one, which is linear in the sample's height.
-- Assumes nothing.
use mathlib.Core.Path.{◌≡◌, subst}
use mathlib.Core.Bool.{Bool, true, false}
use mathlib.Core.List.{List, [], ◌∷◌}
use Prim.Native.Nat.{ℕ, ◌+◌, ◌-◌, ◌*◌, ◌^◌, ◌≤◌}
use native.Mathlib.Nat.{le_trans, mul-pos, mul-le-mul_left, le_of_mul-le-mul_right}
use native.Mathlib.Omega.{arith}
use lib.Dec.{T}
use lib.Pow.{pow_mono}
use lib.Ieee.{Float}
use lib.Ieee.Scale.{finite}
use lib.Ieee.Positive.{num, den, den_pos, positive}
use Rattle.floats.specs.Operations.{◌⊖◌}
use Rattle.chords.specs.Chords.{crossing_at}
use Rattle.rounding.proofs.Monotone.{positive_num}
use Rattle.rounding_error.proofs.Numbers.{Number, number, Size, ◌per◌, ◌of◌, ◌upto◌, ◌less◌, ◌roundoffs◌, IsNumber, IsSize, Under, Near}
use Rattle.rounding_error.proofs.Numbers.{Ranges, value_of, size_of}
use Rattle.rounding_error.proofs.Counts as Counts
use Rattle.rounding_error.proofs.Polynomials.{given, ◌add◌, ◌take◌, ◌mul◌, equal_by, evaluated_is, AllNumbers}
use Rattle.error_terms.proofs.Monomials.{top, bottom, AllRanges}
use Rattle.error_terms.proofs.Laws.{Reaches}
use Rattle.error_terms.proofs.Terms.{unit_by}
use Rattle.error_terms.proofs.Floors.{NotBelow, not_below, plus_not_below, under_both}
use Rattle.outline_accuracy.proofs.Signs.{equal_not_below, extent_of, extent_upto}
use Rattle.outline_accuracy.proofs.Crossings.{EdgeGiven, Slope, rise_inverse, slope_is, slope_inverse, line_at, crossing_near}
use Rattle.outline_accuracy.proofs.Heights.{StripGiven, sample_metres, exact_metres, metres_near, metres_is, above_lower, below_upper}
use Rattle.accuracy.proofs.Samples.{IsSample, Sample}
use Rattle.outline_accuracy.proofs.Lines.{chain_not_below, lower_end, upper_end, height_of, line_under, slope_of, extent_most}
use Rattle.outline_accuracy.proofs.Lines.{ranges_between}

-- a strip from h to k, both in the span and at least 1/4096 of it apart
pub record StripSized (h k span scale : Float) : Type 0 where
  pub span_positive : T (positive span)
  pub scale_positive : T (positive scale)
  pub span_ranges : Ranges 20 (size_of span)
  pub scale_ranges : Ranges 20 (size_of scale)
  pub lower_finite : T (finite h)
  pub upper_finite : T (finite k)
  pub lower_not_below : NotBelow (value_of h)
  pub upper_most : NotBelow (number (num span) 0 (den span) less value_of k)
  pub high_enough : Reaches 1 (num span) (den span * 4096) (value_of k less value_of h)

wider : (S : Size) → Ranges 20 S → Ranges 32 S
wider (a per c) s =
    record {
      real = s.real;
      least = le_trans s.least (mul-le-mul_left a (pow_mono {i = 20} {j = 32} (omega arith)));
      most = le_trans s.most (mul-le-mul_left c (pow_mono {i = 20} {j = 32} (omega arith)));
    }

pub under_span : (span : Float) (v : Number) → IsNumber v → NotBelow v → NotBelow (number (num span) 0 (den span) less v) → Under
    (1 of size_of span) v
under_span span v I l m =
    under_both (num span) (den span) v m (plus_not_below (number (num span) 0 (den span)) v (omega arith) l)

module _ (h k span scale : Float) (g : StripSized h k span scale) where
  abbrev Λ : Number
  Λ = number (num span) 0 (den span)

  abbrev pub δ : Number
  δ = value_of k less value_of h

  pub δ-is : IsNumber δ
  δ-is = Counts.less_is (value_of k) (value_of h) (Counts.value_is k) (Counts.value_is h)

  pub δ-not-below : NotBelow δ
  δ-not-below = not_below 1 (num span) (den span * 4096) δ (mul-pos (den_pos span) (omega arith)) g.high_enough

  pub upper_not_below : NotBelow (value_of k)
  upper_not_below =
      let l = value_of k ∷ value_of h ∷ [] in
      let i : AllNumbers l = (Counts.value_is k, (Counts.value_is h, tt)) in
      equal_not_below (evaluated_is l i (given 0 take given 1 add given 1)) (equal_by l i (given 0 take given 1 add given 1) (given 0) tt)
      (plus_not_below δ (value_of h) δ-not-below g.lower_not_below)

  lower_most : NotBelow (Λ less value_of h)
  lower_most = chain_not_below Λ (value_of k) (value_of h) (den_pos span) (Counts.value_is k) (Counts.value_is h) g.upper_most δ-not-below

  pub strip_given : StripGiven h k span scale
  strip_given =
      record {
        span_positive = g.span_positive;
        scale_positive = g.scale_positive;
        span_ranges = wider (size_of span) g.span_ranges;
        scale_ranges = wider (size_of scale) g.scale_ranges;
        lower_finite = g.lower_finite;
        upper_finite = g.upper_finite;
        lower_under = under_span span (value_of h) (Counts.value_is h) g.lower_not_below lower_most;
        upper_under = under_span span (value_of k) (Counts.value_is k) upper_not_below g.upper_most;
      }

  -- the strip's height as a size
  least_of : (v : Number) → IsNumber v → Reaches 1 (num span) (den span * 4096) v → bottom (extent_of v) ≤ top (extent_of v) * 2 ^ 32
  least_of (number p n d) I r =
      let m = not_below 1 (num span) (den span * 4096) (number p n d) (mul-pos (den_pos span) (omega arith)) r in
      le_of_mul-le-mul_right (go (p - n) (num span) (den span) (subst
      (λ (p : ℕ). 1 * num span * d + n * (den span * 4096) ≤ p * (den span * 4096)) (split m) r)
      g.span_ranges.least) (positive_num span g.span_positive)
    where
      split : n ≤ p → p ≡ n + (p - n)
      split h = omega arith

      go : (x N D : ℕ) → 1 * N * d + n * (D * 4096) ≤ (n + x) * (D * 4096) → D ≤ N * 2 ^ 20 → d * N ≤ x * 2 ^ 32 * N
      go x N D u w = let y = mul-le-mul_left x w in omega (arith, u, y)

  pub δ-most : extent_of δ upto size_of span
  δ-most = extent_most δ (num span) (den span) δ-not-below
      (equal_not_below (evaluated_is (Λ ∷ value_of k ∷ value_of h ∷ []) (den_pos span, (Counts.value_is k, (Counts.value_is h, tt)))
      (given 0 take given 1 add given 2))
      (equal_by (Λ ∷ value_of k ∷ value_of h ∷ []) (den_pos span, (Counts.value_is k, (Counts.value_is h, tt)))
      (given 0 take given 1 add given 2)
      (given 0 take (given 1 take given 2)) tt)
      (plus_not_below (Λ less value_of k) (value_of h) g.upper_most g.lower_not_below))

  pub δ-ranges : Ranges 32 (extent_of δ)
  δ-ranges = sized δ δ-is (least_of δ δ-is g.high_enough) δ-most
    where
      sized : (v : Number) → IsNumber v → bottom (extent_of v) ≤ top (extent_of v) * 2 ^ 32 → extent_of v upto size_of span → Ranges 32
          (extent_of v)
      sized (number p n d) I l m =
          record {
            real = I;
            least = l;
            most = le_of_mul-le-mul_right (go (p - n) (num span) (den span) m g.span_ranges.most)
                (den_pos span);
          }
        where
          go : (x N D : ℕ) → x * D ≤ N * d → N ≤ D * 2 ^ 20 → x * D ≤ d * 2 ^ 32 * D
          go x N D u w = let y = mul-le-mul_left d w in omega (arith, u, y)

-- an edge from (xp, yp) to (xq, yq) that spans the strip, its x at most b / d
pub record Spanning (h k span : Float) (b d : ℕ) (rises : Bool) (xp yp xq yq : Float) : Type 0 where
  pub xp_finite : T (finite xp)
  pub yp_finite : T (finite yp)
  pub xq_finite : T (finite xq)
  pub yq_finite : T (finite yq)
  pub xp_under : Under (1 of (b per d)) (value_of xp)
  pub xq_under : Under (1 of (b per d)) (value_of xq)
  pub yp_under : Under (1 of size_of span) (value_of yp)
  pub from_lower : NotBelow (value_of h less lower_end rises (value_of yp) (value_of yq))
  pub to_upper : NotBelow (upper_end rises (value_of yp) (value_of yq) less value_of k)
  pub from_zero : NotBelow (lower_end rises (value_of yp) (value_of yq))
  pub to_span : NotBelow (number (num span) 0 (den span) less upper_end rises (value_of yp) (value_of yq))

upto_parts : (X Y : Size) → X upto Y → (top X per bottom X) upto (top Y per bottom Y)
upto_parts (a per c) (b per d) h = h

upto_most : (X : Size) (b d : ℕ) → X upto (b per d) → (top X per bottom X) upto (b per d)
upto_most (a per c) b d h = h

ranges_parts : (X : Size) → Ranges 32 X → Ranges 32 (top X per bottom X)
ranges_parts (a per c) r = r

extent_size : (v : Number) → IsNumber v → IsSize (extent_of v)
extent_size (number p n d) I = I

module _ (h k span scale : Float) (g : StripSized h k span scale) (b d : ℕ) (L_ranges : Ranges 32 (b per d)) where
  abbrev e : ℕ
  e = top (extent_of (δ h k span scale g))

  abbrev f : ℕ
  f = bottom (extent_of (δ h k span scale g))

  abbrev metres : Sample → Float
  metres s = sample_metres h k span scale (strip_given h k span scale g) s

  abbrev exactly : Sample → Number
  exactly s = exact_metres h k span scale (strip_given h k span scale g) s

  abbrev bases : List Size
  bases = (b per d) ∷ size_of span ∷ size_of scale ∷ (e per f) ∷ []

  pub ranges : AllRanges 32 bases
  ranges = (
    L_ranges,
    (
      wider (size_of span) g.span_ranges,
      (wider (size_of scale) g.scale_ranges, (ranges_parts (extent_of (δ h k span scale g)) (δ-ranges h k span scale g), tt)),
    ),
  )

  abbrev steep : Size
  steep = unit_by bases (1 ∷ 1 ∷ []) (0 ∷ 0 ∷ 0 ∷ 1 ∷ [])

  module _ (rises : Bool) (xp yp xq yq : Float) (w : Spanning h k span b d rises xp yp xq yq) where
    abbrev v : Number
    v = height_of rises (value_of yp) (value_of yq)

    abbrev lo : Number
    lo = lower_end rises (value_of yp) (value_of yq)

    abbrev hi : Number
    hi = upper_end rises (value_of yp) (value_of yq)

    end_is : (r : Bool) → IsNumber (lower_end r (value_of yp) (value_of yq)) × IsNumber (upper_end r (value_of yp) (value_of yq))
    end_is true = (Counts.value_is yp, Counts.value_is yq)
    end_is false = (Counts.value_is yq, Counts.value_is yp)

    v_is : IsNumber v
    v_is = Counts.less_is hi lo (end_is rises).1 (end_is rises).0

    -- at least the strip's height
    v_more : NotBelow (v less δ h k span scale g)
    v_more =
        let l = hi ∷ lo ∷ value_of k ∷ value_of h ∷ [] in
        let i : AllNumbers l = ((end_is rises).1, ((end_is rises).0, (Counts.value_is k, (Counts.value_is h, tt)))) in
        let x = (given 0 take given 2) add (given 3 take given 1) in
        equal_not_below (evaluated_is l i x) (equal_by l i x ((given 0 take given 1) take (given 2 take given 3)) tt)
        (plus_not_below (hi less value_of k) (value_of h less lo) w.to_upper w.from_lower)

    pub v_not_below : NotBelow v
    v_not_below =
        let D = δ h k span scale g in
        let D_is = δ-is h k span scale g in
        let x = (given 0 take given 1) add given 1 in
        equal_not_below (evaluated_is (v ∷ D ∷ []) (v_is, (D_is, tt)) x) (equal_by (v ∷ D ∷ []) (v_is, (D_is, tt)) x (given 0) tt)
        (plus_not_below (v less D) D v_more (δ-not-below h k span scale g))

    v_least : extent_of (δ h k span scale g) upto extent_of v
    v_least = extent_upto (δ h k span scale g) v (δ-is h k span scale g) (δ-not-below h k span scale g) v_more

    v_most : extent_of v upto size_of span
    v_most =
        let Λ = number (num span) 0 (den span) in
        let l = Λ ∷ hi ∷ lo ∷ [] in
        let i : AllNumbers l = (den_pos span, ((end_is rises).1, ((end_is rises).0, tt))) in
        let x = (given 0 take given 1) add given 2 in
        extent_most v (num span) (den span) v_not_below
        (equal_not_below (evaluated_is l i x) (equal_by l i x (given 0 take (given 1 take given 2)) tt)
        (plus_not_below (Λ less hi) lo w.to_span w.from_zero))

    pub v_ranges : Ranges 32 (extent_of v)
    v_ranges = ranges_between (extent_of (δ h k span scale g)) (extent_of v) (size_of span) (δ-ranges h k span scale g)
        (wider (size_of span) g.span_ranges) (extent_size v v_is) v_least v_most

    slope : Slope rises (yq ⊖ yp) v (top (extent_of v)) (bottom (extent_of v))
    slope = slope_of rises yp yq w.yp_finite w.yq_finite v_not_below v_ranges

    abbrev pub inv : Number
    inv = rise_inverse rises v

    pub inv_is : IsNumber inv
    inv_is = slope_is rises (yq ⊖ yp) v (top (extent_of v)) (bottom (extent_of v)) slope

    -- the exact x at the height η
    abbrev pub line_of : Number → Number
    line_of η = line_at (value_of xp) (value_of yp) (value_of xq) inv η

    module _ (s : Sample) (i : IsSample s) where
      strip : StripGiven h k span scale
      strip = strip_given h k span scale g

      above : NotBelow (exactly s less value_of h)
      above = above_lower h k span scale strip (δ-not-below h k span scale g) s i

      below : NotBelow (value_of k less exactly s)
      below = below_upper h k span scale strip (δ-not-below h k span scale g) s i

      height_under : Under (1 of size_of span) (exactly s)
      height_under =
          let η = exactly s in
          let I = metres_is h k span scale strip s in
          let x = (given 0 take given 1) add given 1 in
          let n : AllNumbers (η ∷ value_of h ∷ []) = (I, (Counts.value_is h, tt)) in
          under_span span η I
          (equal_not_below (evaluated_is (η ∷ value_of h ∷ []) n x) (equal_by (η ∷ value_of h ∷ []) n x (given 0) tt)
          (plus_not_below (η less value_of h) (value_of h) above g.lower_not_below))
          (chain_not_below (number (num span) 0 (den span)) (value_of k) η (den_pos span) (Counts.value_is k) I g.upper_most below)

      edge_given : EdgeGiven (metres s) xp yp xq span (exactly s) 11 b d
      edge_given =
          record {
            span_positive = g.span_positive;
            span_ranges = wider (size_of span) g.span_ranges;
            ranges = L_ranges;
            xp_finite = w.xp_finite;
            xq_finite = w.xq_finite;
            yp_finite = w.yp_finite;
            xp_under = w.xp_under;
            xq_under = w.xq_under;
            yp_under = w.yp_under;
            height_is = metres_is h k span scale strip s;
            height_near = metres_near h k span scale strip s i;
            height_under = height_under;
          }

      pub sample_crossing : Near (crossing_at (metres s) xp yp xq yq) (line_of (exactly s)) ((48 * 2 ^ 30) roundoffs steep)
      sample_crossing =
          crossing_near (metres s) xp yp xq yq span (exactly s) b d e f (size_of scale) edge_given v (top (extent_of v))
          (bottom (extent_of v))
          (upto_parts (extent_of (δ h k span scale g)) (extent_of v) v_least) (upto_most (extent_of v) (num span) (den span) v_most) rises
          slope

      pub sample_under : Under (1 of (b per d)) (line_of (exactly s))
      sample_under =
          let η = exactly s in
          let I = metres_is h k span scale strip s in
          line_under (value_of yp) (value_of yq) η (Counts.value_is yp) (Counts.value_is yq) I rises (value_of xp) (value_of xq) b d
          L_ranges.real
          (Counts.value_is xp) (Counts.value_is xq) w.xp_under w.xq_under
          (slope_inverse rises (yq ⊖ yp) v (top (extent_of v)) (bottom (extent_of v)) slope) inv_is v_not_below
          (chain_not_below η (value_of h) lo I (Counts.value_is h) (end_is rises).0 above w.from_lower)
          (chain_not_below hi (value_of k) η (end_is rises).1 (Counts.value_is k) I w.to_upper below)

    pub line_is : (η : Number) → IsNumber η → IsNumber (line_of η)
    line_is η I =
        evaluated_is (value_of xp ∷ value_of yp ∷ value_of xq ∷ inv ∷ η ∷ [])
        (Counts.value_is xp, (Counts.value_is yp, (Counts.value_is xq, (inv_is, (I, tt)))))
        (given 0 add (given 4 take given 1) mul (given 2 take given 0) mul given 3)
