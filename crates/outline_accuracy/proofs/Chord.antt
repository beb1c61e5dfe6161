-- The chord between two edges that span a strip, at a sample: the two crossings in order, and its width over the scale. Assumes nothing.
use Rattle.accuracy.proofs.ToFractions.{first_power}
use mathlib.Core.Path.{◌≡◌, refl, ap, ◌∙◌}
use mathlib.Core.Bool.{Bool, true, false, cond, ◌&&◌}
use mathlib.Core.List.{List, [], ◌∷◌}
use Prim.Native.Nat.{ℕ, ◌+◌, ◌*◌, ◌^◌, ◌≤◌}
use native.Mathlib.Nat.{mul-pos, mul-le-mul_right, one-mul, mul-one, zero-mul, mul-zero, zero-add, add-zero, pow-zero}
use native.Mathlib.Omega.{arith}
use lib.Dec.{T}
use lib.Pow.{pow_pos}
use lib.Ieee.{Float, nan, inf, fin, up, down, lt}
use lib.Ieee.Positive.{num, den, den_pos, positive}
use Rattle.floats.specs.Operations.{◌⊕◌, ◌⊖◌, ◌⊘◌, bits}
use Rattle.floats.proofs.Order.{lt_asym}
use Rattle.rounding.proofs.Monotone.{positive_num}
use Rattle.sorting.specs.Sorted as Sorted
use Rattle.chords.specs.Chords.{crossing_at}
use Rattle.rounding_error.proofs.Numbers.{Number, Size, ◌per◌, ◌of◌, ◌upto◌, ◌plus◌, ◌less◌, ◌times◌, ◌roundoffs◌, IsNumber, IsSize, Under}
use Rattle.rounding_error.proofs.Numbers.{Near, Ranges, zero_number, value_of, size_of}
use Rattle.rounding_error.proofs.Distances.{sorted, within_upto}
use Rattle.rounding_error.proofs.Counts as Counts
use Rattle.rounding_error.proofs.Chains.{equalled}
use Rattle.rounding_error.proofs.Polynomials.{Expression, given, ratio, ◌add◌, ◌take◌, ◌mul◌, ◌equals◌, evaluate, among, equal_by}
use Rattle.rounding_error.proofs.Polynomials.{evaluated_is, AllNumbers}
use Rattle.error_terms.proofs.Monomials.{top, bottom, place, AllRanges}
use Rattle.error_terms.proofs.Laws.{inverse_of, inverse_is, Reaches}
use Rattle.error_terms.proofs.Terms.{shape, Given, entry, Term, var, nought, ◌add◌ as ◌add_t◌, ◌take◌ as ◌take_t◌, ◌over◌, Known, AllKnown}
use Rattle.error_terms.proofs.Terms.{unit_by}
use Rattle.error_terms.proofs.Sound.{unit_real}
use Rattle.error_terms.proofs.Judged.{near_within}
use Rattle.error_terms.proofs.Entries.{full, own_entry}
use Rattle.error_terms.proofs.Floors.{NotBelow, times_not_below, plus_not_below, unordered_not_below}
use Rattle.error_terms.proofs.Stages.{target_known}
use Rattle.outline_accuracy.proofs.Signs.{equal_not_below, extent_of, exchanged}
use Rattle.outline_accuracy.proofs.Heights.{sample_metres, exact_metres, metres_is}
use Rattle.accuracy.proofs.Samples.{shares_not_below, upper_share, lower_share, between_e, node_is, node_of, IsSample, centre, Sample}
use Rattle.outline_accuracy.proofs.Samples.{StripSized, Spanning, δ, δ-most, strip_given, ranges, inv, inv_is, line_of, line_is}
use Rattle.outline_accuracy.proofs.Samples.{sample_crossing, sample_under}

ruleset plain = (sorted, one-mul, mul-one, zero-mul, mul-zero, zero-add, add-zero)

-- ---- two f64s, in whichever order they come, sorted
pub record Pair (l : List Float) (A B : Number) (e : Size) : Type 0 where
  pub left : Float
  pub right : Float
  pub is : Sorted.sorted l ≡ left ∷ right ∷ []
  pub left_near : Near left A e
  pub right_near : Near right B e

sorted_two : (x y : Float) → Sorted.sorted (x ∷ y ∷ []) ≡ cond (lt x y && true) (x ∷ y ∷ []) (y ∷ x ∷ [])
unfolding Sorted.sorted Sorted.insert Sorted.below_all
sorted_two x y = refl

pub sorted_pair : (x y : Float) (A B : Number) (e : Size) → IsSize e → IsNumber A → IsNumber B → NotBelow (B less A) → Near x A e → Near y
    B e
    → Pair (x ∷ y ∷ []) A B e × Pair (y ∷ x ∷ []) A B e
sorted_pair x y A B e C a b o h k = (go (lt x y) refl, og (lt y x) refl)
  where
    go : (t : Bool) → lt x y ≡ t → Pair (x ∷ y ∷ []) A B e
    go true t = record {
      left = x;
      right = y;
      is = sorted_two x y ∙ ap (λ (b : Bool). cond (b && true) (x ∷ y ∷ []) (y ∷ x ∷ [])) t;
      left_near = h;
      right_near = k;
    }
    go false t =
        let n = exchanged e x y A B C a b o (unordered_not_below y x k.finite h.finite t) h k in
        record {
          left = y;
          right = x;
          is = sorted_two x y ∙ ap (λ (b : Bool). cond (b && true) (x ∷ y ∷ []) (y ∷ x ∷ [])) t;
          left_near = n.0;
          right_near = n.1;
        }

    og : (t : Bool) → lt y x ≡ t → Pair (y ∷ x ∷ []) A B e
    og false t = record {
      left = x;
      right = y;
      is = sorted_two y x ∙ ap (λ (b : Bool). cond (b && true) (y ∷ x ∷ []) (x ∷ y ∷ [])) t;
      left_near = h;
      right_near = k;
    }
    og true t =
        let n = exchanged e x y A B C a b o (unordered_not_below y x k.finite h.finite (lt_asym y x t)) h k in
        record {
          left = y;
          right = x;
          is = sorted_two y x ∙ ap (λ (b : Bool). cond (b && true) (y ∷ x ∷ []) (x ∷ y ∷ [])) t;
          left_near = n.0;
          right_near = n.1;
        }

-- ---- widths, linear in the height: the variables are the left edge's x_p, y_p, x_q and inverse, the right one's, the strip's ends, the
-- sample's place between them, and 1 over the scale
abbrev pub line_e : ℕ → Expression → Expression
line_e n η = given n add (η take given (n + 1)) mul (given (n + 2) take given n) mul given (n + 3)

abbrev pub width_e : Expression → Expression
width_e η = line_e 4 η take line_e 0 η

abbrev pub sample_e : Expression
sample_e = width_e (between_e (given 8) (given 9) (given 10)) mul given 11

abbrev pub middle_e : Expression
middle_e = width_e (ratio 1 1 mul (given 8 add given 9)) mul given 11

abbrev pub slant_e : Expression
slant_e = ratio 1 1 mul (width_e (given 9) take width_e (given 8)) mul given 11

steep_upto : (b d n m s t e f : ℕ) → e * m ≤ n * f
    → 1 of (b per d) upto full of unit_by ((b per d) ∷ (n per m) ∷ (s per t) ∷ (e per f) ∷ []) (1 ∷ 1 ∷ []) (0 ∷ 0 ∷ 0 ∷ 1 ∷ [])
steep_upto b d n m s t e f h =
    rw (
      first_power b,
      first_power n,
      first_power d,
      first_power m,
      first_power e,
      first_power f,
      pow-zero b,
      pow-zero n,
      pow-zero d,
      pow-zero m,
      pow-zero s,
      pow-zero t,
    )
    (go (2 ^ 30) (mul-le-mul_right (b * d * 2 ^ 30) h))
  where
    go : (P : ℕ) → e * m * (b * d * P) ≤ n * f * (b * d * P)
        → 1 * b * (d * (m * 1) * (1 * (1 * (1 * (e * 1)))) * P) ≤ P * (b * (n * 1) * (1 * (1 * (1 * (f * 1))))) * d
    go P u = let x = simp plain at u in simp plain (omega (arith, x))

upto_size : (X Y : Size) → X upto Y → top X * bottom Y ≤ top Y * bottom X
upto_size (a per c) (b per d) h = h

pub inverse_real : (y : Float) → T (positive y) → IsNumber (inverse_of (value_of y))
inverse_real y p = inverse_is (value_of y) (num y) (den y) 1 (positive_num y p) (den_pos y) (omega arith) (Counts.value_is y) (own y p)
  where
    own : (y : Float) → T (positive y) → Reaches 1 (num y) (den y) (value_of y)
    own nan p = absurd p
    own (inf s) p = absurd p
    own (fin true m e) p = absurd p
    own (fin false m e) p = go (m * up e) (down e)
      where
        go : (N D : ℕ) → 1 * N * D + 0 * D ≤ N * D
        go N D = omega arith

abbrev width_t : Term
width_t = nought (1 ∷ 1 ∷ []) (0 ∷ 0 ∷ 1 ∷ 1 ∷ []) add_t (var 1 over 2 take_t var 0 over 2)

-- what a chord from a to b adds to the area's first sum, and all of it where it is alone
abbrev pub chord_width : Float → Float → Float → Float
chord_width scale a b = bits 0 ⊕ (b ⊘ scale ⊖ a ⊘ scale)

module _ (h k span scale : Float) (g : StripSized h k span scale) (b d : ℕ) (L_ranges : Ranges 32 (b per d)) where
  abbrev e : ℕ
  e = top (extent_of (δ h k span scale g))

  abbrev f : ℕ
  f = bottom (extent_of (δ h k span scale g))

  abbrev pub bases : List Size
  bases = (b per d) ∷ size_of span ∷ size_of scale ∷ (e per f) ∷ []

  abbrev pub error : Size
  error = (48 * 2 ^ 30) roundoffs unit_by bases (1 ∷ 1 ∷ []) (0 ∷ 0 ∷ 0 ∷ 1 ∷ [])

  abbrev all_ranges : AllRanges 32 bases
  all_ranges = ranges h k span scale g b d L_ranges

  steep_real : IsSize error
  steep_real = mul-pos (unit_real bases all_ranges (1 ∷ 1 ∷ []) (0 ∷ 0 ∷ 0 ∷ 1 ∷ [])) (pow_pos 53)

  pub crossing_known : (x : Float) (A : Number) → IsNumber A → Near x A error → Under (1 of (b per d)) A
      → Known bases x A (shape (48 * 2 ^ 30) full (1 ∷ 1 ∷ []) (0 ∷ 0 ∷ 0 ∷ 1 ∷ []))
  crossing_known x A I n u =
      record {
        near = n;
        size = within_upto (1 of (b per d)) (full of unit_by bases (1 ∷ 1 ∷ []) (0 ∷ 0 ∷ 0 ∷ 1 ∷ [])) A zero_number L_ranges.real
            (steep_upto b d (num span) (den span) (num scale) (den scale) e f
            (upto_size (extent_of (δ h k span scale g)) (size_of span) (δ-most h k span scale g))) u;
        is = I;
      }

  module _ (x y : Float) (A B : Number) (I : IsNumber A) (J : IsNumber B) (nx : Near x A error) (ny : Near y B error)
      (ux : Under (1 of (b per d)) A)
      (uy : Under (1 of (b per d)) B) where
    abbrev entries : List Given
    entries =
        entry x A (shape (48 * 2 ^ 30) full (1 ∷ 1 ∷ []) (0 ∷ 0 ∷ 0 ∷ 1 ∷ [])) 0 ∷
        entry y B (shape (48 * 2 ^ 30) full (1 ∷ 1 ∷ []) (0 ∷ 0 ∷ 0 ∷ 1 ∷ [])) 0 ∷
        entry scale (value_of scale) (shape 0 full (place 2) []) full ∷
        []

    all : AllKnown bases entries
    all = ((crossing_known x A I nx ux, tt), ((crossing_known y B J ny uy, tt), (own_entry bases 2 scale refl g.scale_positive, tt)))

    pub width_near : Near (chord_width scale x y) ((B less A) times inverse_of (value_of scale))
        ((104 * 2 ^ 30) roundoffs unit_by bases (1 ∷ 1 ∷ []) (0 ∷ 0 ∷ 1 ∷ 1 ∷ []))
    width_near = near_within bases all_ranges entries all width_t ((given 2 take given 0) mul given 5) (104 * 2 ^ 30) (1 ∷ 1 ∷ [])
        (0 ∷ 0 ∷ 1 ∷ 1 ∷ []) tt

    pub width_known : Known bases (chord_width scale x y) ((B less A) times inverse_of (value_of scale))
        (shape (104 * 2 ^ 30) (2 ^ 31 + 1024) (1 ∷ 1 ∷ []) (0 ∷ 0 ∷ 1 ∷ 1 ∷ []))
    width_known =
        target_known bases all_ranges entries all (chord_width scale x y) ((given 2 take given 0) mul given 5) (104 * 2 ^ 30)
        (2 ^ 31 + 1024) (1 ∷ 1 ∷ [])
        (0 ∷ 0 ∷ 1 ∷ 1 ∷ []) width_near tt

  -- ---- between two edges
  module _ (lr : Bool) (lxp lyp lxq lyq : Float) (l : Spanning h k span b d lr lxp lyp lxq lyq) (rr : Bool) (rxp ryp rxq ryq : Float)
      (r : Spanning h k span b d rr rxp ryp rxq ryq) where
    abbrev pub left_at : Number → Number
    left_at η = line_of h k span scale g b d L_ranges lr lxp lyp lxq lyq l η

    abbrev pub right_at : Number → Number
    right_at η = line_of h k span scale g b d L_ranges rr rxp ryp rxq ryq r η

    abbrev inv_l : Number
    inv_l = inv h k span scale g b d L_ranges lr lxp lyp lxq lyq l

    abbrev inv_r : Number
    inv_r = inv h k span scale g b d L_ranges rr rxp ryp rxq ryq r

    scale_is : IsNumber (inverse_of (value_of scale))
    scale_is = inverse_real scale g.scale_positive

    abbrev metres : Sample → Float
    metres s = sample_metres h k span scale (strip_given h k span scale g) s

    abbrev pub exactly : Sample → Number
    exactly s = exact_metres h k span scale (strip_given h k span scale g) s

    abbrev pub list : Sample → List Number
    list s =
        value_of lxp ∷ value_of lyp ∷ value_of lxq ∷ inv_l ∷ value_of rxp ∷ value_of ryp ∷ value_of rxq ∷ inv_r ∷ value_of h ∷ value_of k
        ∷ node_of s
        ∷ inverse_of (value_of scale) ∷ []

    pub list_is : (s : Sample) → AllNumbers (list s)
    list_is s =
        let v = Counts.value_is in
        let i = inv_is h k span scale g b d L_ranges lr lxp lyp lxq lyq l in
        let j = inv_is h k span scale g b d L_ranges rr rxp ryp rxq ryq r in
        (v lxp, (v lyp, (v lxq, (i, (v rxp, (v ryp, (v rxq, (j, (v h, (v k, (node_is s, (scale_is, tt))))))))))))

    -- the width in the middle, and half of what it changes by from the lower end to the upper, over the scale
    abbrev pub middle : Number
    middle = evaluate (among (list centre)) middle_e

    abbrev pub slant : Number
    slant = evaluate (among (list centre)) slant_e

    pub linear : (s : Sample)
        → (right_at (exactly s) less left_at (exactly s)) times inverse_of (value_of scale) equals middle plus node_of s
        times slant
    linear s = equal_by (list s) (list_is s) sample_e (middle_e add given 10 mul slant_e) tt

    -- in order at the ends, and so at every sample
    module _ (at_lower : NotBelow (right_at (value_of h) less left_at (value_of h)))
        (at_upper : NotBelow (right_at (value_of k) less left_at (value_of k))) where
      in_order : (s : Sample) → IsSample s → NotBelow (right_at (exactly s) less left_at (exactly s))
      in_order s i =
          let lower = lower_share s in
          let upper = upper_share s in
          let n = shares_not_below s i in
          let x = (ratio 1 1 mul (ratio 1 0 take given 10)) mul width_e (given 8) add (ratio 1 1 mul (ratio 1 0 add given 10)) mul width_e
          (given 9) in
          equal_not_below (evaluated_is (list s) (list_is s) x) (equal_by (list s) (list_is s) x
          (width_e (between_e (given 8) (given 9) (given 10))) tt)
          (plus_not_below (lower times (right_at (value_of h) less left_at (value_of h)))
          (upper times (right_at (value_of k) less left_at (value_of k)))
          (times_not_below lower (right_at (value_of h) less left_at (value_of h)) n.0 at_lower)
          (times_not_below upper (right_at (value_of k) less left_at (value_of k)) n.1 at_upper))

      abbrev left_crossing : Sample → Float
      left_crossing s = crossing_at (metres s) lxp lyp lxq lyq

      abbrev right_crossing : Sample → Float
      right_crossing s = crossing_at (metres s) rxp ryp rxq ryq

      exactly_is : (s : Sample) → IsNumber (exactly s)
      exactly_is s = metres_is h k span scale (strip_given h k span scale g) s

      pub crossings_sorted : (s : Sample) → IsSample s
          → Pair (left_crossing s ∷ right_crossing s ∷ []) (left_at (exactly s)) (right_at (exactly s)) error
          × Pair (right_crossing s ∷ left_crossing s ∷ []) (left_at (exactly s)) (right_at (exactly s)) error
      crossings_sorted s i =
          sorted_pair (left_crossing s) (right_crossing s) (left_at (exactly s)) (right_at (exactly s)) error steep_real
          (line_is h k span scale g b d L_ranges lr lxp lyp lxq lyq l (exactly s) (exactly_is s))
          (line_is h k span scale g b d L_ranges rr rxp ryp rxq ryq r (exactly s) (exactly_is s)) (in_order s i)
          (sample_crossing h k span scale g b d L_ranges lr lxp lyp lxq lyq l s i)
          (sample_crossing h k span scale g b d L_ranges rr rxp ryp rxq ryq r s i)

      -- a sample's width is near what it is exactly
      pub sample_known : (s : Sample) → IsSample s → (x y : Float) → Near x (left_at (exactly s)) error
          → Near y (right_at (exactly s)) error
          → Known bases (chord_width scale x y) (middle plus node_of s times slant)
          (shape (104 * 2 ^ 30) (2 ^ 31 + 1024) (1 ∷ 1 ∷ []) (0 ∷ 0 ∷ 1 ∷ 1 ∷ []))
      sample_known s i x y nx ny =
          equalled (width_known x y (left_at (exactly s)) (right_at (exactly s))
          (line_is h k span scale g b d L_ranges lr lxp lyp lxq lyq l (exactly s) (exactly_is s))
          (line_is h k span scale g b d L_ranges rr rxp ryp rxq ryq r (exactly s) (exactly_is s)) nx ny
          (sample_under h k span scale g b d L_ranges lr lxp lyp lxq lyq l s i)
          (sample_under h k span scale g b d L_ranges rr rxp ryp rxq ryq r s i))
          (middle plus node_of s times slant) (evaluated_is (list s) (list_is s) (middle_e add given 10 mul slant_e)) (linear s)
