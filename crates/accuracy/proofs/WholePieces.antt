-- A strip of one piece: a halving that ends with one piece made no cut, each of its samples has a chord, and the area that is summed is
-- near the exact one by a computed bound. Assumes nothing.
use Rattle.accuracy.proofs.ToFractions.{first_power}
use mathlib.Core.Path.{◌≡◌, refl, ap}
use mathlib.Core.Bool.{false}
use mathlib.Core.List.{List, [], ◌∷◌}
use mathlib.Core.Logic.{◌⊎◌, inl, inr}
use Prim.Native.Nat.{ℕ, ◌+◌, ◌-◌, ◌*◌, ◌^◌, ◌≤◌, ◌<◌}
use native.Mathlib.Nat.{le_refl, le_trans, mul-pos, mul-le-mul_left, one-mul, mul-one, zero-mul, mul-zero, zero-add, add-zero}
use native.Mathlib.Omega.{arith}
use lib.Dec.{T}
use lib.ListN.{length}
use lib.Pow.{pow_pos, pow_mono}
use lib.Ieee.{Float, eq, round, of_bits}
use lib.Ieee.Positive.{num, den}
use Rattle.floats.specs.Operations.{◌⊕◌, ◌⊗◌, ◌⊘◌, bits, at}
use Rattle.gauss_kronrod.specs.Tables.{nodes, kronrod_weights}
use Rattle.quadrature.specs.Rule.{half_width, weighted_to, kronrod_weight, sum_of, heights_of, piece_of}
use Rattle.quadrature.specs.declared.Piece.{Piece}
use Rattle.chords.specs.Chords.{in_span}
use Rattle.tolerance.proofs.Numbers.{at_tabulate}
use Rattle.halving.specs.Halving.{halving}
use Rattle.halving.proofs.Outcomes.{outcome, kept, one_more, halves_of_worst}
use Rattle.rounding_error.proofs.Numbers.{number, Size, ◌per◌, ◌plus◌, ◌times◌, ◌roundoffs◌, Near, value_of, size_of, Ranges}
use Rattle.rounding_error.proofs.Distances.{sorted, within_upto}
use Rattle.rounding_error.proofs.Polynomials.{Expression, given, ratio, ◌add◌, ◌mul◌}
use Rattle.error_terms.proofs.Monomials.{AllRanges, place}
use Rattle.error_terms.proofs.Terms.{shape, Given, entry, var, nought, value, AllKnown, unit_by}
use Rattle.error_terms.proofs.Sound.{unit_real}
use Rattle.error_terms.proofs.Judged.{nearer}
use Rattle.error_terms.proofs.Shared.{Shared, whole, ◌⊞◌, ◌⊠◌, judge_in, judge_all, all_within}
use Rattle.error_terms.proofs.Entries.{full, sized_entry, own_entry}
use Rattle.error_terms.proofs.Floors.{Signed, positive_from}
use Rattle.one_piece.proofs.Rule.{rule_parts, total_s, at_heights, inside_test, inside, same_sums}
use Rattle.one_piece.proofs.AreaPiece.{width_s}
use Rattle.accuracy.proofs.Given.{Lengths}
use Rattle.accuracy.proofs.Called.{three_values}

ruleset plain = (sorted, one-mul, mul-one, zero-mul, mul-zero, zero-add, add-zero)

-- ---- one piece is the whole strip
abbrev WholeOrMore : Piece → List Piece → Type 0
WholeOrMore piece pieces = (pieces ≡ piece ∷ []) ⊎ (2 ≤ length pieces)

cut_more : (w : ℕ) (f : Float → List Float) (piece : Piece) (pieces : List Piece) → WholeOrMore piece pieces
    → 2 ≤ length (halves_of_worst w f pieces)
cut_more w f piece pieces (inl e) = let l = one_more w f pieces in let n = ap length e in omega (arith, l, n)
cut_more w f piece pieces (inr h) = let l = one_more w f pieces in omega (arith, l)

only_whole : (piece : Piece) (pieces : List Piece) → WholeOrMore piece pieces → length pieces ≡ 1 → pieces ≡ piece ∷ []
only_whole piece pieces (inl e) n = e
only_whole piece pieces (inr h) n = absurd (two h n)
  where
    two : {m : ℕ} → 2 ≤ m → m ≡ 1 → ⊥
    two h e = omega arith

pub whole_piece : (w : ℕ) (f : Float → List Float) (lower upper : Float) (limit : ℕ) → eq lower upper ≡ false
    → length (halving w f lower upper limit).pieces ≡ 1 → (halving w f lower upper limit).pieces ≡ piece_of w f lower upper ∷ []
unfolding halving
whole_piece w f lower upper limit e n =
    let piece = piece_of w f lower upper in
    let o = outcome w f (1 + (limit - 1)) (λ pieces heights. WholeOrMore piece pieces)
    (λ pieces heights k h m. inr (cut_more w f piece pieces k))
    (limit - 1) (piece ∷ []) (heights_of lower upper) (inl refl) refl in
    let m = rw e at n in
    rw e (only_whole piece _ (kept w f o) m)

pub value_is : (w : ℕ) (f : Float → List Float) (lower upper : Float) (k : ℕ) → k < w
    → at (piece_of w f lower upper).value k ≡ half_width lower upper ⊗ sum_of kronrod_weight f lower upper k
unfolding piece_of
value_is w f lower upper k l = at_tabulate w (λ i. half_width lower upper ⊗ sum_of kronrod_weight f lower upper i) k l

pub wider : (k : ℕ) (S : Size) → k ≤ 32 → Ranges k S → Ranges 32 S
wider k (a per c) h s =
    record {
      real = s.real;
      least = le_trans s.least (mul-le-mul_left a (pow_mono h));
      most = le_trans s.most
          (mul-le-mul_left c (pow_mono h));
    }

-- ---- the area: the variables are root, tip, sweep, span, scale
abbrev area_s : Shared
area_s =
    (whole (nought (1 ∷ 1 ∷ []) (0 ∷ 0 ∷ 2 ∷ [])) ⊞ total_s (1 ∷ []) (0 ∷ 0 ∷ 1 ∷ []) (1 ∷ 1 ∷ []) (0 ∷ 0 ∷ 2 ∷ [])) ⊠ whole
    (var 4) ⊠ whole (var 4)

-- (root + tip)/2·span
abbrev area_e : Expression
area_e = ratio 1 1 mul ((given 0 add given 2) mul given 6)

module _ (root tip span sweep scale : Float) (b d : ℕ) (g : Lengths root tip span sweep scale (b per d)) where
  abbrev low : Float
  low = bits 0 ⊘ scale

  abbrev high : Float
  high = span ⊘ scale

  -- the samples' chords, where they have one
  abbrev three : Float → List Float
  three h = three_values root tip sweep (h ⊗ scale ⊘ span) scale h

  -- ---- each sample is in the span, which root, tip and sweep do not enter: the span stands in their places
  abbrev height_bases : List Size
  height_bases = size_of span ∷ size_of span ∷ size_of scale ∷ []

  abbrev span_entry : Given
  span_entry = entry span (value_of span) (shape 0 full (place 1) []) full

  abbrev height_entries : List Given
  height_entries = span_entry ∷ span_entry ∷ span_entry ∷ span_entry ∷ entry scale (value_of scale) (shape 0 full (place 2) []) full ∷ []

  span_ranges : Ranges 32 (size_of span)
  span_ranges = wider 24 (size_of span) (omega arith) g.span_ranges

  scale_ranges : Ranges 32 (size_of scale)
  scale_ranges = wider 24 (size_of scale) (omega arith) g.scale_ranges

  height_known : AllKnown height_bases height_entries
  height_known =
      let s = own_entry height_bases 1 span refl g.span_positive in
      (s, (s, (s, (s, (own_entry height_bases 2 scale refl g.scale_positive, tt)))))

  height_signed : Signed height_entries
  height_signed =
      let s = positive_from span g.span_positive in
      (s, (s, (s, (s, (positive_from scale g.scale_positive, tt)))))

  inside_test_lem : T (at_heights (inside_test height_entries) 7)
  unfolding round of_bits nodes
  inside_test_lem = tt

  pub chords_there : (f : Float → List Float) → ((h : Float) → T (in_span span (h ⊗ scale)) → f h ≡ three h) → (k : ℕ)
      → sum_of kronrod_weight f low high k ≡ sum_of kronrod_weight three low high k
  chords_there f there k =
      let r : AllRanges 32 height_bases = (span_ranges, (span_ranges, (scale_ranges, tt))) in
      same_sums height_bases r height_entries height_known height_signed f three (inside_test height_entries)
      (λ h t. there (value height_entries h) (inside height_bases r height_entries height_known height_signed h t)) inside_test_lem
      kronrod_weight
      k

  -- ---- the sum
  abbrev bases : List Size
  bases = (b per d) ∷ size_of span ∷ size_of scale ∷ []

  abbrev entries : List Given
  entries =
      entry root (value_of root) (shape 0 full (place 0) []) 0 ∷
      entry tip (value_of tip) (shape 0 full (place 0) []) 0 ∷
      entry sweep (value_of sweep) (shape 0 full (place 0) []) 0 ∷
      span_entry ∷
      entry scale (value_of scale) (shape 0 full (place 2) []) full ∷
      []

  ranges : AllRanges 32 bases
  ranges = (wider 24 (b per d) (omega arith) g.ranges, (span_ranges, (scale_ranges, tt)))

  known : AllKnown bases entries
  known = (
    (sized_entry bases 0 b d refl root g.ranges.real g.root_finite g.root_under, tt),
    (
      (sized_entry bases 0 b d refl tip g.ranges.real g.tip_finite g.tip_under, tt),
      (
        (sized_entry bases 0 b d refl sweep g.ranges.real g.sweep_finite g.sweep_under, tt),
        (own_entry bases 1 span refl g.span_positive, (own_entry bases 2 scale refl g.scale_positive, tt)),
      ),
    ),
  )

  area_test : T (nearer entries area_e (45 * 2 ^ 30) (1 ∷ 1 ∷ []) [] (judge_in entries (judge_all entries [] (rule_parts width_s)) area_s))
  unfolding round of_bits nodes kronrod_weights
  area_test = tt

  -- at most 45·2^-53·B·span from (root + tip)/2·span
  area_parts : Near ((bits 0 ⊕ (bits 0 ⊕ half_width low high ⊗ sum_of kronrod_weight three low high 0)) ⊗ scale ⊗ scale)
      (number 1 0 2 times ((value_of root plus value_of tip) times value_of span)) ((45 * 2 ^ 30) roundoffs unit_by bases (1 ∷ 1 ∷ []) [])
  unfolding weighted_to
  area_parts = all_within bases ranges entries known (rule_parts width_s) area_s area_e (45 * 2 ^ 30) (1 ∷ 1 ∷ []) [] area_test

  -- 45·2^-53 of B and the span
  fewer : 45 * 2 ^ 30 * (b ^ 1 * (num span ^ 1 * 1) * 1) * (d * 2 ^ 53 * den span) ≤ b * 45 * num span *
      (d ^ 1 * (den span ^ 1 * 1) * 1 * 2 ^ 30 * 2 ^ 53)
  fewer = rw (first_power b, first_power (num span), first_power d, first_power (den span)) (go (num span) (den span) (2 ^ 30) (2 ^ 53))
    where
      go : (N D P Q : ℕ) → 45 * P * (b * (N * 1) * 1) * (d * Q * D) ≤ b * 45 * N * (d * (D * 1) * 1 * P * Q)
      go N D P Q = simp plain (le_refl _)

  pub area_sum : Near ((bits 0 ⊕ (bits 0 ⊕ half_width low high ⊗ sum_of kronrod_weight three low high 0)) ⊗ scale ⊗ scale)
      (number 1 0 2 times ((value_of root plus value_of tip) times value_of span)) ((b * 45 * num span) per (d * 2 ^ 53 * den span))
  area_sum =
      let area = (bits 0 ⊕ (bits 0 ⊕ half_width low high ⊗ sum_of kronrod_weight three low high 0)) ⊗ scale ⊗ scale in
      record {
        finite = area_parts.finite;
        within =
            within_upto ((45 * 2 ^ 30) roundoffs unit_by bases (1 ∷ 1 ∷ []) []) ((b * 45 * num span) per (d * 2 ^ 53 * den span))
            (value_of area)
            (number 1 0 2 times ((value_of root plus value_of tip) times value_of span))
            (mul-pos (unit_real bases ranges (1 ∷ 1 ∷ []) []) (pow_pos 53))
            fewer area_parts.within;
      }
