-- The mass of a set of one piece, of square or airfoil section: near the exact one by a computed bound. Assumes nothing.
use Rattle.std.specs.Prelude.{Option, Some, None}
use Rattle.accuracy.proofs.Limits.{ranges_to, least_of, lengths, most_under}
use mathlib.Core.Path.{◌≡◌, refl, sym, ap, ◌∙◌, subst}
use mathlib.Core.Bool.{Bool, ◌&&◌}
use mathlib.Core.List.{List, [], ◌∷◌}
use Prim.Native.Nat.{ℕ, suc, ◌+◌, ◌*◌, ◌^◌, ◌≤◌}
use native.Mathlib.Nat.{le_refl, mul-pos, mul-le-mul_right, one-mul, mul-one, zero-mul, mul-zero, zero-add, add-zero, pow-zero}
use native.Mathlib.Omega.{arith}
use lib.Dec.{T, lit≤}
use lib.ListN.{length}
use lib.Pow.{pow_pos}
use lib.IntN.{pos}
use lib.Ieee.{Float, binary64, fits, round, of_bits}
use lib.Ieee.Fits.{and_l, and_r}
use lib.Ieee.Positive.{num, den, den_pos, positive, positive-finite}
use Rattle.floats.specs.Operations.{◌⊕◌, ◌⊗◌, ◌⊘◌, bits}
use Rattle.floats.specs.Floats.{cube}
use Rattle.floats.specs.Fractions.{◌over◌, ◌plus◌ as sum, ◌times◌ as product, value_of as fraction_of}
use Rattle.rounding.specs.Sizes.{AtMost}
use Rattle.rounding.proofs.Sizes.{positive_of}
use Rattle.rounding_error.specs.Distances.{Within as Apart}
use Rattle.rounding_error.proofs.Numbers.{Number, number, Size, ◌per◌, ◌by◌, ◌and◌, ◌of◌, ◌roundoffs◌, ◌plus◌, ◌times◌, IsNumber, IsSize}
use Rattle.rounding_error.proofs.Numbers.{Within, Under, Near, Ranges, value_of, size_of}
use Rattle.rounding_error.proofs.Distances.{sorted, within_upto, within_trans, within_times}
use Rattle.rounding_error.proofs.Counts as Counts
use Rattle.rounding_error.proofs.Chains.{Valued, exactly, counted_by}
use Rattle.rounding_error.proofs.Polynomials.{times_is, Expression, given, ratio, ◌add◌, ◌mul◌, evaluate, evaluate_is}
use Rattle.rounding_error.proofs.Fractions.{IsFraction, plus_fraction, times_fraction, value_fraction, whole_fraction, within_fraction}
use Rattle.gauss_kronrod.specs.Tables.{nodes, kronrod_weights}
use Rattle.quadrature.specs.Rule.{half_width, weighted_to, kronrod_weight, sum_of}
use Rattle.sections.specs.Airfoil.{airfoil_constants}
use Rattle.sections.specs.declared.Section.{Section}
use Rattle.sections.specs.declared.Section.TheVariants.{Square, Rounded, Airfoil, AirfoilOpen}
use Rattle.planforms.proofs.Sized.{Sized}
use Rattle.limits.proofs.Lengths.{PositiveLength}
use Rattle.integrands.proofs.Scales.{Scale}
use Rattle.joins.specs.Joins.{in_order}
use Rattle.fins.specs.declared.FinTab.{FinTab}
use Rattle.fins.proofs.Accepted.{set_count}
use Rattle.plates.specs.Integrals.{volume, tab_integrals_of}
use Rattle.strips.specs.Strips.{value_from}
use Rattle.figures.specs.Figures.{set_strips}
use Rattle.figures.specs.declared.Figures.{Figures}
use Rattle.error_terms.proofs.Monomials.{AllRanges, place, mono, top, bottom}
use Rattle.error_terms.proofs.Terms.{shape, Given, entry, larger, var, nought, ◌mul◌ as ◌mul_t◌, value, AllKnown, unit_by}
use Rattle.error_terms.proofs.Terms.{numbers_of}
use Rattle.error_terms.proofs.Sound.{unit_real, numbers_are}
use Rattle.error_terms.proofs.Judged.{Judged, nearer, reaching}
use Rattle.error_terms.proofs.Shared.{Shared, whole, ◌⊞◌, ◌⊠◌, tightly, raised_by, judge_in, judge_all, bind_all, expand, all_within, all_reach}
use Rattle.error_terms.proofs.Entries.{full, sized_entry, own_entry}
use Rattle.one_piece.specs.OnePiece.{NotRounded}
use Rattle.one_piece.proofs.Rule.{total_s}
use Rattle.one_piece.proofs.PlatePiece.{seven_at, parts_of}
use Rattle.accuracy.specs.Masses.{Plate, Mount, set_with, SectionGiven, fin_volume, tab_volume, filled, exact_mass, TabWithin, Extents}
use Rattle.accuracy.specs.Masses.{OneStrip, OrdinaryMass}
use Rattle.accuracy.proofs.Given.{Lengths}
use Rattle.accuracy.proofs.WholePieces.{wider}
use Rattle.accuracy.proofs.ToFractions.{positive_fraction, product_fraction, fraction_e, fraction_number, first_power}
use Rattle.accuracy.proofs.SetCalled as Called
use Rattle.accuracy.proofs.RingSums.{unit_range, sums_to}
use Rattle.accuracy.proofs.SevenIntegrals.{wide}
use Rattle.accuracy.proofs.FinCalled as Fins

ruleset plain = (sorted, one-mul, mul-one, zero-mul, mul-zero, zero-add, add-zero)

-- ---- the terms: the variables are root, tip, sweep, span, scale, thickness, density, a tab's length and height
abbrev volume_s : Shared
volume_s =
    (whole (nought (1 ∷ 1 ∷ 0 ∷ 1 ∷ []) (0 ∷ 0 ∷ 3 ∷ []))
    ⊞ total_s (1 ∷ 0 ∷ 0 ∷ 1 ∷ []) (0 ∷ 0 ∷ 2 ∷ []) (1 ∷ 1 ∷ 0 ∷ 1 ∷ []) (0 ∷ 0 ∷ 3 ∷ [])) ⊠ whole (var 4 mul_t (var 4 mul_t var 4))

abbrev slab_s : Option FinTab → Shared
slab_s None = whole (nought (1 ∷ 0 ∷ 0 ∷ 1 ∷ 0 ∷ 1 ∷ []) [])
slab_s (Some tab) = whole (var 5 mul_t var 7 mul_t var 8)

-- in units of thickness·B·Y, as the span does not pass Y
abbrev mass_s : Option FinTab → Shared
mass_s tab = whole (var 6) ⊠ (raised_by 9 (tightly volume_s) ⊞ slab_s tab)

abbrev slab_e : Option FinTab → Expression
slab_e None = ratio 0 0
slab_e (Some tab) = (given 10 mul given 14) mul given 16

abbrev mass_e : Section → Option FinTab → Expression
mass_e section tab =
    given 12 mul (fraction_e (filled section) mul (given 10 mul (given 6 mul ((given 0 add given 2) mul ratio 1 1))) add slab_e tab)

abbrev length_of : Option FinTab → Float
length_of None = bits 0
length_of (Some tab) = tab.length_m

abbrev height_of : Option FinTab → Float
height_of None = bits 0
height_of (Some tab) = tab.height_m

-- a unit and a 128th: twice that is what a fin's mass is at most
abbrev half_most : ℕ
half_most = 2 ^ 30 + 2 ^ 23

abbrev most : ℕ
most = 2 * half_most

abbrev unit_p : List ℕ
unit_p = 1 ∷ 0 ∷ 0 ∷ 1 ∷ 1 ∷ 1 ∷ []

abbrev mass_test : List Given → Expression → Judged → Bool
mass_test G target j = nearer G target (55 * 2 ^ 30) unit_p [] j && reaching most unit_p [] j

abbrev entries_of : (root tip sweep span scale thickness density length height : Float) → List Given
entries_of root tip sweep span scale thickness density length height =
    entry root (value_of root) (shape 0 full (place 0) []) 0 ∷
    entry tip (value_of tip) (shape 0 full (place 0) []) 0 ∷
    entry sweep (value_of sweep) (shape 0 full (place 0) []) 0 ∷
    entry span (value_of span) (shape 0 full (place 1) []) full ∷
    entry scale (value_of scale) (shape 0 full (place 2) []) full ∷
    entry thickness (value_of thickness) (shape 0 full (place 3) []) full ∷
    entry density (value_of density) (shape 0 full (place 4) []) full ∷
    entry length (value_of length) (shape 0 full (place 0) []) 0 ∷
    entry height (value_of height) (shape 0 full (place 5) []) 0 ∷
    larger 1 5 ∷
    []

module _ (root tip sweep span scale thickness density length height : Float) where
  abbrev G : List Given
  G = entries_of root tip sweep span scale thickness density length height

  abbrev Passes : Section → Option FinTab → Type 0
  Passes section tab = T (mass_test G (mass_e section tab) (judge_in G (judge_all G [] (parts_of section 0)) (mass_s tab)))

  passes : (section : Section) → NotRounded section → (tab : Option FinTab) → Passes section tab
  unfolding round of_bits nodes kronrod_weights airfoil_constants
  passes Rounded e tab = absurd e
  passes Square e None = tt
  passes Square e (Some t) = tt
  passes Airfoil e None = tt
  passes Airfoil e (Some t) = tt
  passes AirfoilOpen e None = tt
  passes AirfoilOpen e (Some t) = tt

  -- ---- the values of the terms are the program's sums
  abbrev low : Float
  low = bits 0 ⊘ scale

  abbrev high : Float
  high = span ⊘ scale

  -- one fin's mass, from the sum of the samples
  abbrev mass_by : Float → Option FinTab → Float → Float
  mass_by total tab radius = density ⊗ (total ⊗ cube scale ⊕ volume (tab_integrals_of tab thickness radius))

  abbrev sampled : Section → Float → Float
  sampled section radius =
      bits 0 ⊕ (bits 0 ⊕ half_width low high ⊗
      sum_of kronrod_weight (seven_at root tip span sweep scale thickness radius 0 0 0 (shape 0 0 [] []) 0 [] section) low high 0)

zero_most : (b d : ℕ) → AtMost b d (bits 0)
unfolding of_bits
zero_most b d = record { finite = tt; size = omega arith }

mass_is : (root tip sweep span scale thickness density radius : Float) (section : Section) → NotRounded section → (tab : Option FinTab)
    → value (entries_of root tip sweep span scale thickness density (length_of tab) (height_of tab))
    (expand [] (bind_all (parts_of section 0) (mass_s tab)))
    ≡ mass_by root tip sweep span scale thickness density (length_of tab) (height_of tab)
    (sampled root tip sweep span scale thickness density (length_of tab) (height_of tab) section radius) tab radius
unfolding weighted_to tab_integrals_of
mass_is root tip sweep span scale thickness density radius Rounded e tab = absurd e
mass_is root tip sweep span scale thickness density radius Square e None = refl
mass_is root tip sweep span scale thickness density radius Square e (Some t) = refl
mass_is root tip sweep span scale thickness density radius Airfoil e None = refl
mass_is root tip sweep span scale thickness density radius Airfoil e (Some t) = refl
mass_is root tip sweep span scale thickness density radius AirfoilOpen e None = refl
mass_is root tip sweep span scale thickness density radius AirfoilOpen e (Some t) = refl

-- ---- fractions
fill_fraction : (x : ℕ → Number) (section : Section) → NotRounded section
    → IsFraction (evaluate x (fraction_e (filled section))) (filled section)
fill_fraction x Rounded e = absurd e
fill_fraction x Square e = fraction_number x (filled Square) tt
fill_fraction x Airfoil e = fraction_number x (filled Airfoil) tt
fill_fraction x AirfoilOpen e = fraction_number x (filled AirfoilOpen) tt

unit_parts : (b s S t k y : ℕ) → b ^ 1 * (s ^ 0 * (S ^ 0 * (t ^ 1 * (k ^ 1 * (y ^ 1 * 1))))) * 1 ≡ b * y * (k * t)
unit_parts b s S t k y = rw (first_power b, pow-zero s, pow-zero S, first_power t, first_power k, first_power y) (simp plain)

-- both errors in one size: those of the sum of copies, and those of the fin
both_errors : (c E K BY NN DE DD P Q : ℕ) → E + K * P ≤ 90 * P
    → (c * E * (BY * NN) * (1 * (DE * DD * P * Q)) + c * (K * P * (BY * NN)) * (DE * DD * P * Q)) * (DE * Q * DD)
    ≤ c * 90 * BY * NN * (DE * DD * P * Q * (1 * (DE * DD * P * Q)))
both_errors c E K BY NN DE DD P Q h =
    let x = simp plain at (mul-le-mul_right (c * (BY * NN) * (DE * DD * P * Q) * (DE * DD * Q)) h) in simp plain (omega (arith, x))

module _ (section : Section) (p : Plate) (m : Mount) (points : List Float) (L : ℕ) (entry : List Float) (r : Figures) (exit : List Float)
    (b d y e : ℕ)
    (plain_section : NotRounded section) (g : SectionGiven section p m points L entry r exit) (radius_f64 : T (fits binary64 m.radius))
    (q : OneStrip 2 8 section p r.intervals) (x : Extents p b d y e) where
  abbrev S : Float
  S = Fins.S section p m points L entry r exit plain_section g radius_f64 wide q

  figures : Called.Given section p m points L (length entry) r
  figures = Fins.figures section p m points L entry r exit plain_section g radius_f64 wide q

  sized : Sized (Fins.planform section p m points L entry r exit plain_section g radius_f64 wide q) points
  sized = Fins.sized section p m points L entry r exit plain_section g radius_f64 wide q

  scaled : Scale S
  scaled = Fins.scaled section p m points L entry r exit plain_section g radius_f64 wide q

  N : Lengths p.root p.tip p.span p.sweep S (b per d)
  N =
      lengths p.root p.tip p.span p.sweep S b d x.along.is_size x.along_most sized.0 sized.1.1.0 scaled
      x.along.root_most x.along.tip_most x.along.sweep_most

  thick : PositiveLength p.thickness
  thick = Fins.thick section p m points L entry r exit plain_section g radius_f64 wide q

  thick_positive : T (positive p.thickness)
  thick_positive = positive_of p.thickness 20 thick.not_minus thick.above

  heavy : T (positive p.density) × Ranges 24 (size_of p.density)
  heavy = Fins.heavy section p m points L entry r exit plain_section g radius_f64 wide q

  -- ---- the fin's mass
  abbrev bases : List Size
  bases = (b per d) ∷ size_of p.span ∷ size_of S ∷ size_of p.thickness ∷ size_of p.density ∷ (y per e) ∷ []

  ranges : AllRanges 32 bases
  ranges =
      let B = wider 24 (b per d) (lit≤ tt) N.ranges in
      let span = wider 24 (size_of p.span) (lit≤ tt) N.span_ranges in
      let scale = wider 24 (size_of S) (lit≤ tt) N.scale_ranges in
      let thickness = ranges_to 32 p.thickness 6 20 (lit≤ tt) (lit≤ tt) thick.length.below thick.above in
      let density = wider 24 (size_of p.density) (lit≤ tt) heavy.1 in
      let least' = least_of p.span y e N.span_positive sized.1.1.0.above x.span_most in
      let Y = wider 24 (y per e) (lit≤ tt) (record { real = x.is_size; least = least'; most = below y e x.outward_most }) in
      (B, (span, (scale, (thickness, (density, (Y, tt))))))
    where
      below : (y e : ℕ) → y ≤ 64 * e → y ≤ e * 2 ^ 24
      below y e h = omega arith

  length_most : (tab : Option FinTab) → TabWithin tab b d y e → AtMost b d (length_of tab)
  length_most None w = zero_most b d
  length_most (Some t) w = w.0

  height_most : (tab : Option FinTab) → TabWithin tab b d y e → AtMost y e (height_of tab)
  height_most None w = zero_most y e
  height_most (Some t) w = w.1

  abbrev entries : List Given
  entries = entries_of p.root p.tip p.sweep p.span S p.thickness p.density (length_of p.tab) (height_of p.tab)

  known : AllKnown bases entries
  known =
      let l = length_most p.tab x.tab_within in
      let h = height_most p.tab x.tab_within in
      let real = N.ranges.real in
      let root = sized_entry bases 0 b d refl p.root real N.root_finite N.root_under in
      let tip = sized_entry bases 0 b d refl p.tip real N.tip_finite N.tip_under in
      let sweep = sized_entry bases 0 b d refl p.sweep real N.sweep_finite N.sweep_under in
      let span = own_entry bases 1 p.span refl N.span_positive in
      let scale = own_entry bases 2 S refl N.scale_positive in
      let thickness = own_entry bases 3 p.thickness refl thick_positive in
      let density = own_entry bases 4 p.density refl heavy.0 in
      let long = sized_entry bases 0 b d refl (length_of p.tab) real l.finite (most_under (length_of p.tab) b d l) in
      let high = sized_entry bases 5 y e refl (height_of p.tab) x.is_size h.finite (most_under (height_of p.tab) y e h) in
      let rest = x.span_most.size in
      ((root, tt), ((tip, tt), ((sweep, tt), (span, (scale, (thickness, (density, ((long, tt), ((high, tt), (rest, tt))))))))))

  abbrev one : Float
  one = mass_by p.root p.tip p.sweep p.span S p.thickness p.density (length_of p.tab) (height_of p.tab)
      (sampled p.root p.tip p.sweep p.span S p.thickness p.density (length_of p.tab) (height_of p.tab) section
      m.radius)
      p.tab m.radius

  abbrev X : Number
  X = evaluate (numbers_of entries) (mass_e section p.tab)

  abbrev U : Size
  U = unit_by bases unit_p []

  passed : T (mass_test entries (mass_e section p.tab) (judge_in entries (judge_all entries [] (parts_of section 0)) (mass_s p.tab)))
  passed = passes p.root p.tip p.sweep p.span S p.thickness p.density (length_of p.tab)
      (height_of p.tab) section plain_section p.tab

  abbrev judgement : Judged
  judgement = judge_in entries (judge_all entries [] (parts_of section 0)) (mass_s p.tab)

  is : value entries (expand [] (bind_all (parts_of section 0) (mass_s p.tab))) ≡ one
  is = mass_is p.root p.tip p.sweep p.span S p.thickness p.density m.radius section plain_section p.tab

  one_near : Near one X ((55 * 2 ^ 30) roundoffs U)
  one_near =
      subst (λ (z : Float). Near z X ((55 * 2 ^ 30) roundoffs U)) is
      (all_within bases ranges entries known (parts_of section 0) (mass_s p.tab) (mass_e section p.tab) (55 * 2 ^ 30) unit_p []
      (and_l (nearer entries (mass_e section p.tab) (55 * 2 ^ 30) unit_p [] judgement) (reaching most unit_p [] judgement) passed))

  one_most : Under (most of U) (value_of one)
  one_most =
      subst (λ (z : Float). Under (most of U) (value_of z)) is
      (all_reach bases ranges entries known (parts_of section 0) (mass_s p.tab) most unit_p []
      (and_r (nearer entries (mass_e section p.tab) (55 * 2 ^ 30) unit_p [] judgement) (reaching most unit_p [] judgement) passed))

  -- ---- the set's
  total_is : value_from (bits 0) 0 (set_strips (set_with section p m) points L)
      ≡ sampled p.root p.tip p.sweep p.span S p.thickness p.density (length_of p.tab) (height_of p.tab) section
      m.radius
  total_is = Fins.total_is section p m points L entry r exit plain_section g radius_f64 wide q 0 (lit≤ tt)

  abbrev summed : Float
  summed = in_order (λ a c. a ⊕ c) (bits 0) (λ k. one) m.count

  set_mass_is : r.body.mass_kg ≡ summed
  set_mass_is =
      figures.mass
      ∙ ap (λ (z : Float). in_order (λ a c. a ⊕ c) (bits 0)
      (λ k. p.density ⊗ (z ⊗ cube S ⊕ volume (tab_integrals_of p.tab p.thickness m.radius))) m.count)
      total_is

  abbrev c : ℕ
  c = m.count

  unit_in : Ranges 900 U
  unit_in = unit_range bases ranges unit_p tt

  X_is : IsNumber X
  X_is = evaluate_is (numbers_of entries) (numbers_are bases ranges entries known) (mass_e section p.tab)

  few : c ≤ 32
  few = (set_count (set_with section p m) points L (length entry) figures.accepted).1

  copied : Valued summed (number c 0 1 times value_of one) (c * (33 * half_most + 2)) (c * most) U
  copied = counted_by (sums_to U unit_in (value_of one) 0 half_most (lit≤ tt) (lit≤ tt) (λ k. one) c few (Counts.value_is one)
      (λ k h. exactly one (2 * half_most) U one_near.finite one_most))
      (c * (33 * half_most + 2)) (c * most) unit_in.real (each c half_most (mul-le-mul_right (c * half_most) (more c few))) (le_refl _)
    where
      more : (c : ℕ) → c ≤ 32 → suc c ≤ 33
      more c h = omega arith

      each : (c H : ℕ) → suc c * (c * H) ≤ 33 * (c * H) → c * 0 + (c * suc c * H + 2 * c) ≤ c * (33 * H + 2)
      each c H h = omega arith

  -- the unit, without its powers
  abbrev top' : ℕ
  top' = b * y * (num p.density * num p.thickness)

  abbrev bottom' : ℕ
  bottom' = d * e * (den p.density * den p.thickness)

  in_parts : (Q : Size → Type 0) → Q U → Q (top' per (bottom' * 2 ^ 30))
  in_parts Q h =
      subst (λ (k : ℕ). Q (top' per (k * 2 ^ 30))) (unit_parts d (den p.span) (den S) (den p.thickness) (den p.density) e)
      (subst (λ (k : ℕ). Q (k per (mono bottom bases unit_p * mono top bases [] * 2 ^ 30)))
      (unit_parts b (num p.span) (num S) (num p.thickness) (num p.density) y) h)

  abbrev unit' : Size
  unit' = top' per (bottom' * 2 ^ 30)

  unit_some : IsSize unit'
  unit_some = in_parts IsSize (unit_real bases ranges unit_p [])

  mass_within : Within ((c * 90 * (b * y) * (num p.density * num p.thickness)) per
      (d * e * 2 ^ 53 * (den p.density * den p.thickness)))
      (value_of summed) (number c 0 1 times X)
  mass_within =
      let sum_near : Within ((c * (33 * half_most + 2)) roundoffs unit') (value_of summed) (number c 0 1 times value_of one) =
      in_parts (λ W. Within ((c * (33 * half_most + 2)) roundoffs W) (value_of summed) (number c 0 1 times value_of one))
      copied.near.within in
      let fin_near : Within ((55 * 2 ^ 30) roundoffs unit') (value_of one) X =
      in_parts (λ W. Within ((55 * 2 ^ 30) roundoffs W) (value_of one) X) one_near.within in
      let k = (c * (33 * half_most + 2)) roundoffs unit' in
      let l = (c per 1) by ((55 * 2 ^ 30) roundoffs unit') in
      within_upto (k and l) ((c * 90 * (b * y) * (num p.density * num p.thickness)) per
      (d * e * 2 ^ 53 * (den p.density * den p.thickness)))
      (value_of summed) (number c 0 1 times X)
      (mul-pos (mul-pos unit_some (pow_pos 53)) (mul-pos (pow_pos 0) (mul-pos unit_some (pow_pos 53))))
      (both_errors c (33 * half_most + 2) 55 (b * y) (num p.density * num p.thickness) (d * e)
      (den p.density * den p.thickness) (2 ^ 30) (2 ^ 53)
      (lit≤ tt))
      (within_trans k l (value_of summed) (number c 0 1 times value_of one) (number c 0 1 times X)
      (times_is (number c 0 1) (value_of one) (pow_pos 0) (Counts.value_is one)) sum_near
      (within_times (c per 1) ((55 * 2 ^ 30) roundoffs unit') (number c 0 1) (value_of one) X (count_under c) fin_near))
    where
      count_under : (c : ℕ) → Under (c per 1) (number c 0 1)
      count_under c = record { below = omega arith; above = omega arith }

  -- ---- in fractions
  slab_fraction : (tab : Option FinTab) → TabWithin tab b d y e
      → IsFraction (evaluate (numbers_of (entries_of p.root p.tip p.sweep p.span S p.thickness p.density (length_of tab)
      (height_of tab))) (slab_e tab))
      (tab_volume tab p.thickness)
  slab_fraction None w = whole_fraction 0 1
  slab_fraction (Some tab) w =
      times_fraction (value_of p.thickness times value_of tab.length_m) (value_of tab.height_m)
      (product (fraction_of p.thickness) (fraction_of tab.length_m))
      (fraction_of tab.height_m)
      (times_fraction (value_of p.thickness) (value_of tab.length_m) (fraction_of p.thickness) (fraction_of tab.length_m)
      (value_fraction p.thickness (positive-finite p.thickness thick_positive)) (value_fraction tab.length_m w.0.finite))
      (value_fraction tab.height_m w.1.finite)

  abbrev width : Number
  width = (value_of p.root plus value_of p.tip) times number 1 0 2

  volume_fraction : IsFraction (value_of p.thickness times (value_of p.span times width)) (fin_volume p)
  volume_fraction =
      let w = product (sum (fraction_of p.root) (fraction_of p.tip)) (pos 1 over 2) in
      times_fraction (value_of p.thickness) (value_of p.span times width) (fraction_of p.thickness)
      (product (fraction_of p.span) w)
      (value_fraction p.thickness (positive-finite p.thickness thick_positive))
      (times_fraction (value_of p.span) width (fraction_of p.span) w
      (value_fraction p.span (positive-finite p.span N.span_positive))
      (times_fraction (value_of p.root plus value_of p.tip) (number 1 0 2) (sum (fraction_of p.root) (fraction_of p.tip))
      (pos 1 over 2)
      (plus_fraction (value_of p.root) (value_of p.tip) (fraction_of p.root) (fraction_of p.tip)
      (value_fraction p.root N.root_finite) (value_fraction p.tip N.tip_finite))
      (whole_fraction 1 2)))

  exact_fraction_lem : IsFraction (number c 0 1 times X) (exact_mass section p m)
  exact_fraction_lem =
      let fill = evaluate (numbers_of entries) (fraction_e (filled section)) in
      let fin' = value_of p.thickness times (value_of p.span times width) in
      let slab = evaluate (numbers_of entries) (slab_e p.tab) in
      let plate' = product (filled section) (fin_volume p) in
      times_fraction (number c 0 1) X (pos c over 1) (product (fraction_of p.density) (sum plate' (tab_volume p.tab p.thickness)))
      (whole_fraction c 1)
      (times_fraction (value_of p.density) (fill times fin' plus slab) (fraction_of p.density)
      (sum plate' (tab_volume p.tab p.thickness))
      (value_fraction p.density (positive-finite p.density heavy.0))
      (plus_fraction (fill times fin') slab plate' (tab_volume p.tab p.thickness)
      (times_fraction fill fin' (filled section) (fin_volume p) (fill_fraction (numbers_of entries) section plain_section) volume_fraction)
      (slab_fraction p.tab x.tab_within)))

  pub mass_near : Apart (product (pos (c * 90 * (b * y)) over (d * e * 2 ^ 53))
      (product (fraction_of p.density) (fraction_of p.thickness)))
      (fraction_of r.body.mass_kg) (exact_mass section p m)
  mass_near =
      let k = c * 90 * (b * y) in
      let q = d * e * 2 ^ 53 in
      let dw = product (fraction_of p.density) (fraction_of p.thickness) in
      let n = num p.density * num p.thickness in
      let w = den p.density * den p.thickness in
      subst (λ (z : Float). Apart (product (pos k over q) dw) (fraction_of z) (exact_mass section p m)) (sym set_mass_is)
      (within_fraction (k * n) (q * w) (value_of summed) (number c 0 1 times X) (product (pos k over q) dw) (fraction_of summed)
      (exact_mass section p m)
      (mul-pos (mul-pos (mul-pos x.along.is_size x.is_size) (pow_pos 53))
      (mul-pos (den_pos p.density) (den_pos p.thickness)))
      (Counts.value_is summed) (times_is (number c 0 1) X (pow_pos 0) X_is)
      (product_fraction k q n w (pos k over q) dw (whole_fraction k q)
      (product_fraction (num p.density) (den p.density) (num p.thickness) (den p.thickness) (fraction_of p.density)
      (fraction_of p.thickness) (positive_fraction p.density heavy.0) (positive_fraction p.thickness thick_positive)))
      (value_fraction summed copied.near.finite) exact_fraction_lem mass_within)

pub ordinary_mass : OrdinaryMass
ordinary_mass = mass_near
