-- The centroid of a trapezoid whose strip is one piece is near the exact one by computed bounds: of the three sums of the strip first, then
-- of their quotients. Assumes nothing.
use native.Mathlib.Nat.{add-le-add, mul-le-mul_right, one-mul, mul-one, zero-mul, mul-zero, zero-add, add-zero, pow-zero}
use Prim.Native.Nat.{zero-le, ℕ, ◌+◌, ◌-◌, ◌*◌, ◌^◌, ◌≤◌, ◌<◌}
use Rattle.error_terms.proofs.Floors.{times_not_below, NotBelow, Signed, not_below as from_low, positive_from}
use Rattle.accuracy.specs.Areas.{InOnePiece, AreaGiven}
use Rattle.accuracy.proofs.AreaNear.{total_at_lem}
use Rattle.accuracy.proofs.ToFractions.{expression_fraction, fraction_in, among_fractions, by_size, first_power}
use mathlib.Core.Path.{◌≡◌, refl, sym, ◌∙◌, subst}
use mathlib.Core.List.{List, [], ◌∷◌}
use native.Mathlib.Omega.{arith}
use lib.Dec.{T, lit≤}
use lib.ListN.{length}
use lib.Pow.{pow_pos}
use lib.IntN.{pos}
use lib.Ieee.{Float, round, of_bits}
use lib.Ieee.Scale.{finite}
use lib.Ieee.Positive.{num, den, den_pos, positive, positive-finite}
use Rattle.floats.specs.Operations.{◌⊕◌, ◌⊗◌, ◌⊘◌, bits}
use Rattle.floats.specs.Fractions.{Fraction, ◌over◌, ◌times◌ as product, value_of as fraction_of}
use Rattle.rounding.specs.Sizes.{AtMost}
use Rattle.rounding.proofs.Sizes.{positive_of}
use Rattle.rounding_error.specs.Distances.{Within as Apart}
use Rattle.rounding_error.proofs.Numbers.{Number, number, Size, ◌per◌, ◌of◌, ◌roundoffs◌, ◌plus◌, ◌times◌, Under, Near, Ranges, value_of}
use Rattle.rounding_error.proofs.Numbers.{size_of}
use Rattle.rounding_error.proofs.Distances.{sorted}
use Rattle.rounding_error.proofs.Counts as Counts
use Rattle.rounding_error.proofs.Polynomials.{◌equals◌, trans, itself, equal_by, evaluated_is, evaluated_equal, AllNumbers, Expression}
use Rattle.rounding_error.proofs.Polynomials.{given, ratio, ◌add◌, ◌take◌, ◌mul◌, evaluate, normal, vanishes, among}
use Rattle.rounding_error.proofs.Fractions.{IsFraction, value_fraction}
use Rattle.planforms.specs.declared.Planform.{Planform}
use Rattle.planforms.specs.declared.Planform.TheVariants.{Trapezoid}
use Rattle.planforms.proofs.Sized.{Sized}
use Rattle.limits.proofs.Lengths.{PositiveLength}
use Rattle.integrands.specs.Integrands.{scale_of}
use Rattle.integrands.proofs.Scales.{Scale, scale_sized}
use Rattle.strips.specs.Strips.{value_from}
use Rattle.fins.proofs.Accepted.{area_planform}
use Rattle.figures.specs.Areas.{area_seven}
use Rattle.figures.specs.declared.Area.{Area}
use Rattle.gauss_kronrod.specs.Tables.{nodes, kronrod_weights}
use Rattle.quadrature.specs.Rule.{half_width, weighted_to, kronrod_weight, sum_of}
use Rattle.error_terms.proofs.Laws.{inverse_of}
use Rattle.error_terms.proofs.Monomials.{AllRanges, place, mono, top, bottom}
use Rattle.error_terms.proofs.Terms.{shape, Given, entry, Term, var, nought, ◌mul◌ as ◌mul_t◌, ◌over◌ as ◌over_t◌, AllKnown, unit_by}
use Rattle.error_terms.proofs.Terms.{numbers_of, Lowest}
use Rattle.error_terms.proofs.Sound.{unit_real, numbers_are}
use Rattle.error_terms.proofs.Judged.{judge, nearer, near_within}
use Rattle.error_terms.proofs.Shared.{Shared, whole, ◌⊞◌, judge_in, judge_all, all_within}
use Rattle.error_terms.proofs.Stages.{size_test, low_test, target_known, target_lowest}
use Rattle.error_terms.proofs.Entries.{full, many_entry, own_entry}
use Rattle.one_piece.proofs.Rule.{rule_parts, total_s}
use Rattle.one_piece.proofs.AreaPiece.{width_s, along_s, height_s}
use Rattle.accuracy.specs.Centroids.{thrice, along_root, in_height, OrdinaryCentroid}
use Rattle.accuracy.proofs.Near.{figures_given, sized}
use Rattle.accuracy.proofs.WholePieces.{wider}
use Rattle.accuracy.proofs.Limits.{most_under, ranges_of}
use Rattle.accuracy.proofs.Checked.{tip_checked, not_below}
use Rattle.accuracy.proofs.Called.{three_values}

ruleset plain = (sorted, one-mul, mul-one, zero-mul, mul-zero, zero-add, add-zero)

-- ---- the three sums; the variables are root, tip, sweep, span, scale, and place 9 is 1 / scale
abbrev sum_in : List ℕ → List ℕ → List ℕ → List ℕ → Shared
sum_in p q p' q' = whole (nought p' q') ⊞ total_s p q p' q'

abbrev area_s : Shared
area_s = sum_in (1 ∷ []) (0 ∷ 0 ∷ 1 ∷ []) (1 ∷ 1 ∷ []) (0 ∷ 0 ∷ 2 ∷ [])

abbrev moment_s : Shared
moment_s = sum_in (2 ∷ []) (0 ∷ 0 ∷ 2 ∷ []) (2 ∷ 1 ∷ []) (0 ∷ 0 ∷ 3 ∷ [])

abbrev height_moment_s : Shared
height_moment_s = sum_in (1 ∷ 1 ∷ []) (0 ∷ 0 ∷ 2 ∷ []) (1 ∷ 2 ∷ []) (0 ∷ 0 ∷ 3 ∷ [])

-- (root + tip)/2·span, span·(root² + root·tip + tip² + sweep·(root + 2·tip))/6 and span·span·(root + 2·tip)/6, by powers of the scale
abbrev area_e : Expression
area_e = ratio 1 1 mul ((given 0 add given 2) mul given 6) mul (given 9 mul given 9)

abbrev along_e : Expression
along_e = given 0 mul given 0 add given 0 mul given 2 add given 2 mul given 2 add given 4 mul (given 0 add ratio 2 0 mul given 2)

abbrev moment_e : Expression
moment_e = ratio 1 5 mul (given 6 mul along_e) mul (given 9 mul (given 9 mul given 9))

abbrev height_moment_e : Expression
height_moment_e = ratio 1 5 mul (given 6 mul (given 6 mul (given 0 add ratio 2 0 mul given 2))) mul (given 9 mul (given 9 mul given 9))

abbrev entries_of : (root tip sweep span scale : Float) → ℕ → List Given
entries_of root tip sweep span scale k =
    entry root (value_of root) (shape 0 full (place 0) []) full ∷
    entry tip (value_of tip) (shape 0 (k * 2 ^ 30) (place 0) []) 0 ∷
    entry sweep (value_of sweep) (shape 0 (k * 2 ^ 30) (place 0) []) 0 ∷
    entry span (value_of span) (shape 0 full (place 1) []) full ∷
    entry scale (value_of scale) (shape 0 full (place 2) []) full ∷
    []

-- for tip and sweep of so many root chords: the roundoffs of the three sums, their sizes in 1024ths, and the roundoffs of the two
-- quotients
pub record Chords : Type 0 where
  pub chords : ℕ
  pub area_error : ℕ
  pub area_size : ℕ
  pub moment_error : ℕ
  pub moment_size : ℕ
  pub height_error : ℕ
  pub height_size : ℕ
  pub along : ℕ
  pub height : ℕ

-- the quotients: the variables are the area's sum, the moment's, the height's, and the scale
abbrev quotients_of : Chords → (t0 t1 t2 scale : Float) → (v0 v1 v2 : Number) → List Given
quotients_of c t0 t1 t2 scale v0 v1 v2 =
    entry t0 v0 (shape (c.area_error * 2 ^ 30) (c.area_size * 2 ^ 20) (1 ∷ 1 ∷ []) (0 ∷ 0 ∷ 2 ∷ [])) (2 ^ 29 - 2 ^ 10) ∷
    entry t1 v1 (shape (c.moment_error * 2 ^ 30) (c.moment_size * 2 ^ 20) (2 ∷ 1 ∷ []) (0 ∷ 0 ∷ 3 ∷ [])) 0 ∷
    entry t2 v2 (shape (c.height_error * 2 ^ 30) (c.height_size * 2 ^ 20) (1 ∷ 2 ∷ []) (0 ∷ 0 ∷ 3 ∷ [])) 0 ∷
    entry scale (value_of scale) (shape 0 full (place 2) []) full ∷
    []

abbrev quotient_t : ℕ → Term
quotient_t i = var 3 mul_t var i over_t 0

abbrev quotient_e : ℕ → Expression
quotient_e i = (given 6 mul given i) mul given 1

module _ (c : Chords) (root tip sweep span scale : Float) where
  abbrev G : List Given
  G = entries_of root tip sweep span scale c.chords

  pub record SumsPass : Type 0 where
    pub area : T (nearer G area_e (c.area_error * 2 ^ 30) (1 ∷ 1 ∷ []) (0 ∷ 0 ∷ 2 ∷ [])
        (judge_in G (judge_all G [] (rule_parts width_s)) area_s))
    pub area_most : T (size_test G area_e (c.area_size * 2 ^ 20) (1 ∷ 1 ∷ []) (0 ∷ 0 ∷ 2 ∷ []))
    pub area_least : T (low_test G area_e (c.area_error * 2 ^ 30) (2 ^ 29 - 2 ^ 10 - 1) (1 ∷ 1 ∷ []) (0 ∷ 0 ∷ 2 ∷ []))
    pub moment : T (nearer G moment_e (c.moment_error * 2 ^ 30) (2 ∷ 1 ∷ []) (0 ∷ 0 ∷ 3 ∷ [])
        (judge_in G (judge_all G [] (rule_parts along_s)) moment_s))
    pub moment_most : T (size_test G moment_e (c.moment_size * 2 ^ 20) (2 ∷ 1 ∷ []) (0 ∷ 0 ∷ 3 ∷ []))
    pub height : T (nearer G height_moment_e (c.height_error * 2 ^ 30) (1 ∷ 2 ∷ []) (0 ∷ 0 ∷ 3 ∷ [])
        (judge_in G (judge_all G [] (rule_parts height_s)) height_moment_s))
    pub height_most : T (size_test G height_moment_e (c.height_size * 2 ^ 20) (1 ∷ 2 ∷ []) (0 ∷ 0 ∷ 3 ∷ []))

  pub record QuotientsPass (t0 t1 t2 : Float) (v0 v1 v2 : Number) : Type 0 where
    pub along : T (nearer (quotients_of c t0 t1 t2 scale v0 v1 v2) (quotient_e 2) (c.along * 2 ^ 30) (1 ∷ []) []
        (judge (quotients_of c t0 t1 t2 scale v0 v1 v2) (quotient_t 1)))
    pub height : T (nearer (quotients_of c t0 t1 t2 scale v0 v1 v2) (quotient_e 4) (c.height * 2 ^ 30) (0 ∷ 1 ∷ []) []
        (judge (quotients_of c t0 t1 t2 scale v0 v1 v2) (quotient_t 2)))

abbrev one_chord : Chords
one_chord =
    record {
      chords = 1;
      area_error = 44;
      area_size = 1025;
      moment_error = 60;
      moment_size = 1025;
      height_error = 33;
      height_size = 513;
      along = 340;
      height = 170;
    }

abbrev two_chords : Chords
two_chords =
    record {
      chords = 2;
      area_error = 70;
      area_size = 1537;
      moment_error = 200;
      moment_size = 2903;
      height_error = 45;
      height_size = 855;
      along = 1400;
      height = 350;
    }

abbrev four_chords : Chords
four_chords =
    record {
      chords = 4;
      area_error = 130;
      area_size = 2561;
      moment_error = 700;
      moment_size = 9729;
      height_error = 110;
      height_size = 1537;
      along = 7000;
      height = 1200;
    }

module _ (root tip sweep span scale : Float) where
  one_sums : SumsPass one_chord root tip sweep span scale
  unfolding round of_bits nodes kronrod_weights
  one_sums = record { area = tt; area_most = tt; area_least = tt; moment = tt; moment_most = tt; height = tt; height_most = tt }

  two_sums : SumsPass two_chords root tip sweep span scale
  unfolding round of_bits nodes kronrod_weights
  two_sums = record { area = tt; area_most = tt; area_least = tt; moment = tt; moment_most = tt; height = tt; height_most = tt }

  four_sums : SumsPass four_chords root tip sweep span scale
  unfolding round of_bits nodes kronrod_weights
  four_sums = record { area = tt; area_most = tt; area_least = tt; moment = tt; moment_most = tt; height = tt; height_most = tt }

  module _ (t0 t1 t2 : Float) (v0 v1 v2 : Number) where
    one_quotients : QuotientsPass one_chord root tip sweep span scale t0 t1 t2 v0 v1 v2
    one_quotients = record { along = tt; height = tt }

    two_quotients : QuotientsPass two_chords root tip sweep span scale t0 t1 t2 v0 v1 v2
    two_quotients = record { along = tt; height = tt }

    four_quotients : QuotientsPass four_chords root tip sweep span scale t0 t1 t2 v0 v1 v2
    four_quotients = record { along = tt; height = tt }

-- ---- the inverse of a number above 0
pub inverse_pair : (v : Number) → NotBelow v → v times inverse_of v equals number 1 0 1
inverse_pair (number q m e) h = record { same = go (q - m) (split h) }
  where
    split : m ≤ q → q ≡ m + (q - m)
    split u = omega arith

    go : (w : ℕ) → q ≡ m + w → (q * e + m * 0) * 1 + 0 * (e * w) ≡ 1 * (e * w) + (q * 0 + m * e) * 1
    go w f = subst (λ (q : ℕ). (q * e + m * 0) * 1 + 0 * (e * w) ≡ 1 * (e * w) + (q * 0 + m * e) * 1) (sym f) (simp plain (omega arith))

-- ---- the quotient's exact value times 3·(root + tip); the numbers are root, tip, sweep, span, scale, 1 / scale and 1 / the area's sum
abbrev sum_x : Expression
sum_x = ratio 1 1 mul ((given 0 add given 1) mul given 3) mul (given 5 mul given 5)

abbrev quotient_x : Expression → Expression
quotient_x n = (given 4 mul (ratio 1 5 mul (given 3 mul n) mul (given 5 mul (given 5 mul given 5)))) mul given 6

abbrev times_thrice : Expression → Expression
times_thrice n = quotient_x n mul (ratio 3 0 mul (given 0 add given 1))

abbrev times_ones : Expression → Expression
times_ones n = n mul ((sum_x mul given 6) mul (given 4 mul given 5))

thrice_exact : (l : List Number) → AllNumbers l → (n : Expression) → T (vanishes (normal (times_thrice n take times_ones n)))
    → evaluate (among l) sum_x times among l 6 equals number 1 0 1 → among l 4 times among l 5 equals number 1 0 1
    → evaluate (among l) (times_thrice n) equals evaluate (among l) n
thrice_exact l il n t one two =
    let N = evaluate (among l) n in
    let a = evaluate (among l) (sum_x mul given 6) in
    let b = evaluate (among l) (given 4 mul given 5) in
    let i_n = evaluated_is l il n in
    let ia = evaluated_is l il (sum_x mul given 6) in
    let ib = evaluated_is l il (given 4 mul given 5) in
    trans (evaluated_is l il (times_ones n)) (equal_by l il (times_thrice n) (times_ones n) t)
    (trans (evaluated_is (N ∷ number 1 0 1 ∷ number 1 0 1 ∷ []) (i_n, (pow_pos 0, (pow_pos 0, tt))) (given 0 mul (given 1 mul given 2)))
    (evaluated_equal (N ∷ a ∷ b ∷ []) (N ∷ number 1 0 1 ∷ number 1 0 1 ∷ []) (i_n, (ia, (ib, tt))) (i_n, (pow_pos 0, (pow_pos 0, tt)))
    (itself, (one, (two, tt))) (given 0 mul (given 1 mul given 2)))
    (equal_by (N ∷ []) (i_n, tt) (given 0 mul (ratio 1 0 mul ratio 1 0)) (given 0) tt))

abbrev along_x : Expression
along_x = given 0 mul given 0 add given 0 mul given 1 add given 1 mul given 1 add given 2 mul (given 0 add ratio 2 0 mul given 1)

abbrev height_x : Expression
height_x = given 3 mul (given 0 add ratio 2 0 mul given 1)

-- tip and |sweep| are at most k root chords
pub record Ordinary (k : ℕ) (root tip span sweep scale : Float) : Type 0 where
  pub root_positive : T (positive root)
  pub span_positive : T (positive span)
  pub scale_positive : T (positive scale)
  pub tip_finite : T (finite tip)
  pub sweep_finite : T (finite sweep)
  pub tip_from_zero : NotBelow (value_of tip)
  pub tip_under : Under (k of size_of root) (value_of tip)
  pub sweep_under : Under (k of size_of root) (value_of sweep)
  pub ranges : Ranges 32 (size_of root)
  pub span_ranges : Ranges 32 (size_of span)
  pub scale_ranges : Ranges 32 (size_of scale)

module _ (c : Chords) (root tip sweep span scale : Float) (g : Ordinary c.chords root tip span sweep scale)
    (sums : (root tip sweep span scale : Float) → SumsPass c root tip sweep span scale) where
  pass : SumsPass c root tip sweep span scale
  pass = sums root tip sweep span scale

  abbrev bases : List Size
  bases = size_of root ∷ size_of span ∷ size_of scale ∷ []

  ranges : AllRanges 32 bases
  ranges = (g.ranges, (g.span_ranges, (g.scale_ranges, tt)))

  abbrev E : List Given
  E = entries_of root tip sweep span scale c.chords

  -- in the area no sweep stands: with a second tip in its place no length is below 0
  abbrev unswept : List Given
  unswept = entries_of root tip tip span scale c.chords

  chords_known : (x : Float) → T (finite x) → Under (c.chords of size_of root) (value_of x)
      → AllKnown bases (entries_of root tip x span scale c.chords)
  chords_known x f u =
      let t = many_entry bases 0 (num root) (den root) refl tip c.chords (den_pos root) g.tip_finite g.tip_under in
      let s = many_entry bases 0 (num root) (den root) refl x c.chords (den_pos root) f u in (
        own_entry bases 0 root refl g.root_positive,
        ((t, tt), ((s, tt), (own_entry bases 1 span refl g.span_positive, (own_entry bases 2 scale refl g.scale_positive, tt)))),
      )

  known : AllKnown bases E
  known = chords_known sweep g.sweep_finite g.sweep_under

  signed : Signed unswept
  signed = (
    positive_from root g.root_positive,
    (g.tip_from_zero, (g.tip_from_zero, (positive_from span g.span_positive, (positive_from scale g.scale_positive, tt)))),
  )

  abbrev low : Float
  low = bits 0 ⊘ scale

  abbrev high : Float
  high = span ⊘ scale

  abbrev pub total : ℕ → Float
  total k = bits 0 ⊕ (bits 0 ⊕ half_width low high ⊗ sum_of kronrod_weight
      (λ h. three_values root tip sweep (h ⊗ scale ⊘ span) scale h) low high k)

  abbrev numbers : ℕ → Number
  numbers = numbers_of E

  near0 : Near (total 0) (evaluate numbers area_e) ((c.area_error * 2 ^ 30) roundoffs unit_by bases (1 ∷ 1 ∷ []) (0 ∷ 0 ∷ 2 ∷ []))
  unfolding weighted_to
  near0 = all_within bases ranges E known (rule_parts width_s) area_s area_e (c.area_error * 2 ^ 30) (1 ∷ 1 ∷ []) (0 ∷ 0 ∷ 2 ∷ [])
      pass.area

  near1 : Near (total 1) (evaluate numbers moment_e) ((c.moment_error * 2 ^ 30) roundoffs unit_by bases (2 ∷ 1 ∷ []) (0 ∷ 0 ∷ 3 ∷ []))
  unfolding weighted_to
  near1 = all_within bases ranges E known (rule_parts along_s) moment_s moment_e (c.moment_error * 2 ^ 30) (2 ∷ 1 ∷ []) (0 ∷ 0 ∷ 3 ∷ [])
      pass.moment

  near2 : Near (total 2) (evaluate numbers height_moment_e)
      ((c.height_error * 2 ^ 30) roundoffs unit_by bases (1 ∷ 2 ∷ []) (0 ∷ 0 ∷ 3 ∷ []))
  unfolding weighted_to
  near2 = all_within bases ranges E known (rule_parts height_s) height_moment_s height_moment_e (c.height_error * 2 ^ 30) (1 ∷ 2 ∷ [])
      (0 ∷ 0 ∷ 3 ∷ [])
      pass.height

  -- ---- the quotients
  abbrev Q : List Given
  Q = quotients_of c (total 0) (total 1) (total 2) scale (evaluate numbers area_e) (evaluate numbers moment_e)
      (evaluate numbers height_moment_e)

  low_known : Lowest bases (total 0) (evaluate numbers area_e)
      (shape (c.area_error * 2 ^ 30) (c.area_size * 2 ^ 20) (1 ∷ 1 ∷ []) (0 ∷ 0 ∷ 2 ∷ [])) (2 ^ 29 - 2 ^ 10)
  low_known =
      target_lowest bases ranges unswept (chords_known tip g.tip_finite g.tip_under) signed (total 0) area_e
      (c.area_error * 2 ^ 30) (c.area_size * 2 ^ 20) (2 ^ 29 - 2 ^ 10 - 1) (1 ∷ 1 ∷ []) (0 ∷ 0 ∷ 2 ∷ []) near0
      (sums root tip tip span scale).area_least

  quotients_known : AllKnown bases Q
  quotients_known =
      let k0 = target_known bases ranges E known (total 0) area_e (c.area_error * 2 ^ 30) (c.area_size * 2 ^ 20) (1 ∷ 1 ∷ [])
      (0 ∷ 0 ∷ 2 ∷ []) near0
      pass.area_most in
      let k1 = target_known bases ranges E known (total 1) moment_e (c.moment_error * 2 ^ 30) (c.moment_size * 2 ^ 20) (2 ∷ 1 ∷ [])
      (0 ∷ 0 ∷ 3 ∷ []) near1
      pass.moment_most in
      let k2 = target_known bases ranges E known (total 2) height_moment_e (c.height_error * 2 ^ 30) (c.height_size * 2 ^ 20) (1 ∷ 2 ∷ [])
      (0 ∷ 0 ∷ 3 ∷ [])
      near2 pass.height_most in
      ((k0, low_known), ((k1, tt), ((k2, tt), (own_entry bases 2 scale refl g.scale_positive, tt))))

  module _ (quotients : QuotientsPass c root tip sweep span scale (total 0) (total 1) (total 2) (evaluate numbers area_e)
      (evaluate numbers moment_e)
      (evaluate numbers height_moment_e)) where
    abbrev Mx : Number
    Mx = (value_of scale times evaluate numbers moment_e) times inverse_of (evaluate numbers area_e)

    abbrev My : Number
    My = (value_of scale times evaluate numbers height_moment_e) times inverse_of (evaluate numbers area_e)

    x_near : Near (scale ⊗ total 1 ⊘ total 0) Mx ((c.along * 2 ^ 30) roundoffs unit_by bases (1 ∷ []) [])
    x_near = near_within bases ranges Q quotients_known (quotient_t 1) (quotient_e 2) (c.along * 2 ^ 30) (1 ∷ []) [] quotients.along

    y_near : Near (scale ⊗ total 2 ⊘ total 0) My ((c.height * 2 ^ 30) roundoffs unit_by bases (0 ∷ 1 ∷ []) [])
    y_near = near_within bases ranges Q quotients_known (quotient_t 2) (quotient_e 4) (c.height * 2 ^ 30) (0 ∷ 1 ∷ []) []
        quotients.height

    in_roots : (P : Size → Type 0) → P (unit_by bases (1 ∷ []) []) → P (num root per (den root * 2 ^ 30))
    in_roots P h =
        subst (λ (k : ℕ). P (num root per (k * 2 ^ 30))) (one (den root))
        (subst (λ (k : ℕ). P (k per (den root ^ 1 * 1 * 1 * 2 ^ 30))) (one (num root)) h)
      where
        one : (x : ℕ) → x ^ 1 * 1 * 1 ≡ x
        one x = rw (first_power x) (simp plain)

    in_spans : (P : Size → Type 0) → P (unit_by bases (0 ∷ 1 ∷ []) []) → P (num span per (den span * 2 ^ 30))
    in_spans P h =
        subst (λ (k : ℕ). P (num span per (k * 2 ^ 30))) (one (den root) (den span))
        (subst (λ (k : ℕ). P (k per (den root ^ 0 * (den span ^ 1 * 1) * 1 * 2 ^ 30))) (one (num root) (num span)) h)
      where
        one : (r x : ℕ) → r ^ 0 * (x ^ 1 * 1) * 1 ≡ x
        one r x = rw (pow-zero r, first_power x) (simp plain)

    -- ---- exactly
    abbrev σ : Number
    σ = inverse_of (value_of scale)

    abbrev v : Number
    v = inverse_of (evaluate numbers area_e)

    abbrev l : List Number
    l = value_of root ∷ value_of tip ∷ value_of sweep ∷ value_of span ∷ value_of scale ∷ σ ∷ v ∷ []

    il : AllNumbers l
    il =
        let v = Counts.value_is in
        let σ-is = numbers_are bases ranges E known 9 in
        let v_is = numbers_are bases ranges Q quotients_known 1 in
        (v root, (v tip, (v sweep, (v span, (v scale, (σ-is, (v_is, tt)))))))

    unit_low : NotBelow (evaluate numbers area_e)
    unit_low = from_low (2 ^ 29 - 2 ^ 10) (mono top bases (1 ∷ 1 ∷ []) * mono bottom bases (0 ∷ 0 ∷ 2 ∷ []))
        (mono bottom bases (1 ∷ 1 ∷ []) * mono top bases (0 ∷ 0 ∷ 2 ∷ []) * 2 ^ 30) (evaluate numbers area_e)
        (unit_real bases ranges (1 ∷ 1 ∷ []) (0 ∷ 0 ∷ 2 ∷ [])) low_known.1

    rf : T (finite root)
    rf = positive-finite root g.root_positive

    -- ---- in fractions
    abbrev thrice_x : Expression
    thrice_x = ratio 3 0 mul (given 0 add given 1)

    abbrev lengths : List Number
    lengths = value_of root ∷ value_of tip ∷ value_of sweep ∷ value_of span ∷ []

    in_fractions : (e : Expression) → IsFraction (evaluate (among lengths) e)
        (fraction_in (among_fractions (fraction_of root ∷ fraction_of tip ∷ fraction_of sweep ∷ fraction_of span ∷ [])) e)
    in_fractions = expression_fraction lengths (fraction_of root ∷ fraction_of tip ∷ fraction_of sweep ∷ fraction_of span ∷ []) (
      value_fraction root rf,
      (
        value_fraction tip g.tip_finite,
        (value_fraction sweep g.sweep_finite, (value_fraction span (positive-finite span g.span_positive), tt)),
      ),
    )

    thrice_from_zero : NotBelow (evaluate (among l) thrice_x)
    thrice_from_zero = times_not_below (number 3 0 1) (value_of root plus value_of tip) zero-le
        (both (value_of root) (value_of tip) (positive_from root g.root_positive) g.tip_from_zero)
      where
        both : (x y : Number) → NotBelow x → NotBelow y → NotBelow (x plus y)
        both (number p n d) (number q m e) h k = add-le-add (mul-le-mul_right e h) (mul-le-mul_right d k)

    -- a quotient near what n over 3·(root + tip) is exactly, within K roundoffs of the size of z
    finish : (z : Float) → T (positive z) → (x : Float) (n : Expression) (K : ℕ) (f : Fraction)
        → T (vanishes (normal (times_thrice n take times_ones n))) → IsFraction (evaluate (among l) n) f
        → Near x (evaluate (among l) (quotient_x n)) ((K * 2 ^ 30) roundoffs (num z per (den z * 2 ^ 30)))
        → Apart (product (product (pos K over 2 ^ 53) (fraction_of z)) (thrice root tip)) (product (fraction_of x) (thrice root tip)) f
    finish z zp x n K f t h near =
        by_size x z zp (evaluate (among l) (quotient_x n)) (evaluate (among l) thrice_x) (evaluate (among l) n) K (thrice root tip) f
        (evaluated_is l il (quotient_x n)) (evaluated_is l il thrice_x) (evaluated_is l il n) thrice_from_zero (in_fractions thrice_x) h
        near
        (thrice_exact l il n t (inverse_pair (evaluate numbers area_e) unit_low)
        (inverse_pair (value_of scale) (positive_from scale g.scale_positive)))

    pub along_near : Apart (product (product (pos c.along over 2 ^ 53) (fraction_of root)) (thrice root tip))
        (product (fraction_of (scale ⊗ total 1 ⊘ total 0)) (thrice root tip)) (along_root root tip sweep)
    along_near = finish root g.root_positive (scale ⊗ total 1 ⊘ total 0) along_x c.along (along_root root tip sweep) tt
        (in_fractions along_x) (in_roots (λ U. Near (scale ⊗ total 1 ⊘ total 0) Mx ((c.along * 2 ^ 30) roundoffs U)) x_near)

    pub height_near : Apart (product (product (pos c.height over 2 ^ 53) (fraction_of span)) (thrice root tip))
        (product (fraction_of (scale ⊗ total 2 ⊘ total 0)) (thrice root tip)) (in_height root tip span)
    height_near = finish span g.span_positive (scale ⊗ total 2 ⊘ total 0) height_x c.height (in_height root tip span) tt
        (in_fractions height_x) (in_spans (λ U. Near (scale ⊗ total 2 ⊘ total 0) My ((c.height * 2 ^ 30) roundoffs U)) y_near)

-- ---- the call
module _ (c : Chords) (sums : (root tip sweep span scale : Float) → SumsPass c root tip sweep span scale)
    (quotients : (root tip sweep span scale t0 t1 t2 : Float) (v0 v1 v2 : Number)
    → QuotientsPass c root tip sweep span scale t0 t1 t2 v0 v1 v2) where
  chords_under : (root x : Float) → AtMost (c.chords * num root) (den root) x → Under (c.chords of size_of root) (value_of x)
  chords_under root x h =
      subst (λ (n : ℕ). Under (n per den root) (value_of x)) (one-mul (c.chords * num root))
      (most_under x (c.chords * num root) (den root) h)

  module _ (root tip span sweep : Float) (points : List Float) (L : ℕ) (start : List Float) (r : Area) (exit : List Float)
      (g : AreaGiven root tip span sweep points L start r exit)
      (q : AtMost (c.chords * num root) (den root) tip × AtMost (c.chords * num root) (den root) sweep)
      (one : InOnePiece root tip sweep r.intervals) where
    abbrev Shape : Planform
    Shape = Trapezoid root tip span sweep

    abbrev S : Float
    S = scale_of Shape points

    lengths_sized : Sized Shape points
    lengths_sized = sized root tip span sweep points L start r exit g

    scaled : Scale S
    scaled = scale_sized Shape points lengths_sized

    long : (x : Float) → PositiveLength x → T (positive x) × Ranges 32 (size_of x)
    long x h = (
      positive_of x 20 h.not_minus h.above,
      wider 24 (size_of x) (omega arith) (ranges_of x 6 20 (omega arith) (omega arith) h.length.below h.above),
    )

    ordinary : Ordinary c.chords root tip span sweep S
    ordinary =
        record {
          root_positive = (long root lengths_sized.0).0;
          span_positive = (long span lengths_sized.1.1.0).0;
          scale_positive = scaled.is_positive;
          tip_finite = q.0.finite;
          sweep_finite = q.1.finite;
          tip_from_zero = not_below tip q.0.finite
              (tip_checked root tip span sweep points g.f64s.1.0
              (area_planform Shape points L (length start) (figures_given root tip span sweep points L start r exit g).accepted));
          tip_under = chords_under root tip q.0;
          sweep_under = chords_under root sweep q.1;
          ranges = (long root lengths_sized.0).1;
          span_ranges = (long span lengths_sized.1.1.0).1;
          scale_ranges = wider 24 (size_of S) (omega arith) (ranges_of S 7 20 (omega arith) (omega arith) scaled.below scaled.above);
        }

    abbrev T' : ℕ → Float
    T' k = total c root tip sweep span S ordinary sums k

    value_at_lem : (k : ℕ) → k < 3
        → S ⊗ value_from (bits 0) k (area_seven Shape points L) ⊘ value_from (bits 0) 0 (area_seven Shape points L) ≡ S ⊗ T' k ⊘ T' 0
    value_at_lem k l = rw (
      total_at_lem root tip span sweep points L start r exit g one k l,
      total_at_lem root tip span sweep points L start r exit g one 0 (lit≤ tt),
    )

    pub both_near :
        Apart (product (product (pos c.along over 2 ^ 53) (fraction_of root)) (thrice root tip))
        (product (fraction_of r.centroid_x_m) (thrice root tip)) (along_root root tip sweep)
        × Apart (product (product (pos c.height over 2 ^ 53) (fraction_of span)) (thrice root tip))
        (product (fraction_of r.centroid_span_m) (thrice root tip)) (in_height root tip span)
    both_near =
        let pass = quotients root tip sweep span S (T' 0) (T' 1) (T' 2) _ _ _ in (
          subst (λ (z : Float). Apart (product (product (pos c.along over 2 ^ 53) (fraction_of root)) (thrice root tip))
              (product (fraction_of z) (thrice root tip)) (along_root root tip sweep))
              (sym ((figures_given root tip span sweep points L start r exit g).centroid_x ∙ value_at_lem 1 (lit≤ tt)))
              (along_near c root tip sweep span S ordinary sums pass),
          subst (λ (z : Float). Apart (product (product (pos c.height over 2 ^ 53) (fraction_of span)) (thrice root tip))
              (product (fraction_of z) (thrice root tip)) (in_height root tip span))
              (sym ((figures_given root tip span sweep points L start r exit g).centroid_height ∙ value_at_lem 2 (lit≤ tt)))
              (height_near c root tip sweep span S ordinary sums pass),
        )

pub ordinary_centroid : OrdinaryCentroid 1 340 170 × (OrdinaryCentroid 2 1400 350 × OrdinaryCentroid 4 7000 1200)
ordinary_centroid = (
  both_near one_chord one_sums one_quotients,
  (both_near two_chords two_sums two_quotients, both_near four_chords four_sums four_quotients),
)
