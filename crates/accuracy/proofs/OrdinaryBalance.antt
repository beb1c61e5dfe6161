-- The balance point along the axis of a set that one piece is enough for, of square or airfoil section, with a tab or none and no cant:
-- near the exact one by computed bounds, from the volume and the moment of proofs/SevenIntegrals. Assumes nothing.
use Rattle.std.specs.Prelude.{Ok, Option, Some, None}
use Rattle.rounding_error.proofs.Polynomials.{◌equals◌, trans, itself, times_is, equal_by, evaluated_is, evaluated_equal, AllNumbers}
use Rattle.rounding_error.proofs.Polynomials.{Expression, given, ratio, ◌add◌, ◌mul◌}
use Rattle.rounding_error.proofs.Distances.{within_upto, sorted, within_minus}
use Rattle.accuracy.proofs.Limits.{most_under}
use mathlib.Core.Path.{◌≡◌, refl, sym, ap, ◌∙◌, subst}
use mathlib.Core.Bool.{Bool, true, false}
use mathlib.Core.List.{List, [], ◌∷◌}
use mathlib.Core.Logic.{◌⊎◌, inl, inr}
use Prim.Native.Nat.{ℕ, suc, ◌+◌, ◌*◌, ◌^◌, ◌≤◌, ◌<◌, zero-le}
use native.Mathlib.Nat.{le_trans, le_of_eq, mul-pos, mul-le-mul_right, le_of_mul-le-mul_right, one-mul, mul-one, zero-mul, mul-zero}
use native.Mathlib.Nat.{zero-add, add-zero}
use native.Mathlib.Omega.{arith}
use lib.Dec.{T, leb, leb→le, lit≤}
use lib.ListN.{length}
use lib.Pow.{pow-add, pow_pos}
use lib.IntN.{pos}
use lib.Ieee.{Float, binary64, nan, inf, fin, up, down, neg, eq, fits, round, of_bits}
use lib.Ieee.Scale.{finite}
use lib.Ieee.Positive.{num, den, positive}
use Rattle.floats.specs.Operations.{◌⊕◌, ◌⊖◌, ◌⊗◌, ◌⊘◌, bits, at}
use Rattle.floats.specs.Constants.{one, half}
use Rattle.floats.specs.Floats.{cube, fourth}
use Rattle.floats.specs.Fractions.{Fraction, ◌over◌, ◌plus◌ as sum, minus as negated_fraction, ◌times◌ as product, value_of as fraction_of}
use Rattle.rounding.specs.Sizes.{AtMost, Below, Above}
use Rattle.rounding.proofs.Signs.{neg_finite}
use Rattle.rounding.proofs.Sizes.{weaker, zero_below, half_below, mul_below, add_below, sub_below, div_below}
use Rattle.rounding_error.specs.Distances.{Within as Apart}
use Rattle.rounding_error.proofs.Numbers.{Number, number, Size, ◌per◌, ◌of◌, ◌roundoffs◌, ◌plus◌, minus, ◌times◌, IsNumber, Within, Near}
use Rattle.rounding_error.proofs.Numbers.{Ranges, value_of, zero_number, size_of}
use Rattle.rounding_error.proofs.Operations.{neg_value}
use Rattle.rounding_error.proofs.Counts as Counts
use Rattle.rounding_error.proofs.Chains.{Valued}
use Rattle.rounding_error.proofs.Fractions.{IsFraction, minus_fraction, times_fraction, whole_fraction}
use Rattle.error_terms.proofs.Laws.{inverse_of, Reaches}
use Rattle.error_terms.proofs.Monomials.{place, added, mono, top, bottom, AllRanges, top_pos, ranges_of as ranges_by_units}
use Rattle.error_terms.proofs.Terms.{Shape, shape, Given, entry, Term, var, const, ◌add◌ as ◌add_t◌, ◌mul◌ as ◌mul_t◌, ◌over◌ as ◌over_t◌}
use Rattle.error_terms.proofs.Terms.{Known, Lowest, AllKnown, unit_by}
use Rattle.error_terms.proofs.Sound.{unit_real, numbers_are}
use Rattle.error_terms.proofs.Judged.{judge, nearer, near_within}
use Rattle.error_terms.proofs.Stages.{size_test, target_known}
use Rattle.error_terms.proofs.Entries.{full}
use Rattle.error_terms.proofs.Orders.{near_above, finer}
use Rattle.error_terms.proofs.Floors.{NotBelow, not_below as from_low, positive_from, times_not_below as not_below_times}
use Rattle.sorting.specs.Sorted.{Each}
use Rattle.limits.specs.Limits.{base_angle_field, angle_check}
use Rattle.limits.proofs.Lengths.{PositiveLength, Height}
use Rattle.planforms.specs.declared.Planform.TheVariants.{Trapezoid}
use Rattle.planforms.proofs.Sized.{Sized}
use Rattle.sections.specs.declared.Section.{Section}
use Rattle.integrands.specs.Integrands.{plate_integrand, sample_of, plate_of}
use Rattle.integrands.proofs.Scales.{Scale}
use Rattle.integrands.proofs.Samples.{sample_below}
use Rattle.quadrature.proofs.Values.{value_below}
use Rattle.strips.specs.Strips.{value_from}
use Rattle.bodies.specs.declared.Body.{Body}
use Rattle.bodies.specs.Bodies.{of_origin_tensor}
use Rattle.joins.specs.Joins.{in_order}
use Rattle.rings.specs.Rings.{joined_copies}
use Rattle.fins.specs.declared.FinTab.{FinTab}
use Rattle.fins.specs.Fins.{tab_check}
use Rattle.fins.proofs.Accepted.{AcceptedSet, set_count}
use Rattle.plates.specs.Integrals.{volume, r1, x1, first_moment, tab_integrals_of}
use Rattle.plates.specs.Plates.{plate_body}
use Rattle.figures.specs.Figures.{set_strips}
use Rattle.figures.specs.declared.Figures.{Figures}
use Rattle.one_piece.specs.OnePiece.{NotRounded}
use Rattle.accuracy.specs.Masses.{Plate, Mount, set_with, SectionGiven, OneStrip, fin_volume, tab_volume, filled, exact_mass}
use Rattle.accuracy.specs.Balances.{fin_moment, tab_moment, exact_moment, TabGiven, by_tab, OrdinaryBalance}
use Rattle.accuracy.specs.Inertias.{Integrals, tab_integrals, TabBeside}
use Rattle.accuracy.proofs.SetCalled as Called
use Rattle.accuracy.proofs.SetCalled.{set_body}
use Rattle.accuracy.proofs.Turned.{across_at, ring_centre, across_naught}
use Rattle.accuracy.proofs.RingSums.{unit_range, count_reaches, sums_known}
use Rattle.accuracy.proofs.OrdinaryCentroid.{inverse_pair}
use Rattle.accuracy.proofs.ToFractions.{by_size, first_power}
use Rattle.accuracy.proofs.SevenIntegrals.{Fin, Class, near, far, wide, tips_in, sweeps_in, spans_in, Sizes, is_foil, unit_of, shape_at}
use Rattle.accuracy.proofs.SevenIntegrals.{error_in, less_parts, least_parts, mass_unit, mass_shape, mass_list, each_class, bases, exactly}
use Rattle.accuracy.proofs.SevenIntegrals.{is_exactly, integral_at, total_at, seven_known, volume_lowest, volume_from_zero}
use Rattle.accuracy.proofs.SevenIntegrals.{density_own, mass_of, mass_number, masses, mass_known, mass_lowest}
use Rattle.accuracy.proofs.FinCalled as Fins

ruleset plain = (sorted, one-mul, mul-one, zero-mul, mul-zero, zero-add, add-zero)

times_minus : (x y : Number) → x times minus y ≡ minus (x times y)
times_minus (number p n d) (number q m e) = refl

-- ---- a zero, and a negative
naught_known : (B : List Size) → AllRanges 32 B → (x : Float) → AtMost 0 1 x → (p : List ℕ) → Known B x zero_number (shape 0 0 p [])
naught_known B r x h p =
    record {
      near = record {
        finite = h.finite;
        within = within_upto (1 of (0 per 1)) (0 roundoffs unit_by B p []) (value_of x) zero_number (pow_pos 0)
            (none (mono top B p * mono bottom B []) (mono bottom B p * mono top B [] * 2 ^ 30 * 2 ^ 53)) (most_under x 0 1 h);
      };
      size = record { below = omega arith; above = omega arith };
      is = pow_pos 0;
    }
  where
    none : (X C : ℕ) → 1 * 0 * C ≤ 0 * X * 1
    none X C = omega arith

pub minus_is : (v : Number) → IsNumber v → IsNumber (minus v)
minus_is (number p n d) h = h

pub neg_known : {x : Float} {v : Number} {k j : ℕ} (U : Size) → Valued x v k j U → Valued (neg x) (minus v) k j U
neg_known {x = x} {v = v} {k = k} {j = j} U h =
    record {
      near = record {
        finite = subst (λ (b : Bool). T b) (sym (neg_finite x)) h.near.finite;
        within = subst (λ (a : Number). Within (k roundoffs U) a (minus v)) (sym (neg_value x))
            (within_minus (k roundoffs U) (value_of x) v h.near.within);
      };
      size = within_minus (j of U) v zero_number h.size;
      is = minus_is v h.is;
    }

-- ---- the ring: the terms of its sums, the sums and their quotient, in the units of proofs/SevenIntegrals and of how many fins there are
abbrev term_unit : List ℕ
term_unit = 2 ∷ 1 ∷ 0 ∷ 1 ∷ 0 ∷ 1 ∷ []

-- errors in roundoffs and sizes in 1024ths of the units
abbrev mass_size : Class → Option FinTab → ℕ
mass_size near tab = by_tab 1026 2052 tab
mass_size far tab = by_tab 1026 2052 tab
mass_size wide tab = by_tab 1539 5650 tab

abbrev term_size : Class → Option FinTab → ℕ
term_size near tab = by_tab 1026 2564 tab
term_size far tab = by_tab 2562 4100 tab
term_size wide tab = by_tab 8026 14180 tab

abbrev term_error : Class → Option FinTab → ℕ
term_error near tab = by_tab 487 2940 tab
term_error far tab = by_tab 1900 7010 tab
term_error wide tab = by_tab 13040 119500 tab

abbrev balance_error : Class → Option FinTab → ℕ
balance_error near tab = by_tab 2100 11000 tab
balance_error far tab = by_tab 8100 26000 tab
balance_error wide tab = by_tab 52000 388000 tab

-- volume, the moment's negative, density and a zero
abbrev term_list : Class → Bool → Option FinTab → (v x : Float) → (V₀ X₀ : Number) → (density naught : Float) → List Given
term_list c foil tab v x V₀ X₀ density naught =
    entry v V₀ (shape_at c foil tab 0) (least_parts foil) ∷
    entry x X₀ (shape_at c foil tab 3) 0 ∷
    entry density (value_of density) (shape 0 full (place 5) []) full ∷
    entry naught zero_number (shape 0 0 (place 0) []) 0 ∷
    []

abbrev term_t : Term
term_t = (var 3 add_t (const one mul_t (var 1 over_t 0))) mul_t (var 2 mul_t var 0)

-- the zero stands in it, and what cancels does too
abbrev term_e : Expression
term_e = (given 6 add (given 2 mul given 1)) mul (given 4 mul given 0)

-- of up to 32 terms
abbrev sum_error : ℕ → ℕ → ℕ
sum_error K size = K + 33 * (size * 2 ^ 19) + 2

abbrev masses_shape : Class → Bool → Option FinTab → Shape
masses_shape c foil tab =
    shape (sum_error (error_in (mass_shape c foil tab)) (mass_size c tab)) (mass_size c tab * 2 ^ 20) (added mass_unit (place 6)) []

abbrev terms_shape : Class → Option FinTab → Shape
terms_shape c tab =
    shape (sum_error (term_error c tab * 2 ^ 30) (term_size c tab)) (term_size c tab * 2 ^ 20) (added term_unit (place 6)) []

abbrev ring_list : Class → Bool → Option FinTab → (m t : Float) → (M₀ T₀ : Number) → List Given
ring_list c foil tab m t M₀ T₀ = entry m M₀ (masses_shape c foil tab) (least_parts foil) ∷ entry t T₀ (terms_shape c tab) 0 ∷ []

module _ (v x : Float) (V₀ X₀ : Number) (density naught m t : Float) (M₀ T₀ : Number) where
  pub record RingPass (c : Class) (foil : Bool) (tab : Option FinTab) : Type 0 where
    pub mass_most : T (size_test (mass_list c foil tab v V₀ density) (given 2 mul given 0) (mass_size c tab * 2 ^ 20) mass_unit [])
    pub mass_few : T (leb (error_in (mass_shape c foil tab)) (2 ^ 47))
    pub term : T (nearer (term_list c foil tab v x V₀ X₀ density naught) term_e (term_error c tab * 2 ^ 30) term_unit []
        (judge (term_list c foil tab v x V₀ X₀ density naught) term_t))
    pub term_most : T (size_test (term_list c foil tab v x V₀ X₀ density naught) term_e (term_size c tab * 2 ^ 20) term_unit [])
    pub quotient : T (nearer (ring_list c foil tab m t M₀ T₀) (given 2 mul given 1) (balance_error c tab * 2 ^ 30) (1 ∷ []) []
        (judge (ring_list c foil tab m t M₀ T₀) (var 1 over_t 0)))

  ring_pass : (c : Class) (foil : Bool) (tab : Option FinTab) → RingPass c foil tab
  unfolding round of_bits
  ring_pass near false None = record { mass_most = tt; mass_few = tt; term = tt; term_most = tt; quotient = tt }
  ring_pass near false (Some t) = record { mass_most = tt; mass_few = tt; term = tt; term_most = tt; quotient = tt }
  ring_pass near true None = record { mass_most = tt; mass_few = tt; term = tt; term_most = tt; quotient = tt }
  ring_pass near true (Some t) = record { mass_most = tt; mass_few = tt; term = tt; term_most = tt; quotient = tt }
  ring_pass far false None = record { mass_most = tt; mass_few = tt; term = tt; term_most = tt; quotient = tt }
  ring_pass far false (Some t) = record { mass_most = tt; mass_few = tt; term = tt; term_most = tt; quotient = tt }
  ring_pass far true None = record { mass_most = tt; mass_few = tt; term = tt; term_most = tt; quotient = tt }
  ring_pass far true (Some t) = record { mass_most = tt; mass_few = tt; term = tt; term_most = tt; quotient = tt }
  ring_pass wide false None = record { mass_most = tt; mass_few = tt; term = tt; term_most = tt; quotient = tt }
  ring_pass wide false (Some t) = record { mass_most = tt; mass_few = tt; term = tt; term_most = tt; quotient = tt }
  ring_pass wide true None = record { mass_most = tt; mass_few = tt; term = tt; term_most = tt; quotient = tt }
  ring_pass wide true (Some t) = record { mass_most = tt; mass_few = tt; term = tt; term_most = tt; quotient = tt }

terms_few : (c : Class) (tab : Option FinTab) → (term_error c tab * 2 ^ 30 ≤ 2 ^ 47) × (term_size c tab * 2 ^ 19 ≤ 2 ^ 34)
terms_few c tab = each_class (λ c foil tab. (term_error c tab * 2 ^ 30 ≤ 2 ^ 47) × (term_size c tab * 2 ^ 19 ≤ 2 ^ 34))
    (lit≤ tt, lit≤ tt) (lit≤ tt, lit≤ tt) (lit≤ tt, lit≤ tt) (lit≤ tt, lit≤ tt) (lit≤ tt, lit≤ tt) (lit≤ tt, lit≤ tt)
    (λ t. (lit≤ tt, lit≤ tt)) (λ t. (lit≤ tt, lit≤ tt)) (λ t. (lit≤ tt, lit≤ tt)) (λ t. (lit≤ tt, lit≤ tt))
    (λ t. (lit≤ tt, lit≤ tt)) (λ t. (lit≤ tt, lit≤ tt)) c false tab

masses_few : (c : Class) (tab : Option FinTab) → mass_size c tab * 2 ^ 19 ≤ 2 ^ 34
masses_few c tab = each_class (λ c foil tab. mass_size c tab * 2 ^ 19 ≤ 2 ^ 34) (lit≤ tt) (lit≤ tt) (lit≤ tt) (lit≤ tt) (lit≤ tt) (lit≤ tt)
    (λ t. lit≤ tt) (λ t. lit≤ tt) (λ t. lit≤ tt) (λ t. lit≤ tt) (λ t. lit≤ tt) (λ t. lit≤ tt) c false tab

module _ (f : Fin) (c : Class) (b d : ℕ) (g : Sizes f c b d) (n : ℕ) (some : 1 ≤ n) (few : n ≤ 32) (naught : ℕ → Float)
    (naughts : (k : ℕ) → k < n → AtMost 0 1 (naught k)) where
  abbrev B : List Size
  B = size_of f.root ∷ size_of f.span ∷ size_of f.scale ∷ size_of f.thickness ∷ (b per d) ∷ size_of f.density ∷ (n per 1) ∷ []

  ranges : AllRanges 32 B
  ranges =
      let count : Ranges 32 (n per 1) = record { real = pow_pos 0; least = low n some; most = high n few } in
      let (a, (b, (c, (d, (e, (h, rest)))))) = g.ranges in
      (a, (b, (c, (d, (e, (h, (count, tt)))))))
    where
      low : (n : ℕ) → 1 ≤ n → 1 ≤ n * 2 ^ 32
      low n h = omega arith

      high : (n : ℕ) → n ≤ 32 → n ≤ 1 * 2 ^ 32
      high n h = omega arith

  abbrev is_airfoil : Bool
  is_airfoil = is_foil f.section

  abbrev volume_at : Float
  volume_at = integral_at f 0

  abbrev behind_at : Float
  behind_at = neg (integral_at f 3)

  abbrev pub V₀ : Number
  V₀ = exactly f 0

  abbrev pub X₀ : Number
  X₀ = exactly f 3

  abbrev W₀ : Number
  W₀ = mass_number f c b d g

  abbrev pass : (naught m t : Float) (M₀ T₀ : Number)
      → RingPass volume_at behind_at V₀ (minus X₀) f.density naught m t M₀ T₀ c is_airfoil f.tab
  pass naught m t M₀ T₀ = ring_pass volume_at behind_at V₀ (minus X₀) f.density naught m t M₀ T₀ c is_airfoil f.tab

  volume_known : Known B volume_at V₀ (shape_at c is_airfoil f.tab 0) × Lowest B volume_at V₀ (shape_at c is_airfoil f.tab 0) (least_parts
      is_airfoil)
  volume_known = (seven_known f c b d g 0 (lit≤ tt) tt, volume_lowest f c b d g)

  density_known_lem : Known B f.density (value_of f.density) (shape 0 full (place 5) [])
      × Lowest B f.density (value_of f.density) (shape 0 full (place 5) []) full
  density_known_lem = density_own f c b d g

  -- ---- the masses
  abbrev mass_l : List Given
  mass_l = masses f c b d g

  mass_target : Known B (mass_of f c b d g) W₀ (shape (error_in (mass_shape c is_airfoil f.tab)) (mass_size c f.tab * 2 ^ 20) mass_unit [])
  mass_target = target_known B ranges mass_l (volume_known, (density_known_lem, tt)) (mass_of f c b d g) (given 2 mul given 0)
      (error_in (mass_shape c is_airfoil f.tab)) (mass_size c f.tab * 2 ^ 20) mass_unit [] (mass_known f c b d g).near
      (pass (bits 0) (bits 0) (bits 0) zero_number zero_number).mass_most

  abbrev pub mass_sum : Float
  mass_sum = in_order (λ x y. x ⊕ y) (bits 0) (λ k. mass_of f c b d g) n

  abbrev pub M₀ : Number
  M₀ = number n 0 1 times W₀

  masses_known : Known B mass_sum M₀ (masses_shape c is_airfoil f.tab)
  masses_known =
      sums_known B ranges n refl few mass_unit (unit_range B ranges mass_unit tt) W₀ (error_in (mass_shape c is_airfoil f.tab)) (mass_size c
      f.tab)
      (leb→le (error_in (mass_shape c is_airfoil f.tab)) (2 ^ 47) (pass (bits 0) (bits 0) (bits 0) zero_number zero_number).mass_few)
      (masses_few c f.tab) (λ k. mass_of f c b d g) mass_target.is (λ k h. mass_target)

  -- ---- the moments
  abbrev pub term_of : ℕ → Float
  term_of k = (naught k ⊕ one ⊗ (behind_at ⊘ volume_at)) ⊗ mass_of f c b d g

  abbrev Q₀ : Number
  Q₀ = (zero_number plus (minus X₀ times inverse_of V₀)) times (value_of f.density times V₀)

  abbrev term_l : ℕ → List Given
  term_l k = term_list c is_airfoil f.tab volume_at behind_at V₀ (minus X₀) f.density (naught k)

  behind_known : Known B behind_at (minus X₀) (shape_at c is_airfoil f.tab 3)
  behind_known = neg_known (unit_by B (unit_of 3) []) (seven_known f c b d g 3 (lit≤ tt) tt)

  term_known : (k : ℕ) → k < n → AllKnown B (term_l k)
  term_known k h =
      (volume_known, ((behind_known, tt), (density_known_lem, ((naught_known B ranges (naught k) (naughts k h) (place 0), tt), tt))))

  term_target : (k : ℕ) → k < n → Known B (term_of k) Q₀ (shape (term_error c f.tab * 2 ^ 30) (term_size c f.tab * 2 ^ 20) term_unit [])
  term_target k h =
      let r = pass (naught k) (bits 0) (bits 0) zero_number zero_number in
      let K = term_error c f.tab * 2 ^ 30 in
      target_known B ranges (term_l k) (term_known k h) (term_of k) term_e K (term_size c f.tab * 2 ^ 20) term_unit []
      (near_within B ranges (term_l k) (term_known k h) term_t term_e K term_unit [] r.term) r.term_most

  abbrev pub moment_sum : Float
  moment_sum = in_order (λ x y. x ⊕ y) (bits 0) term_of n

  abbrev pub T₀ : Number
  T₀ = number n 0 1 times Q₀

  moments_known : Known B moment_sum T₀ (terms_shape c f.tab)
  moments_known =
      let s = terms_few c f.tab in
      sums_known B ranges n refl few term_unit (unit_range B ranges term_unit tt) Q₀ (term_error c f.tab * 2 ^ 30) (term_size c f.tab)
      s.0 s.1
      term_of (term_target 0 some).is term_target

  -- ---- their quotient
  masses_reach : Reaches (least_parts is_airfoil) (mono top B (added mass_unit (place 6)) * mono bottom B [])
      (mono bottom B (added mass_unit (place 6)) * mono top B [] * 2 ^ 30) M₀
  masses_reach = count_reaches B n refl mass_unit (least_parts is_airfoil) W₀ (mass_lowest f c b d g).1

  pub masses_positive : T (positive mass_sum)
  masses_positive =
      let N = mono top B (added mass_unit (place 6)) * mono bottom B [] in
      let C = mono bottom B (added mass_unit (place 6)) * mono top B [] * 2 ^ 30 in
      let K = error_in (mass_shape c is_airfoil f.tab) in
      near_above mass_sum M₀ (sum_error K (mass_size c f.tab)) N C (top_pos 32 B ranges (added mass_unit (place 6)) [])
      (unit_real B ranges (added mass_unit (place 6)) []) masses_known.is masses_known.near
      (finer (least_parts is_airfoil) N C (suc (sum_error K (mass_size c f.tab))) (2 ^ 53) M₀
      (few_errors (less_parts is_airfoil) K (mass_size c f.tab * 2 ^ 19)
      (leb→le K (2 ^ 47) (pass (bits 0) (bits 0) (bits 0) zero_number zero_number).mass_few) (masses_few c f.tab)) masses_reach)
    where
      few_errors : (x K H : ℕ) → K ≤ 2 ^ 47 → H ≤ 2 ^ 34 → suc (K + 33 * H + 2) ≤ suc x * 2 ^ 53
      few_errors x K H h k = omega arith

  abbrev ring_l : List Given
  ring_l = ring_list c is_airfoil f.tab mass_sum moment_sum M₀ T₀

  ring_known : AllKnown B ring_l
  ring_known = ((masses_known, (masses_positive, masses_reach)), ((moments_known, tt), tt))

  abbrev pub ιM : Number
  ιM = inverse_of M₀

  pub balance_near : Near (moment_sum ⊘ mass_sum) (T₀ times ιM)
      ((balance_error c f.tab * 2 ^ 30) roundoffs (num f.root per (den f.root * 2 ^ 30)))
  balance_near =
      let K = balance_error c f.tab * 2 ^ 30 in
      subst (λ (k : ℕ). Near (moment_sum ⊘ mass_sum) (T₀ times ιM) (K roundoffs (num f.root per (k * 2 ^ 30)))) (one_power (den f.root))
      (subst (λ (k : ℕ). Near (moment_sum ⊘ mass_sum) (T₀ times ιM) (K roundoffs (k per (den f.root ^ 1 * 1 * 1 * 2 ^ 30))))
      (one_power (num f.root))
      (near_within B ranges ring_l ring_known (var 1 over_t 0) (given 2 mul given 1) K (1 ∷ []) [] (pass (bits 0) mass_sum moment_sum M₀ T₀
      ).quotient))
    where
      one_power : (x : ℕ) → x ^ 1 * 1 * 1 ≡ x
      one_power x = rw (first_power x) (simp plain)

  -- ---- exactly: times the mass it is the moment
  pub W_is : IsNumber (T₀ times ιM)
  W_is = times_is T₀ ιM moments_known.is (numbers_are B ranges ring_l ring_known 1)

  abbrev ιV : Number
  ιV = inverse_of V₀

  abbrev numbers : List Number
  numbers = number n 0 1 ∷ value_of f.density ∷ V₀ ∷ ιV ∷ minus X₀ ∷ ιM ∷ []

  numbers_all : AllNumbers numbers
  numbers_all = (
    pow_pos 0,
    (
      Counts.value_is f.density,
      (
        is_exactly f c b d g 0,
        (
          numbers_are B ranges mass_l (volume_known, (density_known_lem, tt)) 1,
          (behind_known.is, (numbers_are B ranges ring_l ring_known 1, tt)),
        ),
      ),
    ),
  )

  M_from_zero : NotBelow M₀
  M_from_zero = from_low (least_parts is_airfoil) (mono top B (added mass_unit (place 6)) * mono bottom B [])
      (mono bottom B (added mass_unit (place 6)) * mono top B [] * 2 ^ 30) M₀ (unit_real B ranges (added mass_unit (place 6)) [])
      masses_reach

  pub exactly_moment : (T₀ times ιM) times M₀ equals number n 0 1 times (value_of f.density times minus X₀)
  exactly_moment =
      let N = number n 0 1 times (value_of f.density times minus X₀) in
      let i = evaluated_is numbers numbers_all (given 0 mul (given 1 mul given 4)) in
      let ia = evaluated_is numbers numbers_all (given 2 mul given 3) in
      let ib = evaluated_is numbers numbers_all ((given 0 mul (given 1 mul given 2)) mul given 5) in
      let e = (given 0 mul (given 1 mul given 4)) mul ((given 2 mul given 3) mul ((given 0 mul (given 1 mul given 2)) mul given 5)) in
      trans (evaluated_is numbers numbers_all e)
      (equal_by numbers numbers_all
      (((given 0 mul ((ratio 0 0 add (given 4 mul given 3)) mul (given 1 mul given 2))) mul given 5) mul (given 0 mul (given 1 mul given
      2))) e tt)
      (trans (evaluated_is (N ∷ number 1 0 1 ∷ number 1 0 1 ∷ []) (i, (pow_pos 0, (pow_pos 0, tt))) (given 0 mul (given 1 mul given 2)))
      (evaluated_equal (N ∷ (V₀ times ιV) ∷ (M₀ times ιM) ∷ []) (N ∷ number 1 0 1 ∷ number 1 0 1 ∷ []) (i, (ia, (ib, tt)))
      (i, (pow_pos 0, (pow_pos 0, tt)))
      (itself, (inverse_pair V₀ (volume_from_zero f c b d g), (inverse_pair M₀ M_from_zero, tt))) (given 0 mul (given 1 mul given 2)))
      (equal_by (N ∷ []) (i, tt) (given 0 mul (ratio 1 0 mul ratio 1 0)) (given 0) tt))

-- what a tab adds to the first moment about the axis is at most 2^27
tab_radius_below : (thickness radius : Float) (tab : Option FinTab) (p : Plate) (k : ℕ) → Below 6 thickness → Below 6 radius
    → TabGiven k tab p
    → tab_check tab p.root ≡ Ok tt
    → Below 27 (r1 (tab_integrals_of tab thickness radius))
unfolding tab_integrals_of of_bits
tab_radius_below thickness radius None p k t r h c = weaker (bits 0) 0 27 (lit≤ tt) zero_below
tab_radius_below thickness radius (Some tab) p k t r h c =
    let s = Fins.tab_lengths tab p.root h.0.0 h.0.1 c in
    let inner : Below 7 (radius ⊖ tab.height_m) = sub_below radius tab.height_m 6 (lit≤ tt) r s.0.length.below in
    let outer : Below 14 (radius ⊗ radius) = weaker (radius ⊗ radius) 12 14 (lit≤ tt) (mul_below radius radius 6 6 (lit≤ tt) r r) in
    let squares : Below 15 (radius ⊗ radius ⊖ (radius ⊖ tab.height_m) ⊗ (radius ⊖ tab.height_m)) =
    sub_below (radius ⊗ radius) ((radius ⊖ tab.height_m) ⊗ (radius ⊖ tab.height_m)) 14 (lit≤ tt) outer
    (mul_below (radius ⊖ tab.height_m) (radius ⊖ tab.height_m) 7 7 (lit≤ tt) inner inner) in
    mul_below (thickness ⊗ tab.length_m) (first_moment (radius ⊖ tab.height_m) radius) 12 15 (lit≤ tt)
    (mul_below thickness tab.length_m 6 6 (lit≤ tt) t s.1.length.below)
    (mul_below half (radius ⊗ radius ⊖ (radius ⊖ tab.height_m) ⊗ (radius ⊖ tab.height_m)) 0 15 (lit≤ tt) half_below squares)

-- ---- copies of a plate, turned and joined
plate_centre : (v : List Float) (density base : Float) (count : ℕ)
    → T (positive (in_order (λ x y. x ⊕ y) (bits 0) (λ k. density ⊗ volume v) count))
    → (joined_copies (plate_body v density) base count).centre_m.z
    ≡ in_order (λ x y. x ⊕ y) (bits 0) (λ k. (across_at base count (r1 v ⊘ volume v) k ⊕ one ⊗ (neg (x1 v) ⊘ volume v)) ⊗
    (density ⊗ volume v)) count ⊘ in_order (λ x y. x ⊕ y) (bits 0) (λ k. density ⊗ volume v) count
unfolding plate_body of_origin_tensor
plate_centre v density base count h = ring_centre (plate_body v density) base count refl h

plate_naught : (v : List Float) (density base : Float) (count : ℕ) → angle_check base_angle_field base ≡ Ok tt → 1 ≤ count → count ≤ 32
    → T
    (finite (r1 v ⊘ volume v)) → (k : ℕ) → k < count
    → AtMost 0 1 (across_at base count (r1 v ⊘ volume v) k)
unfolding plate_body of_origin_tensor
plate_naught v density base count h l u f k i = across_naught (plate_body v density) base count base_angle_field h l u f k i

centre_by_lem : (v : List Float) (density base : Float) (count : ℕ) (w u : Float) → volume v ≡ w → x1 v ≡ u → T
    (positive (in_order (λ x y. x ⊕ y) (bits 0) (λ k. density ⊗ w) count))
    → (joined_copies (plate_body v density) base count).centre_m.z
    ≡ in_order (λ x y. x ⊕ y) (bits 0) (λ k. (across_at base count (r1 v ⊘ w) k ⊕ one ⊗ (neg u ⊘ w)) ⊗ (density ⊗ w)) count ⊘ in_order
    (λ x y. x ⊕ y) (bits 0) (λ k. density ⊗ w) count
centre_by_lem v density base count w u hw hu h =
    subst
    (λ (s : Float). (joined_copies (plate_body v density) base count).centre_m.z
    ≡ in_order (λ x y. x ⊕ y) (bits 0) (λ k. (across_at base count (r1 v ⊘ s) k ⊕ one ⊗ (neg u ⊘ s)) ⊗ (density ⊗ s)) count ⊘ in_order
    (λ x y. x ⊕ y) (bits 0) (λ k. density ⊗ s) count) hw
    (subst
    (λ (s : Float). (joined_copies (plate_body v density) base count).centre_m.z
    ≡ in_order (λ x y. x ⊕ y) (bits 0) (λ k. (across_at base count (r1 v ⊘ volume v) k ⊕ one ⊗ (neg s ⊘ volume v)) ⊗
    (density ⊗ volume v)) count ⊘ in_order (λ x y. x ⊕ y) (bits 0) (λ k. density ⊗ volume v) count) hu
    (plate_centre v density base count (subst (λ (s : Float). T (positive (in_order (λ x y. x ⊕ y) (bits 0) (λ k. density ⊗ s) count)))
    (sym hw) h)))

-- ---- an f64 near a number of at least R parts of X / Y is at least one part
one_part : (X Y P Q R l q m e N D : ℕ) → 0 < e → 0 < Q → l + Q ≤ R * Q → R * X * e + m * (Y * P) ≤ q * (Y * P)
    → (q * D + 0 * e) * (Y * P * Q) ≤ (N * e + m * D) * (Y * P * Q) + l * X * (e * D) → X * D ≤ N * (Y * P)
one_part X Y P Q R l q m e N D E QQ h k a =
    le_of_mul-le-mul_right (go (mul-le-mul_right (X * e * D) h) (mul-le-mul_right (D * Q) k) a) (mul-pos QQ E)
  where
    go : (l + Q) * (X * e * D) ≤ R * Q * (X * e * D) → (R * X * e + m * (Y * P)) * (D * Q) ≤ q * (Y * P) * (D * Q)
        → (q * D + 0 * e) * (Y * P * Q) ≤ (N * e + m * D) * (Y * P * Q) + l * X * (e * D) → X * D * (Q * e) ≤ N * (Y * P) * (Q * e)
    go s t u = let x = simp plain at s in let y = simp plain at t in let z = simp plain at u in simp plain (omega (arith, x, y, z))

large_enough : (X Y P W N D : ℕ) → 0 < X → Y ≤ X * W → X * D ≤ N * (Y * P) → D ≤ N * (W * P)
large_enough X Y P W N D h k a = le_of_mul-le-mul_right (le_trans (one a) (two (mul-le-mul_right (N * P) k))) h
  where
    one : X * D ≤ N * (Y * P) → D * X ≤ Y * (N * P)
    one u = let x = simp sorted at u in simp sorted (omega (arith, x))

    two : Y * (N * P) ≤ X * W * (N * P) → Y * (N * P) ≤ N * (W * P) * X
    two u = let x = simp sorted at u in simp sorted (omega (arith, x))

above_by : (x : Float) (v : Number) (X Y R l : ℕ) → T (positive x) → IsNumber v → 0 < X → Y ≤ X * 2 ^ 96 → l + 2 ^ 53 ≤ R * 2 ^ 53
    → Reaches R X (Y * 2 ^ 30) v → Within (l roundoffs (X per (Y * 2 ^ 30))) (value_of x) v → Above 126 x
above_by nan v X Y R l p i h k f a w = absurd p
above_by (inf s) v X Y R l p i h k f a w = absurd p
above_by (fin true m e) v X Y R l p i h k f a w = absurd p
above_by (fin false m e) (number q n d) X Y R l p i h k f a w =
    record {
      finite = tt;
      size = le_trans (le_of_eq (one-mul (down e)))
          (subst (λ (s : ℕ). down e ≤ m * up e * s) (sym (pow-add 2 96 30))
          (large_enough X Y (2 ^ 30) (2 ^ 96) (m * up e) (down e) h k
          (one_part X Y (2 ^ 30) (2 ^ 53) R l q n d (m * up e) (down e) i (pow_pos 53) f a w.above)));
    }

-- ---- the call
tab_volume_lem : (t : Option FinTab) (thickness radius : Float) → (tab_integrals t thickness radius).volume ≡ tab_volume t thickness
tab_volume_lem None thickness radius = refl
tab_volume_lem (Some t) thickness radius = refl

tab_moment_lem : (t : Option FinTab) (thickness radius : Float) → (tab_integrals t thickness radius).x1 ≡ tab_moment t thickness
tab_moment_lem None thickness radius = refl
tab_moment_lem (Some t) thickness radius = refl

module _ (c : Class) (section : Section) (p : Plate) (m : Mount) (points : List Float) (L : ℕ) (start : List Float) (r : Figures)
    (exit : List Float) (plain_section : NotRounded section) (g : SectionGiven section p m points L start r exit)
    (radius_f64 : T (fits binary64 m.radius)) (no_cant : eq m.cant (bits 0) ≡ true)
    (q : OneStrip (tips_in c) (sweeps_in c) section p r.intervals) (tab : TabGiven (spans_in c) p.tab p) where
  -- the distance from the axis counts for nothing here: 0 stands for it
  abbrev F : Fin
  F = Fins.fin_at section p m points L start r exit plain_section g radius_f64 c q (bits 0)

  abbrev S : Float
  S = Fins.S section p m points L start r exit plain_section g radius_f64 c q

  sized : Sized (Fins.planform section p m points L start r exit plain_section g radius_f64 c q) points
  sized = Fins.sized section p m points L start r exit plain_section g radius_f64 c q

  scaled : Scale S
  scaled = Fins.scaled section p m points L start r exit plain_section g radius_f64 c q

  thick : PositiveLength p.thickness
  thick = Fins.thick section p m points L start r exit plain_section g radius_f64 c q

  out : Height m.radius
  out = Fins.out section p m points L start r exit plain_section g radius_f64 c q

  checks : AcceptedSet (set_with section p m) points L (length start)
  checks = Fins.checks section p m points L start r exit plain_section g radius_f64 c q

  counts : (1 ≤ m.count) × (m.count ≤ 32)
  counts = set_count (set_with section p m) points L (length start)
      (Fins.figures section p m points L start r exit plain_section g radius_f64 c q).accepted

  zero_under : (b d : ℕ) → AtMost b d (bits 0)
  unfolding of_bits
  zero_under b d = record { finite = tt; size = le_trans (le_of_eq (zero-mul d)) zero-le }

  reached : Fins.Reached p (bits 0) 64 1
  reached = record {
    is_size = pow_pos 0;
    most = lit≤ tt;
    root_most = sized.0.length.below;
    span_most = sized.1.1.0.length.below;
    radius_most = zero_under 64 1;
    thickness_most = thick.length.below;
  }

  beside : TabBeside (spans_in c) p.tab p (bits 0)
  beside = go p.tab tab
    where
      go : (t : Option FinTab) → TabGiven (spans_in c) t p → TabBeside (spans_in c) t p (bits 0)
      go None h = tt
      go (Some t) h = (h, zero_under (num p.span) (den p.span))

  sizes : Sizes F c 64 1
  sizes = Fins.sizes section p m points L start r exit plain_section g radius_f64 c q (bits 0) 64 1 reached beside

  total_is : (k : ℕ) → k < 7 → value_from (bits 0) k (set_strips (set_with section p m) points L)
      ≡ total_at (Fins.fin_at section p m points L start r exit plain_section g radius_f64 c q m.radius) section k
  total_is = Fins.total_is section p m points L start r exit plain_section g radius_f64 c q

  abbrev v : List Float
  v = Called.integrals section p m points L (length start) r g.answers.call.0 g.given g.no_fillet_lem

  tab_at_lem : (k : ℕ) → (k ≡ 0) ⊎ (k ≡ 3)
      → at (tab_integrals_of p.tab p.thickness m.radius) k ≡ at (tab_integrals_of p.tab p.thickness (bits 0)) k
  unfolding tab_integrals_of
  tab_at_lem k e = go p.tab e
    where
      go : (t : Option FinTab) → (k ≡ 0) ⊎ (k ≡ 3)
          → at (tab_integrals_of t p.thickness m.radius) k ≡ at (tab_integrals_of t p.thickness (bits 0)) k
      go None e = refl
      go (Some t) (inl e) = rw e
      go (Some t) (inr e) = rw e

  volume_is : volume v ≡ integral_at F 0
  volume_is = ap (λ (z : Float). z ⊗ cube S ⊕ at (tab_integrals_of p.tab p.thickness m.radius) 0) (total_is 0 (lit≤ tt))
      ∙ ap (λ (z : Float). total_at F section 0 ⊗ cube S ⊕ z) (tab_at_lem 0 (inl refl))

  moment_is : x1 v ≡ integral_at F 3
  moment_is = ap (λ (z : Float). z ⊗ fourth S ⊕ at (tab_integrals_of p.tab p.thickness m.radius) 3) (total_is 3 (lit≤ tt))
      ∙ ap (λ (z : Float). total_at F section 3 ⊗ fourth S ⊕ z) (tab_at_lem 3 (inr refl))

  -- ---- how c out the fin's centre is: no more than f64 holds
  abbrev f : Float → List Float
  f = Fins.f section p m points L start r exit plain_section g radius_f64 c q

  abbrev low : Float
  low = bits 0 ⊘ S

  abbrev high : Float
  high = p.span ⊘ S

  over_scale : (s : Float) → Below 6 s → Below 26 (s ⊘ S)
  over_scale s h = div_below s S 6 20 (lit≤ tt) h scaled.above

  samples_below : (h : Float) → Below 28 h → Each (Below 700) (f h)
  unfolding plate_of
  samples_below h b =
      sample_below (plate_integrand (Trapezoid p.root p.tip p.span p.sweep) points section p.thickness m.radius) points h
      sized scaled (over_scale p.thickness thick.length.below, over_scale m.radius out.length.below) b

  samples_wide : (h : Float) → 7 ≤ length (f h)
  unfolding plate_of sample_of
  samples_wide h = lit≤ tt

  radius_below : Below 775 (r1 v)
  radius_below =
      let strips = set_strips (set_with section p m) points L in
      let none : Below 0 (bits 0) = zero_below in
      let value = value_below 7 f samples_below samples_wide low high (over_scale (bits 0) (weaker (bits 0) 0 6 (lit≤ tt) none))
      (over_scale p.span sized.1.1.0.length.below) 1 (lit≤ tt) in
      let once = add_below (bits 0) _ 743 (lit≤ tt) (weaker (bits 0) 0 743 (lit≤ tt) none) value in
      let twice : Below 745 (value_from (bits 0) 1 strips) =
      subst (Below 745) (sym (Fins.sum_is section p m points L start r exit plain_section g radius_f64 c q 1 (lit≤ tt)))
      (add_below (bits 0) _ 744 (lit≤ tt) (weaker (bits 0) 0 744 (lit≤ tt) none) once) in
      let square = mul_below S S 7 7 (lit≤ tt) scaled.below scaled.below in
      let slab = at (tab_integrals_of p.tab p.thickness m.radius) 1 in
      add_below (value_from (bits 0) 1 strips ⊗ fourth S) slab 774 (lit≤ tt)
      (weaker (value_from (bits 0) 1 strips ⊗ fourth S) 773 774 (lit≤ tt)
      (mul_below _ (fourth S) 745 28 (lit≤ tt) twice (mul_below (S ⊗ S) (S ⊗ S) 14 14 (lit≤ tt) square square)))
      (weaker slab 27 774 (lit≤ tt) (tab_radius_below p.thickness m.radius p.tab p (spans_in c) thick.length.below out.length.below tab
      (Fins.tab_accepted section p m points L start r exit plain_section g radius_f64 c q)))

  abbrev B₆ : List Size
  B₆ = bases F c 64 1 sizes

  w_above : Above 126 (integral_at F 0)
  w_above =
      let z = seven_known F c 64 1 sizes 0 (lit≤ tt) tt in
      let low = volume_lowest F c 64 1 sizes in
      above_by (integral_at F 0) (exactly F 0) (mono top B₆ (unit_of 0) * mono bottom B₆ []) (mono bottom B₆ (unit_of 0) * mono top B₆ [])
      (least_parts (is_foil section)) (error_in (shape_at c (is_foil section) p.tab 0)) low.0 z.is (top_pos 32 B₆ sizes.ranges
      (unit_of 0) [])
      (ranges_by_units 32 B₆ sizes.ranges (unit_of 0) []).least (enough c (is_foil section) p.tab) low.1 z.near.within
    where
      enough : (c : Class) (foil : Bool) (tab : Option FinTab) → error_in (shape_at c foil tab 0) + 2 ^ 53 ≤ least_parts foil * 2 ^ 53
      enough = each_class (λ c foil tab. error_in (shape_at c foil tab 0) + 2 ^ 53 ≤ least_parts foil * 2 ^ 53) (lit≤ tt) (lit≤ tt)
          (lit≤ tt) (lit≤ tt) (lit≤ tt) (lit≤ tt) (λ t. lit≤ tt) (λ t. lit≤ tt) (λ t. lit≤ tt) (λ t. lit≤ tt)
          (λ t. lit≤ tt) (λ t. lit≤ tt)

  out_finite : T (finite (r1 v ⊘ volume v))
  out_finite = subst (λ (z : Float). T (finite (r1 v ⊘ z))) (sym volume_is)
      (div_below (r1 v) (integral_at F 0) 775 126 (lit≤ tt) radius_below w_above).finite

  abbrev naught : ℕ → Float
  naught k = across_at m.base m.count (r1 v ⊘ integral_at F 0) k

  naughts : (k : ℕ) → k < m.count → AtMost 0 1 (naught k)
  naughts k i =
      subst (λ (z : Float). AtMost 0 1 (across_at m.base m.count (r1 v ⊘ z) k)) volume_is
      (plate_naught v p.density m.base m.count checks.base_angle counts.0 counts.1 out_finite k i)

  abbrev balance : Float
  balance = moment_sum F c 64 1 sizes m.count counts.0 counts.1 naught naughts
      ⊘ mass_sum F c 64 1 sizes m.count counts.0 counts.1 naught naughts

  centre_is : r.body.centre_m.z ≡ balance
  centre_is =
      ap (λ (b : Body). b.centre_m.z) (set_body section p m points L (length start) r g.answers.call.0 g.given g.no_fillet_lem
      no_cant)
      ∙ centre_by_lem v p.density m.base m.count (integral_at F 0) (integral_at F 3) volume_is moment_is
      (masses_positive F c 64 1 sizes m.count counts.0 counts.1 naught naughts)

  -- ---- in fractions
  abbrev ρ : Number
  ρ = value_of p.density

  abbrev exact : Integrals
  exact = Fins.exact_at section p (bits 0)

  field_is : (i : ℕ) → i < 7 → IsFraction (exactly F i) (Fins.field_of exact i)
  field_is = Fins.field_is section p m points L start r exit plain_section g radius_f64 c q (bits 0) 64 1 reached beside

  -- count times density times a number
  all_fins : (x : Number) (y : Fraction) → IsFraction x y
      → IsFraction (number m.count 0 1 times (ρ times x)) (product (pos m.count over 1) (product (fraction_of p.density) y))
  all_fins x y h =
      times_fraction (number m.count 0 1) (ρ times x) (pos m.count over 1) (product (fraction_of p.density) y)
      (whole_fraction m.count 1)
      (times_fraction ρ x (fraction_of p.density) y (Fins.density_fraction section p m points L start r exit plain_section g radius_f64
      c q) h)

  mass_fraction : IsFraction (number m.count 0 1 times (ρ times exactly F 0)) (exact_mass section p m)
  mass_fraction = all_fins (exactly F 0) (sum (product (filled section) (fin_volume p)) (tab_volume p.tab p.thickness))
      (subst (λ (x : Fraction). IsFraction (exactly F 0) (sum (product (filled section) (fin_volume p)) x))
      (tab_volume_lem p.tab p.thickness (bits 0)) (field_is 0 (lit≤ tt)))

  moment_fraction : IsFraction (number m.count 0 1 times (ρ times exactly F 3)) (exact_moment section p m)
  moment_fraction = all_fins (exactly F 3) (sum (fin_moment section p) (tab_moment p.tab p.thickness))
      (subst (λ (x : Fraction). IsFraction (exactly F 3) (sum (fin_moment section p) x)) (tab_moment_lem p.tab p.thickness (bits 0))
      (field_is 3 (lit≤ tt)))

  abbrev D : Number
  D = number m.count 0 1 times (ρ times exactly F 0)

  abbrev Y : Number
  Y = number m.count 0 1 times (ρ times exactly F 3)

  is_all : (x : Number) → IsNumber x → IsNumber (number m.count 0 1 times (ρ times x))
  is_all x i = times_is (number m.count 0 1) (ρ times x) (pow_pos 0) (times_is ρ x (Counts.value_is p.density) i)

  D_from_zero : NotBelow D
  D_from_zero =
      not_below_times (number m.count 0 1) (ρ times exactly F 0) zero-le
      (not_below_times ρ (exactly F 0) (positive_from p.density sizes.density_positive) (volume_from_zero F c 64 1 sizes))

  pub set_balance : Apart (product (product (pos (balance_error c p.tab) over 2 ^ 53) (fraction_of p.root)) (exact_mass section p m))
      (product (fraction_of r.body.centre_m.z) (exact_mass section p m)) (negated_fraction (exact_moment section p m))
  set_balance =
      let W = T₀ F c 64 1 sizes m.count counts.0 counts.1 naught naughts times ιM F c 64 1 sizes m.count
      counts.0 counts.1 naught naughts in
      subst (λ (z : Float). Apart (product (product (pos (balance_error c p.tab) over 2 ^ 53) (fraction_of p.root)) (exact_mass
      section p m))
      (product (fraction_of z) (exact_mass section p m)) (negated_fraction (exact_moment section p m))) (sym centre_is)
      (by_size balance p.root sizes.root_positive W D (minus Y) (balance_error c p.tab) (exact_mass section p m)
      (negated_fraction (exact_moment section p m))
      (W_is F c 64 1 sizes m.count counts.0 counts.1 naught naughts) (is_all (exactly F 0) (is_exactly F c 64 1 sizes 0))
      (minus_is Y (is_all (exactly F 3) (is_exactly F c 64 1 sizes 3))) D_from_zero mass_fraction
      (minus_fraction Y (exact_moment section p m) moment_fraction)
      (balance_near F c 64 1 sizes m.count counts.0 counts.1 naught naughts)
      (subst (λ (z : Number). W times D equals z)
      (ap (λ (z : Number). number m.count 0 1 times z) (times_minus ρ (exactly F 3)) ∙ times_minus (number m.count 0 1) (ρ times
      exactly F 3))
      (exactly_moment F c 64 1 sizes m.count counts.0 counts.1 naught naughts)))

pub ordinary_balance : OrdinaryBalance 1 1 1 2100 11000 × (OrdinaryBalance 1 4 1 8100 26000 × OrdinaryBalance 2 8 4 52000 388000)
ordinary_balance = (set_balance near, (set_balance far, set_balance wide))
