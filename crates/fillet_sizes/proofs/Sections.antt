-- The area and the moments of a fillet's section are finite, of every radius and body radius within their limits and
-- above 0. Assumes nothing.
use Rattle.std.specs.Prelude.{Ok}
use mathlib.Core.Path.{◌≡◌, refl}
use mathlib.Core.Bool.{Bool, true, false, cond}
use mathlib.Core.List.{[], ◌∷◌}
use Prim.Native.Nat.{ℕ, suc, ◌*◌, ◌^◌, ◌≤◌, ◌<◌}
use lib.Dec.{T, lit≤}
use lib.IntN.{negsuc}
use lib.Ieee.{Float, nan, inf, fin, binary64, fits, of_bits, of_int, round, neg, le, lt}
use lib.Ieee.Scale.{finite}
use lib.Ieee.Fits.{add-fits}
use lib.Ieee.Positive.{positive, num, den}
use Rattle.floats.specs.Operations.{◌⊕◌, ◌⊖◌, ◌⊗◌, ◌⊘◌, bits}
use Rattle.floats.specs.Constants.{half, two, three, pi}
use Rattle.floats.specs.Floats.{is_finite, abs_of}
use Rattle.floats.proofs.Bools.{and_true}
use Rattle.root.proofs.Nearest.{root_positive}
use Rattle.trig.specs.Trig.{sin_of, cos_of}
use Rattle.rounding.specs.Sizes.{Below, Above}
use Rattle.rounding.proofs.Signs.{minus, positive_plus}
use Rattle.rounding.proofs.Sizes.{weaker, zero_below, half_below, mul_below, div_below, neg_below, add_below, sub_below, add_above}
use Rattle.rounding.proofs.Sizes.{add_plus, above_num, positive_of, mul_above}
use Rattle.rounding.proofs.Roots.{root_below}
use Rattle.rounding.proofs.Terms.{Term, given, ◌plus◌, ◌less◌, ◌times◌, ◌over◌, AllAbove, within}
use Rattle.limits.specs.Limits.{body_radius_field, fillet_radius_field, length_check}
use Rattle.limits.proofs.Lengths.{PositiveLength, above_checked}
use Rattle.fillets.specs.declared.AreaMoments.{AreaMoments}
use Rattle.fillets.specs.Angles.{eight, angle_of}
use Rattle.fillets.specs.FilletSections.{quarter, six, less_moments, term_divisors, span_less_sine_series, span_less_sine_of}
use Rattle.fillets.specs.FilletSections.{sector_area, chord_moment, second_moment, moved_first, moved_second, sector_with, sector_of, touching_at}
use Rattle.fillets.specs.FilletSections.{triangle_of, section_with, fillet_section_of}
use Rattle.fillets.specs.Fillets.{is_sound}
use Rattle.fillet_sizes.proofs.Sums.{not_negative, mul_minus, div_minus}
use Rattle.rounding.proofs.LeastRoots.{root_least}
use Rattle.fillet_sizes.proofs.Angles.{angle_below}
use Rattle.fillet_sizes.proofs.Turns.{turn_below}

-- ---- constants
two_below : Below 1 two
unfolding of_bits
two_below = record { finite = tt; size = lit≤ tt }

two_above : Above 0 two
unfolding of_bits
two_above = record { finite = tt; size = lit≤ tt }

three_above : Above 0 three
unfolding of_bits
three_above = record { finite = tt; size = lit≤ tt }

six_above : Above 0 six
unfolding of_bits
six_above = record { finite = tt; size = lit≤ tt }

eight_above : Above 0 eight
unfolding of_bits
eight_above = record { finite = tt; size = lit≤ tt }

pi_below : Below 2 pi
unfolding of_bits
pi_below = record { finite = tt; size = lit≤ tt }

two_minus : minus two ≡ false
unfolding of_bits
two_minus = refl

-- ---- x − sin x
term_divisors_lem : AllAbove (0 ∷ 0 ∷ 0 ∷ 0 ∷ 0 ∷ 0 ∷ 0 ∷ 0 ∷ []) (six ∷ term_divisors)
unfolding of_bits of_int round
term_divisors_lem = (
  above _ tt (lit≤ tt),
  (
    above _ tt (lit≤ tt),
    (
      above _ tt (lit≤ tt),
      (above _ tt (lit≤ tt), (above _ tt (lit≤ tt), (above _ tt (lit≤ tt), (above _ tt (lit≤ tt), (above _ tt (lit≤ tt), tt))))),
    ),
  ),
)
  where
    above : (n : Float) → T (finite n) → 1 * den n ≤ num n * 2 ^ 0 → Above 0 n
    above n i l = record { finite = i; size = l }

-- operands x, −x and 0; divisors 6, 20, 42, ..
abbrev term : ℕ → Term → Term
term i t = t times (given 1 times given 0 over i)

abbrev first_term : Term
first_term = given 0 times (given 0 times given 0) over 0

abbrev sum1 : Term
sum1 = given 2 plus first_term

abbrev term2 : Term
term2 = term 1 first_term

abbrev term3 : Term
term3 = term 2 term2

abbrev term4 : Term
term4 = term 3 term3

abbrev term5 : Term
term5 = term 4 term4

abbrev term6 : Term
term6 = term 5 term5

abbrev term7 : Term
term7 = term 6 term6

span_series : (x : Float) → Below 15 x → Below 340 (span_less_sine_series x)
span_series x h =
    within (15 ∷ 15 ∷ 0 ∷ []) (0 ∷ 0 ∷ 0 ∷ 0 ∷ 0 ∷ 0 ∷ 0 ∷ 0 ∷ []) (x ∷ neg x ∷ bits 0 ∷ []) (six ∷ term_divisors)
    (h, (neg_below x 15 h, (zero_below, tt))) term_divisors_lem
    (sum1 plus term2 plus term3 plus term4 plus term5 plus term6 plus term7) 340 tt

span_below : (x : Float) → Below 15 x → Below 340 (span_less_sine_of x)
unfolding span_less_sine_of
span_below x h = go (le quarter (abs_of x))
  where
    go : (b : Bool) → Below 340 (cond b (x ⊖ sin_of x) (span_less_sine_series x))
    go true =
        weaker (x ⊖ sin_of x) 332 340 (lit≤ tt) (sub_below x (sin_of x) 331 (lit≤ tt) (weaker x 15 331 (lit≤ tt) h) (turn_below x h).0)
    go false = span_series x h

-- ---- a sector
pub record FourBelow (p : ℕ) (s : AreaMoments) : Type 0 where
  pub area : Below p s.area_m2
  pub sx : Below p s.sx_m3
  pub sxx : Below p s.sxx_m4
  pub syy : Below p s.syy_m4

module _ (x0 y0 rho span middle : Float) (hx : Below 7 x0) (hy : Below 7 y0) (hr : Below 6 rho) (hs : Below 15 span) (hm : Below 15 middle)
  where
    half_span : Below 15 (half ⊗ span)
    half_span = mul_below half span 0 15 (lit≤ tt) half_below hs

    area_below : Below 27 (sector_area rho span)
    area_below = within (0 ∷ 6 ∷ 15 ∷ []) [] (half ∷ rho ∷ span ∷ []) [] (half_below, (hr, (hs, tt))) tt
        (given 0 times given 1 times given 1 times given 2) 27 tt

    chord_below : Below 350 (chord_moment rho span)
    chord_below =
        within (1 ∷ 331 ∷ 6 ∷ []) (0 ∷ []) (two ∷ sin_of (half ⊗ span) ∷ rho ∷ []) (three ∷ [])
        (two_below, ((turn_below (half ⊗ span) half_span).0, (hr, tt))) (three_above, tt)
        (given 0 times given 1 times (given 2 times (given 2 times given 2)) over 0) 350 tt

    second_below : (k : Float) → Below 331 k → Below 1019 (second_moment rho span k)
    second_below k h =
        within (6 ∷ 340 ∷ 331 ∷ 1 ∷ 331 ∷ []) (0 ∷ []) (rho ∷ span_less_sine_of span ∷ sin_of span ∷ two ∷ k ∷ []) (eight ∷ [])
        (hr, (span_below span hs, ((turn_below span hs).0, (two_below, (h, tt))))) (eight_above, tt)
        ((given 0 times given 0) times (given 0 times given 0) over 0 times
        (given 1 plus given 2 times given 3 times (given 4 times given 4))) 1019 tt

    first_below : (k : Float) → Below 331 k → Below 681 (chord_moment rho span ⊗ k)
    first_below k h = mul_below (chord_moment rho span) k 350 331 (lit≤ tt) chord_below h

    moved_first_lem : (x k : Float) → Below 7 x → Below 331 k
        → Below 1021 (moved_first x (sector_area rho span) (chord_moment rho span ⊗ k))
    moved_first_lem x k hx hk =
        within (681 ∷ 7 ∷ 27 ∷ []) [] (chord_moment rho span ⊗ k ∷ x ∷ sector_area rho span ∷ []) []
        (first_below k hk, (hx, (area_below, tt)))
        tt
        (given 0 plus given 1 times given 2) 1021 tt

    moved_second_lem : (x k : Float) → Below 7 x → Below 331 k
        → Below 1021 (moved_second x (sector_area rho span) (chord_moment rho span ⊗ k) (second_moment rho span k))
    moved_second_lem x k hx hk =
        within (1019 ∷ 1 ∷ 7 ∷ 681 ∷ 27 ∷ []) []
        (second_moment rho span k ∷ two ∷ x ∷ chord_moment rho span ⊗ k ∷ sector_area rho span ∷ [])
        []
        (second_below k hk, (two_below, (hx, (first_below k hk, (area_below, tt))))) tt
        (given 0 plus given 1 times given 2 times given 3 plus given 2 times given 2 times given 4) 1021 tt

    sector_below : FourBelow 1021 (sector_with x0 y0 rho span middle)
    sector_below =
        let turn = turn_below middle hm in
        record {
          area = weaker (sector_area rho span) 27 1021 (lit≤ tt) area_below;
          sx = moved_first_lem x0 (cos_of middle) hx turn.1;
          sxx = moved_second_lem x0 (cos_of middle) hx turn.1;
          syy = moved_second_lem y0 (sin_of middle) hy turn.0;
        }

-- ---- the triangle, and the section
triangle_below : (c r : Float) → Below 7 c → Below 6 r → FourBelow 1021 (triangle_of c r)
triangle_below c r hc hr =
    let up_to_lem = within (0 ∷ 7 ∷ 6 ∷ 1 ∷ []) (0 ∷ 0 ∷ 0 ∷ []) (half ∷ c ∷ r ∷ two ∷ []) (three ∷ two ∷ six ∷ [])
    (half_below, (hc, (hr, (two_below, tt)))) (three_above, (two_above, (six_above, tt))) in
    record {
      area = up_to_lem (given 0 times given 1 times given 2) 1021 tt;
      sx = up_to_lem (given 0 times given 1 times given 2 times given 3 times given 1 over 0) 1021 tt;
      sxx = up_to_lem (given 0 times given 1 times given 2 times given 1 times given 1 over 1) 1021 tt;
      syy = up_to_lem (given 0 times given 1 times given 2 times given 2 times given 2 over 2) 1021 tt;
    }

less_below : (p : ℕ) → p < 1023 → (a b : AreaMoments) → FourBelow p a → FourBelow p b → FourBelow (suc p) (less_moments a b)
less_below p l a b h k =
    record {
      area = sub_below a.area_m2 b.area_m2 p l h.area k.area;
      sx = sub_below a.sx_m3 b.sx_m3 p l h.sx k.sx;
      sxx = sub_below a.sxx_m4 b.sxx_m4 p l h.sxx k.sxx;
      syy = sub_below a.syy_m4 b.syy_m4 p l h.syy k.syy;
    }

wider : (a : AreaMoments) → FourBelow 1021 a → FourBelow 1022 a
wider a h =
    record {
      area = weaker a.area_m2 1021 1022 (lit≤ tt) h.area;
      sx = weaker a.sx_m3 1021 1022 (lit≤ tt) h.sx;
      sxx = weaker a.sxx_m4 1021 1022 (lit≤ tt) h.sxx;
      syy = weaker a.syy_m4 1021 1022 (lit≤ tt) h.syy;
    }

section_with_lem : (rb r c theta : Float) → Below 6 rb → Below 6 r → Below 7 c → Below 13 theta → FourBelow 1023 (section_with rb r c theta)
unfolding sector_of
section_with_lem rb r c theta hb hr hc ht =
    let turn = within (13 ∷ 0 ∷ 2 ∷ 0 ∷ 0 ∷ []) [] (theta ∷ bits 0 ∷ pi ∷ half ∷ neg half ∷ []) []
    (ht, (zero_below, (pi_below, (half_below, (neg_below half 0 half_below, tt))))) tt in
    let from = given 0 less given 2 in
    let to = given 4 times given 2 in
    let zero = weaker (bits 0) 0 7 (lit≤ tt) zero_below in
    let body =
    sector_below (bits 0) (bits 0) rb (theta ⊖ bits 0) (half ⊗ (theta ⊕ bits 0)) zero zero hb (turn (given 0 less given 1) 15 tt)
    (turn (given 3 times (given 0 plus given 1)) 15 tt) in
    let joint =
    sector_below c r r (neg half ⊗ pi ⊖ (theta ⊖ pi)) (half ⊗ (neg half ⊗ pi ⊕ (theta ⊖ pi))) hc (weaker r 6 7 (lit≤ tt) hr) hr
    (turn (to less from) 15 tt) (turn (given 3 times (to plus from)) 15 tt) in
    less_below 1022 (lit≤ tt) _ _ (less_below 1021 (lit≤ tt) _ _ (triangle_below c r hc hr) body) (wider _ joint)

-- ---- of checked radii
module _ (rb r : Float) (hb : PositiveLength rb) (hr : PositiveLength r) where
  abbrev Square : Float
  Square = rb ⊗ rb

  abbrev Mixed : Float
  Mixed = two ⊗ rb ⊗ r

  square_below : Below 12 Square
  square_below = mul_below rb rb 6 6 (lit≤ tt) hb.length.below hb.length.below

  square_above : Above 40 Square
  square_above = mul_above rb rb 20 20 (lit≤ tt) hb.above hb.above square_below.finite

  square_minus : minus Square ≡ false
  square_minus = mul_minus rb rb hb.length.below.finite hb.length.below.finite hb.not_minus hb.not_minus

  twice_below : Below 7 (two ⊗ rb)
  twice_below = mul_below two rb 1 6 (lit≤ tt) two_below hb.length.below

  mixed_below : Below 13 Mixed
  mixed_below = mul_below (two ⊗ rb) r 7 6 (lit≤ tt) twice_below hr.length.below

  mixed_not_below : lt Mixed (bits 0) ≡ false
  mixed_not_below =
      not_negative Mixed mixed_below.finite
      (mul_minus (two ⊗ rb) r twice_below.finite hr.length.below.finite
      (mul_minus two rb two_below.finite hb.length.below.finite two_minus hb.not_minus) hr.not_minus)

  inside_below : Below 14 (Square ⊕ Mixed)
  inside_below = add_below Square Mixed 13 (lit≤ tt) (weaker Square 12 13 (lit≤ tt) square_below) mixed_below

  inside_above : Above 40 (Square ⊕ Mixed)
  inside_above = add_above Square Mixed 40 (lit≤ tt) square_minus square_above mixed_below.finite mixed_not_below inside_below.finite

  inside_minus : minus (Square ⊕ Mixed) ≡ false
  inside_minus = add_plus Square Mixed 40 square_minus square_above mixed_below.finite mixed_not_below inside_below.finite

  inside_positive : T (positive (Square ⊕ Mixed))
  inside_positive = positive_of (Square ⊕ Mixed) 40 inside_minus inside_above

  touching_below : Below 7 (touching_at rb r)
  touching_below = root_below (Square ⊕ Mixed) 7 (lit≤ tt) (add-fits binary64 Square Mixed)
      (not_negative (Square ⊕ Mixed) inside_below.finite inside_minus) inside_below

  touching_above : Above 20 (touching_at rb r)
  unfolding fits
  touching_above = root_least (Square ⊕ Mixed) (fin false 1 (negsuc 19)) inside_positive (add-fits binary64 Square Mixed) tt tt
      inside_above.size

  touching_minus : minus (touching_at rb r) ≡ false
  touching_minus = positive_plus (touching_at rb r) (root_positive (Square ⊕ Mixed) inside_positive (add-fits binary64 Square Mixed))

  -- the quotient of the angle, and the angle
  pub quotient_below : Below 26 (r ⊘ touching_at rb r)
  quotient_below = div_below r (touching_at rb r) 6 20 (lit≤ tt) hr.length.below touching_above

  theta_below : Below 13 (angle_of r (touching_at rb r))
  theta_below =
      angle_below r (touching_at rb r) (weaker (r ⊘ touching_at rb r) 26 500 (lit≤ tt) quotient_below)
      (div_minus r (touching_at rb r) hr.length.below.finite touching_below.finite (above_num (touching_at rb r) 20 touching_above)
      hr.not_minus touching_minus)

  pub section_below : FourBelow 1023 (fillet_section_of rb r)
  unfolding fillet_section_of
  section_below = section_with_lem rb r (touching_at rb r) (angle_of r (touching_at rb r)) hb.length.below hr.length.below touching_below
      theta_below

  -- so of the section 22 could be given for its area alone, where that is not above 0
  pub section_finite : is_sound (fillet_section_of rb r) ≡ lt (bits 0) (fillet_section_of rb r).area_m2
  unfolding is_sound
  section_finite =
      let s = fillet_section_of rb r in
      let b = section_below in
      rw (
        is_finite_lem s.sx_m3 b.sx.finite,
        is_finite_lem s.sxx_m4 b.sxx.finite,
        is_finite_lem s.syy_m4 b.syy.finite,
        and_true (lt (bits 0) s.area_m2),
        and_true (lt (bits 0) s.area_m2),
        and_true (lt (bits 0) s.area_m2),
      )
    where
      is_finite_lem : (x : Float) → T (finite x) → is_finite x ≡ true
      is_finite_lem nan i = absurd i
      is_finite_lem (inf t) i = absurd i
      is_finite_lem (fin t m e) i = refl

-- the same of radii whose checks accept
pub checked_finite : (rb r : Float) → T (fits binary64 rb) → T (fits binary64 r) → length_check body_radius_field rb ≡ Ok tt
    → length_check fillet_radius_field r ≡ Ok tt → lt (bits 0) rb ≡ true → lt (bits 0) r ≡ true
    → is_sound (fillet_section_of rb r) ≡ lt (bits 0) (fillet_section_of rb r).area_m2
checked_finite rb r fb fr cb cr pb pr = section_finite rb r (above_checked body_radius_field rb fb cb pb)
    (above_checked fillet_radius_field r fr cr pr)
