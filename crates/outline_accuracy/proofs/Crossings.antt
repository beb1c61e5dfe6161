-- The crossing of an outline's edge at a rounded height is near the exact one at the height that was meant, in units of the longest x times
-- the span over the edge's height. Assumes nothing.
use Rattle.accuracy.proofs.ToFractions.{first_power}
use Rattle.error_terms.proofs.Entries.{near_entry, full, sized_entry, many_low}
use mathlib.Core.Path.{◌≡◌, refl, sym, ap, ◌∙◌, subst}
use mathlib.Core.Bool.{Bool, true, false, cond}
use mathlib.Core.List.{List, [], ◌∷◌}
use Prim.Native.Nat.{ℕ, zero, suc, ◌+◌, ◌*◌, ◌^◌, ◌≤◌, ◌<◌}
use native.Mathlib.Nat.{mul-pos, mul-le-mul_right, lt_irrefl, one-mul, mul-one, zero-mul, mul-zero, zero-add, add-zero, pow-zero}
use native.Mathlib.Omega.{arith}
use lib.Dec.{T, eqb, eqb→eq, ltb→lt}
use lib.Pow.{pow_pos, pow_mono}
use lib.Ieee.{Float, nan, inf, fin, binary64, up, down, neg, sub, div, unlike, round}
use lib.Ieee.Scale.{finite}
use lib.Ieee.Positive.{num, den, den_pos, positive}
use Rattle.floats.specs.Operations.{◌⊕◌, ◌⊖◌, ◌⊗◌, ◌⊘◌}
use Rattle.rounding.proofs.Signs.{sign, round_sign}
use Rattle.chords.specs.Chords.{crossing_at}
use Rattle.rounding_error.proofs.Numbers.{Number, number, Size, ◌per◌, ◌of◌, ◌upto◌, ◌plus◌, ◌less◌, ◌times◌, ◌roundoffs◌, IsNumber, Under}
use Rattle.rounding_error.proofs.Numbers.{Near, Ranges, zero_number, value_of, size_of}
use Rattle.rounding_error.proofs.Distances.{sorted, within_upto}
use Rattle.rounding_error.proofs.Operations.{near_same}
use Rattle.rounding_error.proofs.Counts as Counts
use Rattle.rounding_error.proofs.Polynomials.{Expression, given as at_place, ratio, ◌add◌, ◌take◌, ◌mul◌, equal_by, evaluated_is}
use Rattle.rounding_error.proofs.Polynomials.{AllNumbers}
use Rattle.error_terms.proofs.Monomials.{top, bottom, place, AllRanges}
use Rattle.error_terms.proofs.Laws.{inverse_of, inverse_is, Reaches}
use Rattle.error_terms.proofs.Terms.{shape, Given, entry, larger, Term, var, raised, ◌add◌ as ◌add_t◌, ◌take◌ as ◌take_t◌, ◌mul◌ as ◌mul_t◌}
use Rattle.error_terms.proofs.Terms.{◌over◌, AllKnown, unit_by}
use Rattle.error_terms.proofs.Sound.{unit_real}
use Rattle.error_terms.proofs.Judged.{near_within}
use Rattle.error_terms.proofs.Orders.{near_above}

ruleset plain = (sorted, one-mul, mul-one, zero-mul, mul-zero, zero-add, add-zero)

-- ---- a quotient by an f64 below 0
back : (x : Float) → neg (neg x) ≡ x
unfolding neg
back nan = refl
back (inf true) = refl
back (inf false) = refl
back (fin true m e) = refl
back (fin false m e) = refl

other_sign : (s : Bool) (a c : ℕ) → round binary64 (unlike s true) a c ≡ neg (round binary64 (unlike s false) a c)
unfolding sign
other_sign true a c = sym (back (round binary64 false a c)) ∙ ap neg (sym (round_sign binary64 true a c))
other_sign false a c = round_sign binary64 true a c

over_negative : (x y : Float) → T (positive (neg y)) → x ⊘ y ≡ neg (x ⊘ neg y)
unfolding div neg
over_negative x nan p = absurd p
over_negative x (inf true) p = absurd p
over_negative x (inf false) p = absurd p
over_negative x (fin false n d) p = absurd p
over_negative nan (fin true n d) p = refl
over_negative (inf true) (fin true n d) p = refl
over_negative (inf false) (fin true n d) p = refl
over_negative (fin s m e) (fin true n d) p = go (eqb n 0) (eqb→eq n 0)
  where
    go : (b : Bool) → (T b → n ≡ 0)
        → cond b (cond (eqb m 0) nan (inf (unlike s true))) (round binary64 (unlike s true) (m * up e * down d) (n * up d * down e))
        ≡ neg (cond b (cond (eqb m 0) nan (inf (unlike s false))) (round binary64 (unlike s false) (m * up e * down d) (n * up d * down e)))
    go true z = absurd (lt_irrefl 0 (rw (z tt) at (ltb→lt 0 n p)))
    go false z = other_sign s (m * up e * down d) (n * up d * down e)

fallen : (x y z : Float) → T (positive (neg z)) → x ⊕ y ⊘ z ≡ x ⊖ y ⊘ neg z
unfolding sub
fallen x y z p = ap (λ (w : Float). x ⊕ w) (over_negative y z p)

-- ---- the difference of two heights, as near as its own size allows
pub some : (a c : ℕ) → 0 < c → c ≤ a * 2 ^ 32 → 0 < a
some zero c C h = absurd (let z = zero-mul (2 ^ 32) in let n : ⊥ = omega (arith, z) in n)
some (suc a) c C h = omega arith

twice_reaches : (a c : ℕ) (v : Number) → Reaches 1 a c v → Reaches 2 a (c * 2 ^ 53) v
twice_reaches a c (number q m e) h = go (2 ^ 53) (pow_mono {i = 1} {j = 53} (omega arith)) (mul-le-mul_right (2 ^ 53) h)
  where
    go : (P : ℕ) → 2 ^ 1 ≤ P → (1 * a * e + m * c) * P ≤ q * c * P → 2 * a * e + m * (c * P) ≤ q * (c * P)
    go P l u = let x = simp plain at u in let y = simp plain at (mul-le-mul_right (a * e) l) in simp plain (omega (arith, x, y))

-- D stands for v, the edge's height a / c, by one rounding
pub record Divisor (D : Float) (v : Number) (a c : ℕ) : Type 0 where
  pub near : Near D v (1 roundoffs (a per c))
  pub size : Under (1 of (a per c)) v
  pub reaches : Reaches 1 a c v
  pub is : IsNumber v
  pub ranges : Ranges 32 (a per c)

divisor_positive : (D : Float) (v : Number) (a c : ℕ) → Divisor D v a c → T (positive D)
divisor_positive D v a c g =
    near_above D v 1 a c (some a c g.ranges.real g.ranges.least) g.ranges.real g.is g.near
    (twice_reaches a c v g.reaches)

-- H stands for the height η, within k unit roundoffs of the span; no x is over b / d, and no height over the span
pub record EdgeGiven (H xp yp xq span : Float) (η : Number) (k b d : ℕ) : Type 0 where
  pub span_positive : T (positive span)
  pub span_ranges : Ranges 32 (size_of span)
  pub ranges : Ranges 32 (b per d)
  pub xp_finite : T (finite xp)
  pub xq_finite : T (finite xq)
  pub yp_finite : T (finite yp)
  pub xp_under : Under (1 of (b per d)) (value_of xp)
  pub xq_under : Under (1 of (b per d)) (value_of xq)
  pub yp_under : Under (1 of size_of span) (value_of yp)
  pub height_is : IsNumber η
  pub height_near : Near H η (k roundoffs size_of span)
  pub height_under : Under (1 of size_of span) η

-- the variables: x_p, the height, y_p, x_q, the edge's height
abbrev rise_t : Term
rise_t = raised 5 (var 0) add_t ((var 1 take_t var 2) mul_t (var 3 take_t var 0) over 4)

abbrev fall_t : Term
fall_t = raised 5 (var 0) take_t ((var 1 take_t var 2) mul_t (var 3 take_t var 0) over 4)

abbrev rise_e : Expression
rise_e = at_place 0 add (at_place 2 take at_place 4) mul (at_place 6 take at_place 0) mul at_place 9

abbrev fall_e : Expression
fall_e = at_place 0 take (at_place 2 take at_place 4) mul (at_place 6 take at_place 0) mul at_place 9

-- x at the height η of the edge from (x_p, y_p) on, with x_q at its other end and 1 over its rise
abbrev pub line_at : Number → Number → Number → Number → Number → Number
line_at xp yp xq inv η = xp plus (η less yp) times (xq less xp) times inv

module _ (H xp yp xq span D : Float) (η v : Number) (b d a c : ℕ) (g : EdgeGiven H xp yp xq span η 11 b d) (s : Divisor D v a c)
    (most : (a per c) upto size_of span) where
  abbrev bases : List Size
  bases = (b per d) ∷ size_of span ∷ (a per c) ∷ []

  ranges : AllRanges 32 bases
  ranges = (g.ranges, (g.span_ranges, (s.ranges, tt)))

  abbrev entries : List Given
  entries =
      entry xp (value_of xp) (shape 0 full (place 0) []) 0 ∷
      entry H η (shape (11 * 2 ^ 30) full (place 1) []) 0 ∷
      entry yp (value_of yp) (shape 0 full (place 1) []) 0 ∷
      entry xq (value_of xq) (shape 0 full (place 0) []) 0 ∷
      entry D v (shape (1 * 2 ^ 30) full (place 2) []) full ∷
      larger 2 1 ∷
      []

  all : AllKnown bases entries
  all = (
    (sized_entry bases 0 b d refl xp g.ranges.real g.xp_finite g.xp_under, tt),
    (
      (near_entry bases 1 (num span) (den span) refl H η 11 (den_pos span) g.height_is g.height_near g.height_under, tt),
      (
        (sized_entry bases 1 (num span) (den span) refl yp (den_pos span) g.yp_finite g.yp_under, tt),
        (
          (sized_entry bases 0 b d refl xq g.ranges.real g.xq_finite g.xq_under, tt),
          (
            (
              near_entry bases 2 a c refl D v 1 s.ranges.real s.is s.near s.size,
              (divisor_positive D v a c s, many_low bases 2 a c refl v 1 s.reaches),
            ),
            (most, tt),
          ),
        ),
      ),
    ),
  )

  rise_near : Near (xp ⊕ (H ⊖ yp) ⊗ (xq ⊖ xp) ⊘ D) (line_at (value_of xp) (value_of yp) (value_of xq) (inverse_of v) η)
      ((48 * 2 ^ 30) roundoffs unit_by bases (1 ∷ 1 ∷ []) (0 ∷ 0 ∷ 1 ∷ []))
  rise_near = near_within bases ranges entries all rise_t rise_e (48 * 2 ^ 30) (1 ∷ 1 ∷ []) (0 ∷ 0 ∷ 1 ∷ []) tt

  fall_near : Near (xp ⊖ (H ⊖ yp) ⊗ (xq ⊖ xp) ⊘ D)
      (value_of xp less (η less value_of yp) times (value_of xq less value_of xp) times inverse_of
      v)
      ((48 * 2 ^ 30) roundoffs unit_by bases (1 ∷ 1 ∷ []) (0 ∷ 0 ∷ 1 ∷ []))
  fall_near = near_within bases ranges entries all fall_t fall_e (48 * 2 ^ 30) (1 ∷ 1 ∷ []) (0 ∷ 0 ∷ 1 ∷ []) tt

-- ---- an edge that rises or falls, in units of the longest x times the span over a height that the edge's is at least

flatter : (b d a c n m e f s t k : ℕ) → e * c ≤ a * f
    → k roundoffs unit_by ((b per d) ∷ (n per m) ∷ (a per c) ∷ []) (1 ∷ 1 ∷ []) (0 ∷ 0 ∷ 1 ∷ [])
    upto k roundoffs unit_by ((b per d) ∷ (n per m) ∷ (s per t) ∷ (e per f) ∷ []) (1 ∷ 1 ∷ []) (0 ∷ 0 ∷ 0 ∷ 1 ∷ [])
flatter b d a c n m e f s t k h =
    rw (
      first_power b,
      first_power n,
      first_power d,
      first_power m,
      first_power a,
      first_power c,
      first_power e,
      first_power f,
      pow-zero b,
      pow-zero n,
      pow-zero d,
      pow-zero m,
      pow-zero s,
      pow-zero t,
    )
    (go (2 ^ 30) (2 ^ 53) (mul-le-mul_right (k * b * n * d * m * 2 ^ 30 * 2 ^ 53) h))
  where
    go : (P Q : ℕ) → e * c * (k * b * n * d * m * P * Q) ≤ a * f * (k * b * n * d * m * P * Q)
        → k * (b * (n * 1) * (1 * (1 * (c * 1)))) * (d * (m * 1) * (1 * (1 * (1 * (e * 1)))) * P * Q)
        ≤ k * (b * (n * 1) * (1 * (1 * (1 * (f * 1))))) * (d * (m * 1) * (1 * (1 * (a * 1))) * P * Q)
    go P Q u = let x = simp plain at u in simp plain (omega (arith, x))

-- 1 over the rise from p to q, which is below 0 where the edge falls: v is its height
abbrev pub rise_inverse : Bool → Number → Number
rise_inverse true v = inverse_of v
rise_inverse false v = zero_number less inverse_of v

-- the divisor of an edge that rises, and of one that falls
abbrev pub Slope : Bool → Float → Number → ℕ → ℕ → Type 0
Slope true D v a c = Divisor D v a c
Slope false D v a c = Divisor (neg D) v a c

divisor_inverse : (D : Float) (v : Number) (a c : ℕ) → Divisor D v a c → IsNumber (inverse_of v)
divisor_inverse D v a c s = inverse_is v a c 1 (some a c s.ranges.real s.ranges.least) s.ranges.real (omega arith) s.is
    s.reaches

pub slope_inverse : (rises : Bool) (D : Float) (v : Number) (a c : ℕ) → Slope rises D v a c → IsNumber (inverse_of v)
slope_inverse true D v a c s = divisor_inverse D v a c s
slope_inverse false D v a c s = divisor_inverse (neg D) v a c s

pub slope_is : (rises : Bool) (D : Float) (v : Number) (a c : ℕ) → Slope rises D v a c → IsNumber (rise_inverse rises v)
slope_is true D v a c s = divisor_inverse D v a c s
slope_is false D v a c s = Counts.less_is zero_number (inverse_of v) (pow_pos 0) (divisor_inverse (neg D) v a c s)

module _ (H xp yp xq yq span : Float) (η : Number) (b d e f : ℕ) (scale : Size) (g : EdgeGiven H xp yp xq span η 11 b d) where
  abbrev pub steep_unit : Size
  steep_unit = unit_by ((b per d) ∷ size_of span ∷ scale ∷ (e per f) ∷ []) (1 ∷ 1 ∷ []) (0 ∷ 0 ∷ 0 ∷ 1 ∷ [])

  module _ (v : Number) (a c : ℕ) (least : (e per f) upto (a per c)) (most : (a per c) upto size_of span) where
    wider : (x : Float) (w : Number) → Ranges 32 (a per c)
        → Near x w ((48 * 2 ^ 30) roundoffs unit_by ((b per d) ∷ size_of span ∷ (a per c) ∷ []) (1 ∷ 1 ∷ []) (0 ∷ 0 ∷ 1 ∷ []))
        → Near x w ((48 * 2 ^ 30) roundoffs steep_unit)
    wider x w r n =
        record {
          finite = n.finite;
          within =
              within_upto ((48 * 2 ^ 30) roundoffs unit_by ((b per d) ∷ size_of span ∷ (a per c) ∷ []) (1 ∷ 1 ∷ []) (0 ∷ 0 ∷ 1 ∷ []))
              ((48 * 2 ^ 30) roundoffs steep_unit) (value_of x) w
              (mul-pos (unit_real ((b per d) ∷ size_of span ∷ (a per c) ∷ []) (g.ranges, (g.span_ranges, (r, tt))) (1 ∷ 1 ∷ [])
              (0 ∷ 0 ∷ 1 ∷ []))
              (pow_pos 53))
              (flatter b d a c (num span) (den span) e f (top scale) (bottom scale) (48 * 2 ^ 30) least) n.within;
        }

    pub crossing_near : (rises : Bool) → Slope rises (yq ⊖ yp) v a c
        → Near (crossing_at H xp yp xq yq) (line_at (value_of xp) (value_of yp) (value_of xq) (rise_inverse rises v) η)
        ((48 * 2 ^ 30) roundoffs steep_unit)
    crossing_near true s = wider _ _ s.ranges (rise_near H xp yp xq span (yq ⊖ yp) η v b d a c g s most)
    crossing_near false s =
        let D = yq ⊖ yp in
        let l = value_of xp ∷ value_of yp ∷ value_of xq ∷ inverse_of v ∷ η ∷ [] in
        let inverse_real = divisor_inverse (neg D) v a c s in
        let numbers : AllNumbers l = (Counts.value_is xp, (Counts.value_is yp, (Counts.value_is xq, (inverse_real, (g.height_is, tt))))) in
        let taken = (at_place 4 take at_place 1) mul (at_place 2 take at_place 0) in
        subst (λ (x : Float). Near x (line_at (value_of xp) (value_of yp) (value_of xq) (rise_inverse false v) η)
        ((48 * 2 ^ 30) roundoffs steep_unit))
        (sym (fallen xp ((H ⊖ yp) ⊗ (xq ⊖ xp)) D (divisor_positive (neg D) v a c s)))
        (near_same _ (value_of xp less (η less value_of yp) times (value_of xq less value_of xp) times inverse_of v)
        (line_at (value_of xp) (value_of yp) (value_of xq) (rise_inverse false v) η) ((48 * 2 ^ 30) roundoffs steep_unit)
        (evaluated_is l numbers (at_place 0 take taken mul at_place 3))
        (wider _ _ s.ranges (fall_near H xp yp xq span (neg D) η v b d a c g s most))
        (equal_by l numbers (at_place 0 take taken mul at_place 3) (at_place 0 add taken mul (ratio 0 0 take at_place 3)) tt).same)
