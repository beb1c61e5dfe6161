-- An edge that spans a strip: how far x on it may be from 0, and what it is divided by. Assumes nothing.
use mathlib.Core.Path.{◌≡◌, sym, subst}
use mathlib.Core.Bool.{Bool, true, false}
use mathlib.Core.List.{[], ◌∷◌}
use Prim.Native.Nat.{ℕ, ◌+◌, ◌-◌, ◌*◌, ◌^◌, ◌≤◌, ◌<◌}
use native.Mathlib.Nat.{mul-le-mul_left, le_of_mul-le-mul_right, one-mul, mul-one, zero-mul, mul-zero, zero-add, add-zero}
use native.Mathlib.Omega.{arith}
use lib.Dec.{T}
use lib.Pow.{pow_pos}
use lib.Ieee.{Float, neg}
use lib.Ieee.Scale.{finite}
use Rattle.floats.specs.Operations.{◌⊖◌}
use Rattle.rounding_error.proofs.Numbers.{Number, number, Size, ◌per◌, ◌of◌, ◌upto◌, ◌plus◌, minus, ◌less◌, ◌times◌, ◌roundoffs◌, IsNumber}
use Rattle.rounding_error.proofs.Numbers.{IsSize, Within, Under, Near, Ranges, zero_number, value_of}
use Rattle.rounding_error.proofs.Distances.{sorted, within_minus, within_sym, within_same}
use Rattle.rounding_error.proofs.Operations.{sub_exact, neg_value, near_same}
use Rattle.rounding_error.proofs.Counts as Counts
use Rattle.rounding_error.proofs.Ranges.{in_range}
use Rattle.rounding.proofs.Signs.{neg_finite}
use Rattle.rounding_error.proofs.Polynomials.{given, ratio, ◌add◌, ◌take◌, ◌mul◌, ◌equals◌, equal_by, evaluated_is, evaluated_equal, itself}
use Rattle.rounding_error.proofs.Polynomials.{trans, AllNumbers}
use Rattle.error_terms.proofs.Monomials.{top, bottom}
use Rattle.error_terms.proofs.Laws.{inverse_of}
use Rattle.error_terms.proofs.Floors.{NotBelow, times_not_below, plus_not_below, under_both}
use Rattle.outline_accuracy.proofs.Signs.{equal_not_below, extent_of, extent_under}
use Rattle.outline_accuracy.proofs.Crossings.{Divisor, Slope, rise_inverse, line_at, some}

ruleset plain = (sorted, one-mul, mul-one, zero-mul, mul-zero, zero-add, add-zero)

-- a >= b >= c
pub chain_not_below : (a b c : Number) → IsNumber a → IsNumber b → IsNumber c → NotBelow (a less b) → NotBelow (b less c) → NotBelow
    (a less c)
chain_not_below a b c A B C h k =
    equal_not_below (evaluated_is (a ∷ b ∷ c ∷ []) (A, (B, (C, tt))) ((given 0 take given 1) add (given 1 take given 2)))
    (equal_by (a ∷ b ∷ c ∷ []) (A, (B, (C, tt))) ((given 0 take given 1) add (given 1 take given 2)) (given 0 take given 2) tt)
    (plus_not_below (a less b) (b less c) h k)

split : {n p : ℕ} → n ≤ p → p ≡ n + (p - n)
split h = omega arith

pub times_inverse : (v : Number) → NotBelow v → v times inverse_of v equals number 1 0 1
times_inverse (number q m e) h = record { same = go (q - m) (split h) }
  where
    go : (x : ℕ) → q ≡ m + x → (q * e + m * 0) * 1 + 0 * (e * x) ≡ 1 * (e * x) + (q * 0 + m * e) * 1
    go x f = subst (λ (q : ℕ). (q * e + m * 0) * 1 + 0 * (e * x) ≡ 1 * (e * x) + (q * 0 + m * e) * 1) (sym f) (simp plain (omega arith))

pub equal_under : (e : Size) {x y : Number} → IsNumber x → x equals y → Under e x → Under e y
equal_under e {x = x} {y = y} X f u = within_sym e zero_number y (within_same e zero_number x y X (within_sym e x zero_number u) f.same)

inverse_not_below : (v : Number) → NotBelow (inverse_of v)
inverse_not_below (number q m e) = omega arith

-- ---- the share of the way from p to q
-- x on an edge, by its share, is no larger than its ends
pub shared_under : (b d : ℕ) (xp xq share : Number) → 0 < d → IsNumber xp → IsNumber xq → IsNumber share → Under (1 of (b per d)) xp →
    Under (1 of (b per d)) xq
    → NotBelow share → NotBelow (number 1 0 1 less share) → Under (1 of (b per d)) (xp plus share times (xq less xp))
shared_under b d xp xq λ₀ D P Q S hp hq s t =
    let L = number b 0 d in
    let l = L ∷ xp ∷ xq ∷ λ₀ ∷ [] in
    let i : AllNumbers l = (D, (P, (Q, (S, tt)))) in
    let x = given 1 add given 3 mul (given 2 take given 1) in
    let up = (ratio 1 0 take given 3) mul (given 0 take given 1) add given 3 mul (given 0 take given 2) in
    let down = (ratio 1 0 take given 3) mul (given 0 add given 1) add given 3 mul (given 0 add given 2) in
    under_both b d (xp plus λ₀ times (xq less xp))
    (equal_not_below (evaluated_is l i up) (equal_by l i up (given 0 take x) tt)
    (plus_not_below ((number 1 0 1 less λ₀) times (L less xp)) (λ₀ times (L less xq))
    (times_not_below (number 1 0 1 less λ₀) (L less xp) t (above b d xp hp))
    (times_not_below λ₀ (L less xq) s (above b d xq hq))))
    (equal_not_below (evaluated_is l i down) (equal_by l i down (given 0 add x) tt)
    (plus_not_below ((number 1 0 1 less λ₀) times (L plus xp)) (λ₀ times (L plus xq))
    (times_not_below (number 1 0 1 less λ₀) (L plus xp) t (below b d xp hp))
    (times_not_below λ₀ (L plus xq) s (below b d xq hq))))
  where
    above : (b d : ℕ) (v : Number) → Under (1 of (b per d)) v → NotBelow (number b 0 d less v)
    above b d (number p n e) u = go u.below
      where
        go : (p * 1 + 0 * e) * d ≤ (0 * e + n * 1) * d + 1 * b * (e * 1) → 0 * e + p * d ≤ b * e + n * d
        go w = let x = simp plain at w in simp plain (omega (arith, x))

    below : (b d : ℕ) (v : Number) → Under (1 of (b per d)) v → NotBelow (number b 0 d plus v)
    below b d (number p n e) u = go u.above
      where
        go : (0 * e + n * 1) * d ≤ (p * 1 + 0 * e) * d + 1 * b * (1 * e) → 0 * e + n * d ≤ b * e + p * d
        go w = let x = simp plain at w in simp plain (omega (arith, x))

-- one end of the edge is below the other: from the lower to the upper, by whether it rises from p to q
abbrev pub lower_end : Bool → Number → Number → Number
lower_end true yp yq = yp
lower_end false yp yq = yq

abbrev pub upper_end : Bool → Number → Number → Number
upper_end true yp yq = yq
upper_end false yp yq = yp

abbrev pub height_of : Bool → Number → Number → Number
height_of rises yp yq = upper_end rises yp yq less lower_end rises yp yq

module _ (yp yq η : Number) (P : IsNumber yp) (Q : IsNumber yq) (N : IsNumber η) where
  abbrev pub share_of : Bool → Number
  share_of rises = (η less yp) times rise_inverse rises (height_of rises yp yq)

  numbers : (i : Number) → IsNumber i → AllNumbers (yp ∷ yq ∷ η ∷ i ∷ [])
  numbers i I = (P, (Q, (N, (I, tt))))

  -- the other share: v·(1/v) stands for 1
  rest_by : (o : Number) → IsNumber o → o equals number 1 0 1 → (s t : Number) → IsNumber s → IsNumber t → t equals (o less s)
      → NotBelow t → NotBelow (number 1 0 1 less s)
  rest_by o O e s t S U f h =
      equal_not_below U
      (trans (evaluated_is (o ∷ s ∷ []) (O, (S, tt)) (given 0 take given 1)) f
      (evaluated_equal (o ∷ s ∷ []) (number 1 0 1 ∷ s ∷ []) (O, (S, tt)) (pow_pos 0, (S, tt)) (e, (itself, tt)) (given 0 take given 1))) h

  -- both are not below 0 between the ends
  pub shares : (rises : Bool) → IsNumber (inverse_of (height_of rises yp yq)) → NotBelow (height_of rises yp yq) → NotBelow
      (η less lower_end rises yp yq)
      → NotBelow (upper_end rises yp yq less η) → IsNumber (share_of rises) ×
      (NotBelow (share_of rises) × NotBelow (number 1 0 1 less share_of rises))
  shares true I v h k =
      let i = inverse_of (yq less yp) in
      let l = yp ∷ yq ∷ η ∷ i ∷ [] in
      let L = numbers i I in
      let s_e = (given 2 take given 0) mul given 3 in
      let t_e = (given 1 take given 2) mul given 3 in
      let o_e = (given 1 take given 0) mul given 3 in (
        evaluated_is l L s_e,
        (
          times_not_below (η less yp) i h (inverse_not_below (yq less yp)),
          rest_by ((yq less yp) times i) (evaluated_is l L o_e) (times_inverse (yq less yp) v) (share_of true) ((yq less η) times i)
              (evaluated_is l L s_e)
              (evaluated_is l L t_e) (equal_by l L t_e (o_e take s_e) tt)
              (times_not_below (yq less η) i k (inverse_not_below (yq less yp))),
        ),
      )
  shares false I v h k =
      let i = inverse_of (yp less yq) in
      let l = yp ∷ yq ∷ η ∷ i ∷ [] in
      let L = numbers i I in
      let s_e = (given 2 take given 0) mul (ratio 0 0 take given 3) in
      let s'e = (given 0 take given 2) mul given 3 in
      let t_e = (given 2 take given 1) mul given 3 in
      let o_e = (given 0 take given 1) mul given 3 in (
        evaluated_is l L s_e,
        (
          equal_not_below (evaluated_is l L s'e) (equal_by l L s'e s_e tt)
              (times_not_below (yp less η) i k (inverse_not_below (yp less yq))),
          rest_by ((yp less yq) times i) (evaluated_is l L o_e) (times_inverse (yp less yq) v) (share_of false) ((η less yq) times i)
              (evaluated_is l L s_e)
              (evaluated_is l L t_e) (equal_by l L t_e (o_e take s_e) tt)
              (times_not_below (η less yq) i h (inverse_not_below (yp less yq))),
        ),
      )

  pub line_under : (rises : Bool) (xp xq : Number) (b d : ℕ) → 0 < d → IsNumber xp → IsNumber xq → Under (1 of (b per d)) xp → Under
      (1 of (b per d)) xq
      → IsNumber (inverse_of (height_of rises yp yq)) → IsNumber (rise_inverse rises (height_of rises yp yq))
      → NotBelow (height_of rises yp yq)
      → NotBelow (η less lower_end rises yp yq) → NotBelow (upper_end rises yp yq less η)
      → Under (1 of (b per d)) (line_at xp yp xq (rise_inverse rises (height_of rises yp yq)) η)
  line_under rises xp xq b d D XP XQ up uq I J v h k =
      let s = shares rises I v h k in
      let inv = rise_inverse rises (height_of rises yp yq) in
      let l = xp ∷ yp ∷ xq ∷ inv ∷ η ∷ [] in
      let L : AllNumbers l = (XP, (P, (XQ, (J, (N, tt))))) in
      let x = given 0 add ((given 4 take given 1) mul given 3) mul (given 2 take given 0) in
      let y = given 0 add (given 4 take given 1) mul (given 2 take given 0) mul given 3 in
      equal_under (1 of (b per d)) (evaluated_is l L x) (equal_by l L x y tt)
      (shared_under b d xp xq (share_of rises) D XP XQ s.0 up uq s.1.0 s.1.1)

-- ---- the divisor: the difference of the ends' heights, by one rounding
sub_near : (x y : Float) (E : Size) → T (finite x) → T (finite y) → Ranges 32 E → Under (1 of E) (value_of x less value_of y)
    → Near (x ⊖ y) (value_of x less value_of y) (1 roundoffs E)
sub_near x y (a per c) f g r u =
    sub_exact x y (1 of (a per c)) f g (Counts.normal_size 1 (a per c) (omega arith) (omega arith) (in_range 32 (a per c) (omega arith) r))
    u

divisor_by : (D : Float) (v : Number) → NotBelow v → IsNumber v → Ranges 32 (extent_of v) →
    (Under (1 of extent_of v) v → Near D v (1 roundoffs extent_of v))
    → Divisor D v (top (extent_of v)) (bottom (extent_of v))
divisor_by D (number q m e) h i r n =
    let u = extent_under (number q m e) h in
    record { near = n u; size = u; reaches = go (q - m) (split h); is = i; ranges = r }
  where
    go : (x : ℕ) → q ≡ m + x → 1 * x * e + m * e ≤ q * e
    go x f = subst (λ (q : ℕ). 1 * x * e + m * e ≤ q * e) (sym f) (simp plain (omega arith))

turned : (x y : Number) → minus (x less y) equals y less x
turned (number p n d) (number q m e) = record { same = simp plain (omega arith) }

neg_near : (x : Float) (v : Number) (e : Size) → Near x v e → Near (neg x) (minus v) e
neg_near x v e n =
    record {
      finite = subst T (sym (neg_finite x)) n.finite;
      within = subst (λ (w : Number). Within e w (minus v)) (sym (neg_value x)) (within_minus e (value_of x) v n.within);
    }

pub slope_of : (rises : Bool) (yp yq : Float) → T (finite yp) → T (finite yq) → NotBelow (height_of rises (value_of yp) (value_of yq))
    → Ranges 32 (extent_of (height_of rises (value_of yp) (value_of yq)))
    → Slope rises (yq ⊖ yp) (height_of rises (value_of yp) (value_of yq)) (top (extent_of (height_of rises (value_of yp) (value_of yq))))
    (bottom (extent_of (height_of rises (value_of yp) (value_of yq))))
slope_of true yp yq f g h r =
    let v = value_of yq less value_of yp in
    divisor_by (yq ⊖ yp) v h (Counts.less_is (value_of yq) (value_of yp) (Counts.value_is yq) (Counts.value_is yp)) r
    (λ u. sub_near yq yp (extent_of v) g f r u)
slope_of false yp yq f g h r =
    let v = value_of yp less value_of yq in
    let w = value_of yq less value_of yp in
    let V' = Counts.less_is (value_of yp) (value_of yq) (Counts.value_is yp) (Counts.value_is yq) in
    let W = Counts.less_is (value_of yq) (value_of yp) (Counts.value_is yq) (Counts.value_is yp) in
    divisor_by (neg (yq ⊖ yp)) v h V' r
    (λ u. near_same (neg (yq ⊖ yp)) (minus w) v (1 roundoffs extent_of v) (minus_is w W)
    (neg_near (yq ⊖ yp) w (1 roundoffs extent_of v)
    (sub_near yq yp (extent_of v) g f r
    (equal_under (1 of extent_of v) (minus_is v V') (turned (value_of yp) (value_of yq)) (Counts.under_minus (1 of extent_of v) v u))))
    (turned (value_of yq) (value_of yp)).same)
  where
    minus_is : (x : Number) → IsNumber x → IsNumber (minus x)
    minus_is (number p n d) i = i

-- ---- the edge's height is at least the strip's, and at most the span
pub extent_most : (v : Number) (N D : ℕ) → NotBelow v → NotBelow (number N 0 D less v) → extent_of v upto (N per D)
extent_most (number p n d) N D l h = go (p - n) (subst (λ (p : ℕ). 0 * d + p * D ≤ N * d + n * D) (split l) h)
  where
    go : (x : ℕ) → 0 * d + (n + x) * D ≤ N * d + n * D → x * D ≤ N * d
    go x u = let z = simp plain at u in simp plain (omega (arith, z))

pub ranges_between : (A E B : Size) → Ranges 32 A → Ranges 32 B → IsSize E → A upto E → E upto B → Ranges 32 E
ranges_between (a per c) (e per f) (b per d) r s E h k =
    record {
      real = E;
      least = le_of_mul-le-mul_right (low (2 ^ 32) r.least h) (some a c r.real r.least);
      most = le_of_mul-le-mul_right (high (2 ^ 32) s.most k) s.real;
    }
  where
    low : (P : ℕ) → c ≤ a * P → a * f ≤ e * c → f * a ≤ e * P * a
    low P u v = let x = simp plain at (mul-le-mul_left e u) in simp plain (omega (arith, x, v))

    high : (P : ℕ) → b ≤ d * P → e * d ≤ b * f → e * d ≤ f * P * d
    high P u v = let x = mul-le-mul_left f u in simp plain (omega (arith, x, v))
