-- The steps of the long division: the divisor widened, and digits of the quotient. Assumes nothing.
use mathlib.Core.Path.{◌≡◌, refl, sym, ap, ◌∙◌}
use Prim.Native.Nat.{ℕ, suc, ◌+◌, ◌-◌, ◌*◌, ◌/◌, ◌%◌, ◌^◌, ◌≤◌, ◌<◌}
use native.Mathlib.Nat.{mul_assoc, mul_comm, mul_right_comm, mul-one, mul-pos, mul-le-mul_right, mul-le-mul_left, mul-lt-mul_of_pos_right}
use native.Mathlib.Nat.{lt_of_mul-lt-mul_right, add-mul, le-div_iff_mul-le, div-lt_iff_lt-mul, lt_of_not-le, not-le_of_lt, lt_of_lt_of_le}
use native.Mathlib.Nat.{lt_of_le_of_lt, le_trans, le_of_eq, div-add-mod', div-le_self, mod-lt, mod-eq_of_lt}
use native.Mathlib.Omega.{arith}
use lib.Dec.{leb→le}
use lib.Count.{count_leading_zeros, leading_top}
use lib.Pow.{pow-add, pow_pos, pow_mono, shl_lt}
use Rattle.floats.proofs.Lifted.{Lifted, lifted}
use Rattle.decimals.specs.Parts.{WidenedTo, MoreDigits, DividedTo}

few : (a j x : ℕ) → 2 ^ a ≤ x → x < 2 ^ j → a < j
few a j x h g = lt_of_not-le (λ (f : j ≤ a). not-le_of_lt g (le_trans (pow_mono f) h))

-- ---- the divisor

pub not_widened : (n d : ℕ) → 0 < d → d ≤ 2 ^ 42 → n / d < 2 ^ 53 → WidenedTo n d d 0
not_widened n d D m h = record { is = sym (mul-one d); least = D; most = m; turns = omega arith; fits = (div-lt_iff_lt-mul D).0 h }

module _ (n d : ℕ) (small : n < 2 ^ 64) (D : 0 < d) (h : 2 ^ 53 ≤ n / d) where
  abbrev l : ℕ
  l = count_leading_zeros 64 (n / d)

  narrow : d ≤ 2 ^ 11
  narrow = let z = (le-div_iff_mul-le D).0 h in omega arith

  top : (j : ℕ) × (l + suc j ≡ 64) × (2 ^ j ≤ n / d) × (n / d < 2 ^ suc j)
  top = leading_top 64 (n / d) (omega arith) (lt_of_le_of_lt (div-le_self n d) small)

  past : 53 < suc top.0
  past = few 53 (suc top.0) (n / d) h top.3

  pub few_zeros : l ≤ 10
  few_zeros = let e = top.1 in let f = past in omega arith

  exactly : WidenedTo n d (d * 2 ^ (11 - l)) (11 - l)
  exactly =
      let s = 11 - l in
      let e = top.1 in
      let z = few_zeros in
      let j_is : suc top.0 ≡ 53 + s = omega arith in
      let in_all : 2 ^ suc top.0 * d ≡ 2 ^ 53 * (d * 2 ^ s) =
      ap (λ (x : ℕ). x * d) (ap (λ (x : ℕ). 2 ^ x) j_is ∙ pow-add 2 53 s) ∙ mul_assoc (2 ^ 53) (2 ^ s) d
      ∙ ap (λ (x : ℕ). 2 ^ 53 * x) (mul_comm (2 ^ s) d) in
      record {
        is = refl;
        least = mul-pos D (pow_pos s);
        most = le_trans (mul-le-mul_right (2 ^ s) narrow)
            (le_trans (mul-le-mul_left (2 ^ 11) (pow_mono (let y : s ≤ 11 = omega arith in y))) (leb→le (2 ^ 11 * 2 ^ 11) (2 ^ 42) tt));
        turns = omega arith;
        fits = lt_of_lt_of_le ((div-lt_iff_lt-mul D).0 top.3) (le_of_eq in_all);
      }

  pub is_widened : WidenedTo n d (d * 2 ^ (11 - l) % 2 ^ 64) (11 - l)
  is_widened = let w = exactly in rw (mod-eq_of_lt (let z = w.most in let y : d * 2 ^ (11 - l) < 2 ^ 64 = omega arith in y)) w

-- ---- digits

-- behind q, the quotient of the rest
step : (e z q r a : ℕ) → 0 < e → MoreDigits e z q r a (q * 2 ^ z + r * 2 ^ z / e) (r * 2 ^ z % e) (a + z)
step e z q r a E =
    let t = r * 2 ^ z in
    let split : t / e * e + t % e ≡ t = div-add-mod' t e in
    let left : (q * 2 ^ z + t / e) * e ≡ q * 2 ^ z * e + t / e * e = add-mul (q * 2 ^ z) (t / e) e in
    let right : (q * e + r) * 2 ^ z ≡ q * e * 2 ^ z + t = add-mul (q * e) r (2 ^ z) in
    let turn : q * 2 ^ z * e ≡ q * e * 2 ^ z = mul_right_comm q (2 ^ z) e in
    record { is = omega arith; rest = mod-lt t E; turns = refl }

-- as the code shifts
module _ (e z q r a : ℕ) (room : q * 2 ^ z < 2 ^ 53) (rest : r < e) (most : e ≤ 2 ^ 42) (turns : z ≤ 21) where
  rest_fits : r * 2 ^ z < 2 ^ 63
  rest_fits = lt_of_lt_of_le (shl_lt 42 z (let y : r < 2 ^ 42 = omega arith in y)) (pow_mono (let y : 42 + z ≤ 63 = omega arith in y))

  rest_is : r * 2 ^ z % 2 ^ 64 ≡ r * 2 ^ z
  rest_is = mod-eq_of_lt (let y = rest_fits in let x : r * 2 ^ z < 2 ^ 64 = omega arith in x)

  quotient_is : q * 2 ^ z % 2 ^ 64 ≡ q * 2 ^ z
  quotient_is = mod-eq_of_lt (let x : q * 2 ^ z < 2 ^ 64 = omega arith in x)

  pub sum_fits : q * 2 ^ z % 2 ^ 64 + r * 2 ^ z % 2 ^ 64 / e < 2 ^ 64
  sum_fits = let y = rest_fits in let x = div-le_self (r * 2 ^ z) e in rw (rest_is, quotient_is) (omega arith)

  pub stepped : MoreDigits e z q r a (q * 2 ^ z % 2 ^ 64 + r * 2 ^ z % 2 ^ 64 / e) (r * 2 ^ z % 2 ^ 64 % e) (a + z)
  stepped = rw (rest_is, quotient_is) (step e z q r a (omega arith))

-- a quotient by e that is below another
below : (a b e r : ℕ) → 0 < e → a * e + r < b * e → a < b
below a b e r E h = lt_of_mul-lt-mul_right e (let z : a * e < b * e = omega arith in z)

module _ (n e : ℕ) (E : 0 < e) (large : 2 ^ 53 ≤ n) (most : e ≤ 2 ^ 42) (fits : n < 2 ^ 53 * e) where
  abbrev first : ℕ
  first = n / e

  abbrev places : ℕ
  places = count_leading_zeros 64 first - 11

  abbrev half : ℕ
  half = places / 2

  split : first * e + n % e ≡ n
  split = div-add-mod' n e

  reach : 2 ^ 11 ≤ first
  reach = (le-div_iff_mul-le E).1 (le_trans (mul-le-mul_left (2 ^ 11) most) (le_trans (leb→le (2 ^ 11 * 2 ^ 42) (2 ^ 53) tt) large))

  pub lift : (11 ≤ count_leading_zeros 64 first) × Lifted first places
  lift = lifted first (let z = reach in omega arith) ((div-lt_iff_lt-mul E).1 fits)

  pub few_places : places ≤ 41
  few_places =
      let z : 2 ^ (11 + places) ≤ first * 2 ^ places = le_trans (le_of_eq (pow-add 2 11 places)) (mul-le-mul_right (2 ^ places) reach) in
      let y = few (11 + places) 53 (first * 2 ^ places) z lift.1.high in
      omega arith

  pub first_fits : first * 2 ^ half < 2 ^ 53
  first_fits = lt_of_le_of_lt (mul-le-mul_left first (pow_mono (let z : half ≤ places = omega arith in z))) lift.1.high

  -- the digits that are still to come stay below 2 ^ 53
  top_all : (first + 1) * 2 ^ places ≤ 2 ^ 53
  top_all =
      let p = few_places in
      let e' : 2 ^ 53 ≡ 2 ^ (53 - places) * 2 ^ places = ap (λ (x : ℕ). 2 ^ x) (let z : 53 ≡ 53 - places + places = omega arith in z)
      ∙ pow-add 2 (53 - places) places in
      let l : first < 2 ^ (53 - places) = lt_of_mul-lt-mul_right (2 ^ places) (lt_of_lt_of_le lift.1.high (le_of_eq e')) in
      let m : first + 1 ≤ 2 ^ (53 - places) = omega arith in
      le_trans (mul-le-mul_right (2 ^ places) m) (le_of_eq (sym e'))

  under : n < (first + 1) * e
  under = let z = mod-lt n E in let y = add-mul first 1 e in let x = split in omega arith

  module _ (q r a : ℕ) (m : MoreDigits e half first (n % e) 0 q r a) where
    one : q * e + r ≡ n * 2 ^ half
    one = m.is ∙ ap (λ (x : ℕ). x * 2 ^ half) split

    pub second_fits : q * 2 ^ (places - half) < 2 ^ 53
    second_fits =
        let a : n * 2 ^ half < (first + 1) * 2 ^ half * e = lt_of_lt_of_le (mul-lt-mul_of_pos_right under (pow_pos half))
        (le_of_eq (mul_right_comm (first + 1) e (2 ^ half))) in
        let b : q < (first + 1) * 2 ^ half = below q ((first + 1) * 2 ^ half) e r E (lt_of_le_of_lt (le_of_eq one) a) in
        lt_of_lt_of_le (mul-lt-mul_of_pos_right b (pow_pos (places - half)))
        (le_trans (le_of_eq
        (mul_assoc (first + 1) (2 ^ half) (2 ^ (places - half))
        ∙ ap (λ (x : ℕ). (first + 1) * x)
        (sym (pow-add 2 half (places - half)) ∙ ap (λ (x : ℕ). 2 ^ x) (let z : half + (places - half) ≡ places = omega arith in z))))
        top_all)

    pub all_digits : (q' r' a' : ℕ) → MoreDigits e (places - half) q r a q' r' a' → DividedTo n e q' r' a'
    all_digits q' r' a' o =
        let p = few_places in
        let a_is : a' ≡ places = o.turns ∙ ap (λ (x : ℕ). x + (places - half)) m.turns
        ∙ (let z : 0 + half + (places - half) ≡ places = omega arith in z) in
        let is : n * 2 ^ places ≡ q' * e + r' =
        ap (λ (x : ℕ). n * x)
        (ap (λ (x : ℕ). 2 ^ x) (let z : places ≡ half + (places - half) = omega arith in z) ∙ pow-add 2 half (places - half))
        ∙ sym (mul_assoc n (2 ^ half) (2 ^ (places - half)))
        ∙ ap (λ (x : ℕ). x * 2 ^ (places - half)) (sym one)
        ∙ sym o.is in
        let low : 2 ^ 52 * e ≤ n * 2 ^ places =
        le_trans (mul-le-mul_right e lift.1.low)
        (le_trans (le_of_eq (mul_right_comm first (2 ^ places) e))
        (mul-le-mul_right (2 ^ places) (let z = split in let y : first * e ≤ n = omega arith in y))) in
        let high : n * 2 ^ places < 2 ^ 53 * e =
        lt_of_lt_of_le (mul-lt-mul_of_pos_right under (pow_pos places))
        (le_trans (le_of_eq (mul_right_comm (first + 1) e (2 ^ places))) (mul-le-mul_right e top_all)) in
        let next : q' * e + r' < (q' + 1) * e = let z = o.rest in let y = add-mul q' 1 e in omega arith in
        let over : 2 ^ 52 < q' + 1 = lt_of_mul-lt-mul_right e (lt_of_le_of_lt low (lt_of_le_of_lt (le_of_eq is) next)) in
        record {
          is = ap (λ (x : ℕ). n * 2 ^ x) a_is ∙ is;
          rest = o.rest;
          least = omega arith;
          most = below q' (2 ^ 53) e r' E (lt_of_le_of_lt (le_of_eq (sym is)) high);
          turns = omega arith;
        }
