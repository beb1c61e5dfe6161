-- m from the bit pattern b of an f64. With x its exponent's field and d its digits, the f64 is d·2^(x − 1) / 2^1074 in magnitude, which is
-- below one half for x < 1022, a whole number for x ≥ 1075 and a multiple of 4 for x ≥ 1077. Assumes nothing.
use mathlib.Core.Path.{◌≡◌, refl, sym, ap, subst, ◌∙◌}
use mathlib.Core.Bool.{Bool, true, false, cond}
use Prim.Native.Nat.{ℕ, zero, suc, ◌+◌, ◌-◌, ◌*◌, ◌/◌, ◌%◌, ◌^◌, ◌≤◌, ◌<◌}
use native.Mathlib.Nat.{le_trans, le_of_eq, lt_of_lt_of_le, lt_of_le_of_lt, mul-pos, mul_assoc, mul-le-mul_right, eq_of_mul-eq-mul_right}
use native.Mathlib.Omega.{arith}
use borrow.Author.Tests.{ne_eqb}
use lib.Dec.{T, leb, eqb}
use lib.IntN.{pos}
use lib.Pow.{pow-add, pow_pos, pow_mono, shl_lt}
use lib.Ieee.{Float, nan, inf, fin, binary64, up, down, round, of_int, of_bits, of_fields, fits}
use lib.Ieee.Fits.{down_pos}
use lib.Ieee.Exact.{HasValue, odd_sign}
use lib.Ieee.Bits.{of_bits-fits}
use Rattle.floats.specs.Operations.{bits}
use Rattle.trig.specs.Trig.{nearest_whole, signed, whole_of, mod_four, m_of, quarter_of}
use Rattle.trig.proofs.Nearest.{nearest_same, nearest_halved, nearest_whole_lem, nearest_none, nearest_some, nearest_most}
use Rattle.trig.proofs.Modulo.{of_multiple}
use Rattle.trig.proofs.Exact.{whole_is}

abbrev pub exponent_of : ℕ → ℕ
exponent_of b = b % 2 ^ 63 / 2 ^ 52

abbrev pub digits_of : ℕ → ℕ
digits_of b = 2 ^ 52 + b % 2 ^ 52

-- ---- the whole number nearest d·2^(x − 1) / 2^1074

module _ (x d : ℕ) where
  pub halved : 1 ≤ x → x < 1075 → nearest_whole (d * 2 ^ (x - 1)) (2 ^ 1074) ≡ (d / 2 ^ (1074 - x) + 1) / 2
  halved h k =
      let e : 1074 ≡ 1 + (1074 - x) + (x - 1) = omega arith in
      nearest_halved d (2 ^ (x - 1)) (2 ^ (1074 - x)) (2 ^ 1074) (pow_pos (x - 1)) (pow_pos (1074 - x))
      (ap (λ (i : ℕ). 2 ^ i) e ∙ pow-add 2 (1 + (1074 - x)) (x - 1) ∙ ap (λ (i : ℕ). i * 2 ^ (x - 1)) (pow-add 2 1 (1074 - x)))

  over : 1075 ≤ x → 2 ^ (x - 1) ≡ 2 ^ (x - 1075) * 2 ^ 1074
  over h = ap (λ (i : ℕ). 2 ^ i) (let e : x - 1 ≡ (x - 1075) + 1074 = omega arith in e) ∙ pow-add 2 (x - 1075) 1074

  pub shifted : 1075 ≤ x → nearest_whole (d * 2 ^ (x - 1)) (2 ^ 1074) ≡ d * 2 ^ (x - 1075)
  shifted h = nearest_whole_lem d (2 ^ (x - 1075)) (2 ^ (x - 1)) (2 ^ 1074) (pow_pos 1074) (over h)

  pub not_zero : 1022 ≤ x → 2 ^ 52 ≤ d → 0 < nearest_whole (d * 2 ^ (x - 1)) (2 ^ 1074)
  not_zero h k =
      nearest_some (d * 2 ^ (x - 1)) (2 ^ 1074) (pow_pos 1074)
      (le_trans (pow_mono {i = 1074} {j = 53 + (x - 1)} (omega arith))
      (le_trans (le_of_eq (pow-add 2 53 (x - 1)))
      (le_trans (mul-le-mul_right (2 ^ (x - 1)) (let z : 2 ^ 53 ≤ 2 * d = omega arith in z)) (le_of_eq (mul_assoc 2 d (2 ^ (x - 1)))))))

  pub at_most_lem : x < 1075 → d < 2 ^ 53 → nearest_whole (d * 2 ^ (x - 1)) (2 ^ 1074) ≤ 2 ^ 53
  at_most_lem h k =
      nearest_most (d * 2 ^ (x - 1)) (2 ^ 1074) (pow_pos 1074) (2 ^ 53)
      (lt_of_lt_of_le (shl_lt 53 (x - 1) k)
      (le_trans (pow_mono {i = 53 + (x - 1)} {j = 53 + 1074} (omega arith)) (le_of_eq (pow-add 2 53 1074))))

-- ---- m of a float from its sign and its magnitude n / d

m_is : (y : Float) (s : Bool) (n d : ℕ) → 0 < d → HasValue y s n d
    → (of_int binary64 (signed s (nearest_whole n d)) ≡ m_of y) × (mod_four (signed s (nearest_whole n d)) ≡ quarter_of y)
unfolding m_of quarter_of
m_is nan s n d p v = absurd v
m_is (inf t) s n d p v = absurd v
m_is (fin t k e) s n d p v =
    let w : signed s (nearest_whole n d) ≡ whole_of t k e = ap (λ (u : Bool). signed u (nearest_whole n d)) (sym v.0)
    ∙ ap (signed t) (sym (nearest_same (k * up e) (down e) n d (down_pos e) p v.1)) in
    (ap (of_int binary64) w, ap mod_four w)

zero_float : bits 0 ≡ of_int binary64 (pos 0)
unfolding of_bits of_int round
zero_float = refl

zero_is : (s : Bool) → pos 0 ≡ signed s 0
zero_is true = refl
zero_is false = refl

-- ---- the fields of a bit pattern

-- the magnitude in units of 2^−1074, from the exponent's field and the digits behind the leading one
abbrev units_of : ℕ → ℕ → ℕ
units_of zero t = t * 2 ^ 0
units_of (suc x) t = (2 ^ 52 + t) * 2 ^ x

units_is : (x t : ℕ) → 1 ≤ x → units_of x t ≡ (2 ^ 52 + t) * 2 ^ (x - 1)
units_is zero t h = absurd (let z : ⊥ = omega arith in z)
units_is (suc x) t h = ap (λ (i : ℕ). (2 ^ 52 + t) * 2 ^ i) (omega arith)

units_value : (s : Bool) (x t : ℕ) → x < 2047 → HasValue (of_fields binary64 s x t) s (units_of x t) (2 ^ 1074)
unfolding of_fields
units_value s zero t h = odd_sign 53 s t 0 1074
units_value s (suc x) t h = rw (ne_eqb (suc x) 2047 (λ e. omega arith)) (odd_sign 53 s (2 ^ 52 + t) x 1074)

tiny : (x t : ℕ) → x < 1022 → t < 2 ^ 52 → 2 * units_of x t < 2 ^ 1074
tiny zero t h k = lt_of_lt_of_le (let z : 2 * (t * 1) < 2 ^ 53 = omega arith in z) (pow_mono {i = 53} {j = 1074} (omega arith))
tiny (suc x) t h k =
    lt_of_le_of_lt (le_of_eq (sym (mul_assoc 2 (2 ^ 52 + t) (2 ^ x))))
    (lt_of_lt_of_le (shl_lt {a = 2 * (2 ^ 52 + t)} 54 x (omega arith)) (pow_mono {i = 54 + x} {j = 1074} (omega arith)))

top : (s : Bool) (t : ℕ) → (nan ≡ m_of (of_fields binary64 s 2047 t)) × (0 ≡ quarter_of (of_fields binary64 s 2047 t))
unfolding of_fields m_of quarter_of
top s t = go (eqb t 0)
  where
    go : (b : Bool) → (nan ≡ m_of (cond b (inf s) nan)) × (0 ≡ quarter_of (cond b (inf s) nan))
    go true = (refl, refl)
    go false = (refl, refl)

whole_value : (y : Float) (s : Bool) (n d : ℕ) → 0 < d → HasValue y s (n * d) d → HasValue y s n 1
whole_value nan s n d p v = v
whole_value (inf t) s n d p v = v
whole_value (fin t k e) s n d p v = (v.0, eq_of_mul-eq-mul_right d p (k * up e * 1) (n * down e) (omega (arith, v.1)))

-- ---- m of the f64 y with the bits b

module _ (y : Float) (b : ℕ) (e : of_bits binary64 b ≡ y) where
  pub not_finite : exponent_of b ≡ 2047 → (nan ≡ m_of y) × (0 ≡ quarter_of y)
  unfolding of_bits
  not_finite h =
      subst (λ (x : Float). (nan ≡ m_of x) × (0 ≡ quarter_of x))
      (ap (λ (x : ℕ). of_fields binary64 (leb (2 ^ 63) b) x (b % 2 ^ 52)) (sym h) ∙ e) (top (leb (2 ^ 63) b) (b % 2 ^ 52))

  value : exponent_of b < 2047 → HasValue y (leb (2 ^ 63) b) (units_of (exponent_of b) (b % 2 ^ 52)) (2 ^ 1074)
  unfolding of_bits
  value h =
      subst (λ (x : Float). HasValue x (leb (2 ^ 63) b) (units_of (exponent_of b) (b % 2 ^ 52)) (2 ^ 1074)) e
      (units_value (leb (2 ^ 63) b) (exponent_of b) (b % 2 ^ 52) h)

  pub below_half : exponent_of b < 1022 → (bits 0 ≡ m_of y) × (0 ≡ quarter_of y)
  below_half h =
      let s = leb (2 ^ 63) b in
      let n = units_of (exponent_of b) (b % 2 ^ 52) in
      let z = zero_is s
      ∙ ap (signed s) (sym (nearest_none n (2 ^ 1074) (pow_pos 1074) (tiny (exponent_of b) (b % 2 ^ 52) h (omega arith)))) in
      let m = m_is y s n (2 ^ 1074) (pow_pos 1074) (value (omega arith)) in
      (zero_float ∙ ap (of_int binary64) z ∙ m.0, ap mod_four z ∙ m.1)

  module _ (h : 1022 ≤ exponent_of b) (k : exponent_of b < 2047) where
    digits_value : HasValue y (leb (2 ^ 63) b) (digits_of b * 2 ^ (exponent_of b - 1)) (2 ^ 1074)
    digits_value = subst (λ (n : ℕ). HasValue y (leb (2 ^ 63) b) n (2 ^ 1074)) (units_is (exponent_of b) (b % 2 ^ 52) (omega arith))
        (value k)

    pub from_half : (n : ℕ) → n ≡ nearest_whole (digits_of b * 2 ^ (exponent_of b - 1)) (2 ^ 1074)
        → (of_int binary64 (signed (leb (2 ^ 63) b) n) ≡ m_of y) × (mod_four (signed (leb (2 ^ 63) b) n) ≡ quarter_of y)
    from_half n w =
        let s = leb (2 ^ 63) b in
        let m = m_is y s (digits_of b * 2 ^ (exponent_of b - 1)) (2 ^ 1074) (pow_pos 1074) digits_value in
        (ap (λ (x : ℕ). of_int binary64 (signed s x)) w ∙ m.0, ap (λ (x : ℕ). mod_four (signed s x)) w ∙ m.1)

    pub itself : 1075 ≤ exponent_of b → y ≡ m_of y
    itself l =
        let s = leb (2 ^ 63) b in
        let x = exponent_of b in
        let d = digits_of b in
        let n = d * 2 ^ (x - 1075) in
        let u : d * 2 ^ (x - 1) ≡ n * 2 ^ 1074 = ap (λ (i : ℕ). d * i) (over x d l) ∙ sym (mul_assoc d (2 ^ (x - 1075)) (2 ^ 1074)) in
        let p : 0 < d = omega arith in
        whole_is y s n (mul-pos p (pow_pos (x - 1075))) (subst (λ (v : Float). T (fits binary64 v)) e (of_bits-fits binary64 b))
        (whole_value y s n (2 ^ 1074) (pow_pos 1074) (subst (λ (v : ℕ). HasValue y s v (2 ^ 1074)) u digits_value))
        ∙ (from_half n (sym (shifted x d l))).0

    pub multiple_of_four : 1077 ≤ exponent_of b → 0 ≡ quarter_of y
    multiple_of_four l =
        let x = exponent_of b in
        let d = digits_of b in
        let i : x - 1075 ≡ (x - 1077) + 2 = omega arith in
        let u : d * 2 ^ (x - 1075) ≡ d * 2 ^ (x - 1077) * 4 = ap (λ (j : ℕ). d * 2 ^ j) i ∙ ap (λ (j : ℕ). d * j) (pow-add 2 (x - 1077) 2)
        ∙ sym (mul_assoc d (2 ^ (x - 1077)) 4) in
        of_multiple (leb (2 ^ 63) b) (d * 2 ^ (x - 1077)) ∙ (from_half (d * 2 ^ (x - 1077) * 4) (sym (shifted x d (omega arith) ∙ u))).1
