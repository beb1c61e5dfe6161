-- Exactly as many digits come out as were asked for. Assumes nothing.
use mathlib.Core.List.{[], ◌∷◌}
use mathlib.Core.Path.{◌≡◌, refl, sym, ap, subst, ◌∙◌}
use mathlib.Core.Bool.{Bool, true, false, cond}
use Prim.Native.Nat.{ℕ, zero, suc, ◌+◌, ◌-◌, ◌*◌, ◌/◌, ◌%◌, ◌^◌, ◌≤◌, ◌<◌}
use native.Mathlib.Nat.{le_trans, lt_of_lt_of_le, lt_of_le_of_lt, le_of_eq, mul_comm, mul_assoc, mul-le-mul_left, mul-le-mul_right}
use native.Mathlib.Nat.{mul-lt-mul_of_pos_right, le-div_iff_mul-le, div-lt_iff_lt-mul, pow-suc, pow-le-pow_left, pow-le-pow_right}
use native.Mathlib.Nat.{one-le-pow, mod-lt}
use native.Mathlib.Omega.{arith}
use borrow.Author.Tests.{lt-ltb, le-ltb, leb-true, leb-false, eq-eqb}
use lib.Dec.{T, ltb, leb, eqb, eqb→eq, leb→le}
use lib.ListN.{length, length-append}
use lib.Pow.{pow-add}
use lib.Ieee.{binary64, of_bits}
use Rattle.floats.specs.Floats.{is_finite}
use Rattle.floats.specs.Units.{units_of}
use Rattle.counts.specs.Counts.{digits, count_text}
use Rattle.decimals.proofs.Powers.{ten_to}
use Rattle.root.proofs.Patterns.{field, subnormal_units, normal_units}
use Rattle.significant.specs.Significant.{decimal_units_of, digits_up_to, digit_count, nearest_whole, first_place, first_digits, digits_of}
use Rattle.significant.specs.Significant.{HasDigits}
use Rattle.significant.proofs.Values.{ten_pos, ten_mono}
use Rattle.significant.proofs.Exact.{not_all_ones}

-- ---- of whole numbers of units

-- a number above 0 has the digits that are counted
counted : (m u : ℕ) → 0 < u → u < 10 ^ m → (0 < digits_up_to m u) × HasDigits (digits_up_to m u) u
unfolding digits_up_to
counted zero u o h = absurd (let z : ⊥ = omega (arith, o, h) in z)
counted (suc m) u o h = by (leb (10 ^ m) u) refl (λ g. counted m u o g)
  where
    by : (t : Bool) → leb (10 ^ m) u ≡ t → (u < 10 ^ m → (0 < digits_up_to m u) × HasDigits (digits_up_to m u) u)
        → (0 < cond t (suc m) (digits_up_to m u)) × HasDigits (cond t (suc m) (digits_up_to m u)) u
    by true e f = (omega arith, (subst (λ (j : ℕ). 10 ^ j ≤ u) (let z : m ≡ suc m - 1 = omega arith in z) (leb-true (10 ^ m) u e), h))
    by false e f = f (leb-false (10 ^ m) u e)

-- the nearest whole number to a / b is a / b cut off, or one more
cut_or_more : (a b : ℕ) → (a / b ≤ nearest_whole a b) × (nearest_whole a b ≤ suc (a / b))
unfolding nearest_whole
cut_or_more a b = by (ltb (a % b * 2) b) (ltb b (a % b * 2))
  where
    by : (s t : Bool) → (a / b ≤ cond s (a / b) (cond t (suc (a / b)) (a / b + a / b % 2)))
        × (cond s (a / b) (cond t (suc (a / b)) (a / b + a / b % 2)) ≤ suc (a / b))
    by true t = (omega arith, omega arith)
    by false true = (omega arith, omega arith)
    by false false = (omega arith, omega arith)

module _ (n u : ℕ) (o : 1 ≤ n) (least : 10 ^ (n - 1) ≤ u) (most : u < 10 ^ 2100) where
  count : (0 < digit_count u) × HasDigits (digit_count u) u
  unfolding digit_count
  count = counted 2100 u (lt_of_lt_of_le (ten_pos (n - 1)) least) most

  -- it has n digits at least
  many : n ≤ digit_count u
  many = by (leb n (digit_count u)) refl
    where
      by : (t : Bool) → leb n (digit_count u) ≡ t → n ≤ digit_count u
      by true e = leb-true n (digit_count u) e
      by false e =
          let g = leb-false n (digit_count u) e in
          let h : 10 ^ digit_count u ≤ 10 ^ (n - 1) = ten_mono (digit_count u) (n - 1) (omega (arith, g)) in
          let b = count.1.1 in
          absurd (let z : ⊥ = omega (arith, h, b, least) in z)

  -- the first n of them, cut off, and then rounded
  first_cut : HasDigits n (u / 10 ^ first_place n u)
  first_cut =
      let m = many in
      let p = first_place n u in
      let low : 10 ^ (n - 1) * 10 ^ p ≤ u = subst (λ (x : ℕ). x ≤ u)
      (ap (λ (j : ℕ). 10 ^ j) (let z : digit_count u - 1 ≡ n - 1 + p = omega (arith, m, o) in z) ∙ pow-add 10 (n - 1) p) count.1.0 in
      let high : u < 10 ^ n * 10 ^ p = subst (λ (x : ℕ). u < x)
      (ap (λ (j : ℕ). 10 ^ j) (let z : digit_count u ≡ n + p = omega (arith, m) in z) ∙ pow-add 10 n p) count.1.1 in
      ((le-div_iff_mul-le (ten_pos p)).1 low, (div-lt_iff_lt-mul (ten_pos p)).1 high)

  -- rounded up to 10 ^ n, they are 10 .. 0
  exactly : HasDigits n (digits_of n u)
  unfolding digits_of
  exactly = by (eqb (first_digits n u) (10 ^ n)) refl
    where
      by : (t : Bool) → eqb (first_digits n u) (10 ^ n) ≡ t → HasDigits n (cond t (10 ^ (n - 1)) (first_digits n u))
      by true e =
          let p : 10 ^ n ≡ 10 ^ (n - 1) * 10 = ap (λ (j : ℕ). 10 ^ j) (let z : n ≡ suc (n - 1) = omega (arith, o) in z)
          ∙ pow-suc 10 (n - 1) in
          let q = ten_pos (n - 1) in
          (omega arith, omega (arith, p, q))
      by false e =
          let c = first_cut in
          let r = cut_or_more u (10 ^ first_place n u) in
          let other : first_digits n u ≡ 10 ^ n → ⊥ = λ g. subst T (sym (eq-eqb (first_digits n u) (10 ^ n) g) ∙ e) tt in
          (omega (arith, c.0, r.0), omega (arith, c.1, r.1, other))

-- ---- of f64s

-- m * 2 ^ j * 5 ^ 1074 units, at least 5 ^ 1074 and below 10 ^ 2100
units_between : (m j : ℕ) → 0 < m * 2 ^ j → m < 2 ^ 53 → j ≤ 2045 → (10 ^ 15 ≤ m * 2 ^ j * 5 ^ 1074) × (m * 2 ^ j * 5 ^ 1074 < 10 ^ 2100)
units_between m j o b h = (least, most)
  where
    least : 10 ^ 15 ≤ m * 2 ^ j * 5 ^ 1074
    least = le_trans (leb→le (10 ^ 15) (1 * 5 ^ 1074) tt) (mul-le-mul_right (5 ^ 1074) o)

    small : m * 2 ^ j < 2 ^ 1024 * 2 ^ 1074
    small =
        let p : 2 ^ j ≤ 2 ^ 2045 = let z : 0 < 2 = omega arith in pow-le-pow_right z h in
        let q : m * 2 ^ j ≤ m * 2 ^ 2045 = mul-le-mul_left m p in
        let r : m * 2 ^ 2045 < 2 ^ 53 * 2 ^ 2045 = mul-lt-mul_of_pos_right b (one-le-pow 2045 2 (omega arith)) in
        subst (λ (x : ℕ). m * 2 ^ j < x) (sym (pow-add 2 53 2045) ∙ pow-add 2 1024 1074) (lt_of_le_of_lt q r)

    most : m * 2 ^ j * 5 ^ 1074 < 10 ^ 2100
    most =
        let s : m * 2 ^ j * 5 ^ 1074 < 2 ^ 1024 * 2 ^ 1074 * 5 ^ 1074 = mul-lt-mul_of_pos_right small (one-le-pow 1074 5 (omega arith)) in
        let t : 2 ^ 1024 * 2 ^ 1074 * 5 ^ 1074 ≡ 2 ^ 1024 * 10 ^ 1074 = mul_assoc (2 ^ 1024) (2 ^ 1074) (5 ^ 1074)
        ∙ ap (λ (x : ℕ). 2 ^ 1024 * x) (mul_comm (2 ^ 1074) (5 ^ 1074) ∙ sym (ten_to 1074)) in
        let w : 2 ^ 1024 * 10 ^ 1074 ≤ 10 ^ 1024 * 10 ^ 1074 = mul-le-mul_right (10 ^ 1074)
        (pow-le-pow_left (let z : 2 ≤ 10 = omega arith in z) 1024) in
        let v : 10 ^ 1024 * 10 ^ 1074 ≤ 10 ^ 2100 = subst (λ (x : ℕ). x ≤ 10 ^ 2100) (pow-add 10 1024 1074)
        (ten_mono 2098 2100 (omega arith)) in
        lt_of_lt_of_le s (le_trans (le_of_eq t) (le_trans w v))

-- a finite f64 other than zero, to 1 to 16 digits
pub exactly_n_digits : (b n : ℕ) → T (is_finite (of_bits binary64 b)) → 0 < units_of (of_bits binary64 b) → 1 ≤ n → n ≤ 16
    → HasDigits n (digits_of n (decimal_units_of (of_bits binary64 b)))
exactly_n_digits b n f o g h = by (eqb (field b) 0) refl
  where
    of : (m j : ℕ) → units_of (of_bits binary64 b) ≡ m * 2 ^ j → m < 2 ^ 53 → j ≤ 2045
        → HasDigits n (digits_of n (decimal_units_of (of_bits binary64 b)))
    of m j e s t =
        let between = units_between m j (subst (λ (x : ℕ). 0 < x) e o) s t in
        let w : 10 ^ (n - 1) ≤ 10 ^ 15 = ten_mono (n - 1) 15 (omega (arith, h)) in
        subst (λ (x : ℕ). HasDigits n (digits_of n (x * 5 ^ 1074))) (sym e)
        (exactly n (m * 2 ^ j * 5 ^ 1074) g (le_trans w between.0) between.1)

    fraction : b % 2 ^ 52 < 2 ^ 52
    fraction = mod-lt b (omega arith)

    by : (t : Bool) → eqb (field b) 0 ≡ t → HasDigits n (digits_of n (decimal_units_of (of_bits binary64 b)))
    by true e = let r = fraction in
        of (b % 2 ^ 52) 0 (subnormal_units b (eqb→eq (field b) 0 (subst T (sym e) tt))) (omega (arith, r)) (omega arith)
    by false e =
        let r = fraction in
        let some : field b ≡ 0 → ⊥ = λ z. subst T (sym (eq-eqb (field b) 0 z) ∙ e) tt in
        let fits = not_all_ones b f in
        of (2 ^ 52 + b % 2 ^ 52) (field b - 1) (normal_units b some fits) (omega (arith, r)) (omega (arith, fits))

-- ---- as text

-- the digits that are written are as many
length_is : (m k d : ℕ) → suc k ≤ m → HasDigits (suc k) d → length (digits m d) ≡ suc k
unfolding digits
length_is zero k d h g = absurd (let z : ⊥ = omega arith in z)
length_is (suc m) zero d h g = rw (lt-ltb d 10 g.1)
length_is (suc m) (suc k) d h g =
    let p = pow-suc 10 k in
    let q = pow-suc 10 (suc k) in
    let o = ten_pos k in
    let low : 10 ^ suc k ≤ d = subst (λ (j : ℕ). 10 ^ j ≤ d) (let z : suc (suc k) - 1 ≡ suc k = omega arith in z) g.0 in
    let high = g.1 in
    let less : 10 ^ (suc k - 1) ≤ d / 10 = subst (λ (j : ℕ). 10 ^ j ≤ d / 10) (let z : k ≡ suc k - 1 = omega arith in z)
    (let y : 10 ^ k ≤ d / 10 = omega (arith, p, low) in y) in
    let i = length_is m k (d / 10) (omega arith) (less, omega (arith, q, high)) in
    rw (le-ltb d 10 (omega (arith, p, o, low))) (let e = length-append (digits m (d / 10)) ((48 + d % 10) ∷ []) in omega (arith, e, i))

written_digits : (n d : ℕ) → 1 ≤ n → n ≤ 20 → HasDigits n d → length (count_text d) ≡ n
unfolding count_text
written_digits zero d o h g = absurd (let z : ⊥ = omega arith in z)
written_digits (suc k) d o h g = length_is 20 k d h g

-- the digits of a finite f64 other than zero, as they are written
pub digits_written : (b n : ℕ) → T (is_finite (of_bits binary64 b)) → 0 < units_of (of_bits binary64 b) → 1 ≤ n → n ≤ 16
    → length (count_text (digits_of n (decimal_units_of (of_bits binary64 b)))) ≡ n
digits_written b n f o g h = written_digits n (digits_of n (decimal_units_of (of_bits binary64 b))) g (omega (arith, h))
    (exactly_n_digits b n f o g h)
