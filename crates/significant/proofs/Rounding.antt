-- The first digits of a number, rounded by the digit behind them and by whether there is more, are the nearest; and
-- they are those of as many units. Assumes nothing.
use mathlib.Core.List.{List}
use mathlib.Core.Path.{◌≡◌, refl, sym, ap, subst, ◌∙◌}
use mathlib.Core.Bool.{Bool, true, false, cond}
use mathlib.Core.Logic.{inl, inr}
use Prim.Native.Nat.{ℕ, zero, suc, ◌+◌, ◌-◌, ◌*◌, ◌/◌, ◌%◌, ◌^◌, ◌≤◌, ◌<◌}
use native.Mathlib.Nat.{lt_of_not-le, not-le_of_lt, lt_of_lt_of_le, lt_of_le_of_lt, mul-one, mul-zero, mul_comm}
use native.Mathlib.Nat.{mul_assoc, mul-le-mul_left, mul-le-mul_right, mul-lt-mul_of_pos_right, mul-div-mul_right, le_of_mul-le-mul_right}
use native.Mathlib.Nat.{lt_of_mul-lt-mul_right, pow-succ', div-add-mod', add-mul, mul_right_comm, mod-lt}
use native.Mathlib.Nat.{zero-mul}
use native.Mathlib.Numerals.{add-one}
use native.Mathlib.Omega.{arith}
use borrow.Author.Tests.{lt-ltb, le-ltb, le-leb, lt-leb, leb-true, leb-false, ltb-true, ltb-false, ne_eqb}
use lib.Arith.{digits_div, digits_mod}
use lib.Dec.{ltb, leb, eqb}
use lib.ListN.{length, take, drop, get_or, length-drop}
use lib.Seq.{length-take-le, drop-drop}
use lib.Pow.{pow-add}
use Rattle.significant.specs.Significant.{digits_up_to, digit_count, nearest_whole, first_place, first_digits, digits_of, place_of}
use Rattle.significant.specs.Digits.{value, Digits, Top, nearest_digit, Enough, RoundsTo}
use Rattle.significant.proofs.Values.{ten_pos, ten_mono, split, digits_take, digit_at, below, one_lower}

-- powers rise with their exponents
ten_lt : (i j : ℕ) → 10 ^ i < 10 ^ j → i < j
ten_lt i j h = lt_of_not-le (λ (g : j ≤ i). not-le_of_lt h (ten_mono j i g))

-- ---- how many digits there are

pub top_none : (l : List ℕ) → Top l 0 → value l ≡ 0
top_none l t = t.above

pub top_least : (l : List ℕ) (c : ℕ) → Top l c → 0 < c → 10 ^ (c - 1) ≤ value l
top_least l c t h =
    let w = t.within in
    let a = t.above in
    let g = t.digit h in
    let e = split (c - 1) l (omega (arith, w)) in
    let o = one_lower l c h w in
    let m : 10 ^ (c - 1) * 1 ≤ 10 ^ (c - 1) * value (drop (c - 1) l) = mul-le-mul_left (10 ^ (c - 1)) (omega (arith, o, g)) in
    let n = mul-one (10 ^ (c - 1)) in
    omega (arith, e, m, n)

pub top_most : (l : List ℕ) (c : ℕ) → Digits l → Top l c → value l < 10 ^ c
top_most l c d t =
    let e = split c l t.within in
    let z : 10 ^ c * value (drop c l) ≡ 0 = ap (λ (x : ℕ). 10 ^ c * x) t.above ∙ mul-zero (10 ^ c) in
    let b : value (take c l) < 10 ^ c = subst (λ (j : ℕ). value (take c l) < 10 ^ j) (length-take-le c l t.within)
    (below (take c l) (digits_take c l d)) in
    omega (arith, e, z, b)

pub enough_digits : (l : List ℕ) (c shift : ℕ) → Digits l → Top l c → 0 < c → Enough (value l) shift → (17 ≤ c) × (33 ≤ c + shift)
enough_digits l c shift d t h (inl z) = let g = top_least l c t h in let p = ten_pos (c - 1) in
    absurd (let y : ⊥ = omega (arith, z, g, p) in y)
enough_digits l c shift d t h (inr (a, b)) =
    let m = top_most l c d t in
    let s : value l * 10 ^ shift < 10 ^ (c + shift) = subst (λ (x : ℕ). value l * 10 ^ shift < x) (sym (pow-add 10 c shift))
    (mul-lt-mul_of_pos_right m (ten_pos shift)) in
    (ten_lt 16 c (lt_of_le_of_lt a m), ten_lt 32 (c + shift) (lt_of_le_of_lt b s))

-- whether digits have a top says whether they write a number above 0
pub more_is : (l : List ℕ) (t : ℕ) → Top l t → ltb 0 t ≡ ltb 0 (value l)
more_is l zero h = sym (le-ltb 0 (value l) (let e = top_none l h in omega (arith, e)))
more_is l (suc t) h =
    let g : 0 < suc t = omega arith in
    let e = top_least l (suc t) h g in
    let p = ten_pos (suc t - 1) in
    lt-ltb 0 (suc t) g ∙ sym (lt-ltb 0 (value l) (omega (arith, e, p)))

-- ---- one digit decides

-- d * 10 * p + h * p + low, to a whole number of 10 * p
pub nearest_digit_lem : (d h low p : ℕ) (more : Bool) → 0 < p → h < 10 → low < p → more ≡ ltb 0 low
    → nearest_digit d h more ≡ nearest_whole (d * (10 * p) + (h * p + low)) (10 * p)
unfolding nearest_whole
nearest_digit_lem d h low p more o b s m =
    let most : h * p ≤ 9 * p = mul-le-mul_right p (let z : h ≤ 9 = omega arith in z) in
    let rest : h * p + low < 10 * p = omega (arith, most) in
    let q : (d * (10 * p) + (h * p + low)) / (10 * p) ≡ d = digits_div d rest in
    let r : (d * (10 * p) + (h * p + low)) % (10 * p) ≡ h * p + low = digits_mod d rest in
    rw (q, r) (by_low (ltb h 5) refl)
  where
    by_more : (t : Bool) → ltb 0 low ≡ t → 5 ≤ h → h ≤ 5 → h * p ≡ 5 * p
        → cond t (d + 1) (d + d % 2) ≡ cond (ltb (10 * p) ((h * p + low) * 2)) (suc d) (d + d % 2)
    by_more true e f g k = let l = ltb-true 0 low e in rw (lt-ltb (10 * p) ((h * p + low) * 2) (omega (arith, k, l))) (add-one d)
    by_more false e f g k = let l = ltb-false 0 low e in rw (le-ltb (10 * p) ((h * p + low) * 2) (omega (arith, k, l)))

    by_high : (t : Bool) → ltb 5 h ≡ t → 5 ≤ h
        → cond t (d + 1) (cond more (d + 1) (d + d % 2)) ≡ cond (ltb (10 * p) ((h * p + low) * 2)) (suc d) (d + d % 2)
    by_high true e f =
        let g = ltb-true 5 h e in
        let k : 6 * p ≤ h * p = mul-le-mul_right p (let z : 6 ≤ h = omega (arith, g) in z) in
        rw (lt-ltb (10 * p) ((h * p + low) * 2) (omega (arith, k))) (add-one d)
    by_high false e f =
        let g = ltb-false 5 h e in
        let k : h * p ≡ 5 * p = ap (λ (x : ℕ). x * p) (let z : h ≡ 5 = omega (arith, g) in z) in
        rw m (by_more (ltb 0 low) refl f (omega (arith, g)) k)

    by_low : (t : Bool) → ltb h 5 ≡ t → cond t d (cond (ltb 5 h) (d + 1) (cond more (d + 1) (d + d % 2)))
        ≡ cond (ltb ((h * p + low) * 2) (10 * p)) d (cond (ltb (10 * p) ((h * p + low) * 2)) (suc d) (d + d % 2))
    by_low true e =
        let g = ltb-true h 5 e in
        let k : h * p ≤ 4 * p = mul-le-mul_right p (let z : h ≤ 4 = omega (arith, g) in z) in
        rw (lt-ltb ((h * p + low) * 2) (10 * p) (omega (arith, k)))
    by_low false e =
        let g = ltb-false h 5 e in
        let k : 5 * p ≤ h * p = mul-le-mul_right p g in
        rw (le-ltb ((h * p + low) * 2) (10 * p) (omega (arith, k))) (by_high (ltb 5 h) refl g)

-- ---- the same of so many times as much

mod_times : (a b z : ℕ) → 0 < b → 0 < z → a * z % (b * z) ≡ a % b * z
mod_times a b z o p =
    let e : a * z ≡ a / b * (b * z) + a % b * z = ap (λ (x : ℕ). x * z) (sym (div-add-mod' a b)) ∙ add-mul (a / b * b) (a % b) z
    ∙ ap (λ (x : ℕ). x + a % b * z) (mul_assoc (a / b) b z) in
    ap (λ (x : ℕ). x % (b * z)) e ∙ digits_mod (a / b) (mul-lt-mul_of_pos_right (mod-lt a o) p)

less_times : (r b z : ℕ) → 0 < z → ltb (r * z) (b * z) ≡ ltb r b
less_times r b z p = by (ltb r b) refl
  where
    by : (t : Bool) → ltb r b ≡ t → ltb (r * z) (b * z) ≡ t
    by true e = lt-ltb (r * z) (b * z) (mul-lt-mul_of_pos_right (ltb-true r b e) p)
    by false e = le-ltb (r * z) (b * z) (mul-le-mul_right z (ltb-false r b e))

pub nearest_times : (a b z : ℕ) → 0 < b → 0 < z → nearest_whole (a * z) (b * z) ≡ nearest_whole a b
unfolding nearest_whole
nearest_times a b z o p =
    let q = mul-div-mul_right a b p in
    let r : a * z % (b * z) * 2 ≡ a % b * 2 * z = ap (λ (x : ℕ). x * 2) (mod_times a b z o p) ∙ mul_right_comm (a % b) z 2 in
    rw (q, r, less_times (a % b * 2) b z p, less_times b (a % b * 2) z p)

-- ---- how many digits the units have

up_to : (m k u : ℕ) → 0 < k → k ≤ m → 10 ^ (k - 1) ≤ u → u < 10 ^ k → digits_up_to m u ≡ k
unfolding digits_up_to
up_to zero k u o h l s = absurd (let z : ⊥ = omega arith in z)
up_to (suc m) k u o h l s = by (leb k m) refl (λ g. up_to m k u o g l s)
  where
    by : (t : Bool) → leb k m ≡ t → (k ≤ m → digits_up_to m u ≡ k) → cond (leb (10 ^ m) u) (suc m) (digits_up_to m u) ≡ k
    by true e f = let g = leb-true k m e in rw (lt-leb (10 ^ m) u (lt_of_lt_of_le s (ten_mono k m g))) (f g)
    by false e f =
        let g = leb-false k m e in
        let i : k - 1 ≡ m = omega (arith, g) in
        rw (le-leb (10 ^ m) u (subst (λ (j : ℕ). 10 ^ j ≤ u) i l)) (let z : suc m ≡ k = omega (arith, g) in z)

digit_count_lem : (k u : ℕ) → 0 < k → k ≤ 2100 → 10 ^ (k - 1) ≤ u → u < 10 ^ k → digit_count u ≡ k
unfolding digit_count
digit_count_lem k u o h l s = up_to 2100 k u o h l s

none_of : (m : ℕ) → digits_up_to m 0 ≡ 0
unfolding digits_up_to
none_of zero = refl
none_of (suc m) = rw (lt-leb (10 ^ m) 0 (ten_pos m)) (none_of m)

most_digits : (m u : ℕ) → digits_up_to m u ≤ m
unfolding digits_up_to
most_digits zero u = omega arith
most_digits (suc m) u = by (leb (10 ^ m) u) (most_digits m u)
  where
    by : (t : Bool) → digits_up_to m u ≤ m → cond t (suc m) (digits_up_to m u) ≤ suc m
    by true h = omega arith
    by false h = omega (arith, h)

pub place_most : (n u : ℕ) → place_of n u ≤ 2101
unfolding place_of digit_count
place_most n u = by (eqb (first_digits n u) (10 ^ n))
  where
    by : (t : Bool) → cond t (suc (digits_up_to 2100 u - n)) (digits_up_to 2100 u - n) ≤ 2101
    by true = let h = most_digits 2100 u in omega (arith, h)
    by false = let h = most_digits 2100 u in omega (arith, h)

-- ---- no units

first_of_none : (n : ℕ) → first_digits n 0 ≡ 0
unfolding digit_count nearest_whole
first_of_none n =
    let e : digits_up_to 2100 0 - n ≡ 0 = let z = none_of 2100 in omega (arith, z) in
    rw e

pub none_rounded : (n v shift : ℕ) → v ≡ 0 → RoundsTo n v shift 0 0
unfolding digits_of place_of digit_count
none_rounded n v shift z =
    record {
      digits = λ u e. rw (none u e, first_of_none n, ne_eqb 0 (10 ^ n) (λ y. let p = ten_pos n in omega (arith, y, p)));
      place = λ u e. rw (none u e, first_of_none n, ne_eqb 0 (10 ^ n) (λ y. let p = ten_pos n in omega (arith, y, p)))
          (let y = none_of 2100 in omega (arith, y));
    }
  where
    none : (u : ℕ) → u * 10 ^ 16 ≡ v * 10 ^ shift → u ≡ 0
    none u e = let y : v * 10 ^ shift ≡ 0 * 10 ^ shift = ap (λ (x : ℕ). x * 10 ^ shift) z in let w = zero-mul (10 ^ shift) in
        omega (arith, e, y, w)

-- ---- all together: c digits, of which the first n are taken

module _ (l : List ℕ) (n shift c t : ℕ) (each : Digits l) (o : 1 ≤ n) (b : n ≤ 16) (room : length l + shift ≤ 2116) (top : Top l c)
    (h : 0 < c) (enough : Enough (value l) shift) (low : Top (take (c - n - 1) l) t) where
  abbrev from : ℕ
  from = c - n

  abbrev d : ℕ
  d = value (take (c - from) (drop from l))

  abbrev up : ℕ
  up = nearest_digit d (get_or l (from - 1) 0) (ltb 0 t)

  many : (17 ≤ c) × (33 ≤ c + shift)
  many = enough_digits l c shift each top h enough

  -- the digits behind the first n, and those above
  parts : value l ≡ d * 10 ^ from + (get_or l (from - 1) 0 * 10 ^ (from - 1) + value (take (from - 1) l))
  parts =
      let m = many.0 in
      let w = top.within in
      let e = split (from - 1) l (omega (arith, w)) in
      let f = one_lower l from (omega (arith, m)) (omega (arith, w)) in
      let a : value (drop from l) ≡ d = above in
      let g : value (drop (from - 1) l) ≡ get_or l (from - 1) 0 + 10 * d = f ∙ ap (λ (x : ℕ). get_or l (from - 1) 0 + 10 * x) a in
      let p : 10 ^ from ≡ 10 * 10 ^ (from - 1) = ap (λ (j : ℕ). 10 ^ j) (let z : from ≡ suc (from - 1) = omega (arith, m) in z)
      ∙ pow-succ' 10 (from - 1) in
      let q : 10 ^ (from - 1) * value (drop (from - 1) l) ≡ get_or l (from - 1) 0 * 10 ^ (from - 1) + d * 10 ^ from =
      ap (λ (x : ℕ). 10 ^ (from - 1) * x) g ∙ mul_comm (10 ^ (from - 1)) (get_or l (from - 1) 0 + 10 * d)
      ∙ add-mul (get_or l (from - 1) 0) (10 * d) (10 ^ (from - 1))
      ∙ ap (λ (x : ℕ). get_or l (from - 1) 0 * 10 ^ (from - 1) + x)
      (ap (λ (x : ℕ). x * 10 ^ (from - 1)) (mul_comm 10 d) ∙ mul_assoc d 10 (10 ^ (from - 1)) ∙ ap (λ (x : ℕ). d * x) (sym p)) in
      omega (arith, e, q)
    where
      above : value (drop from l) ≡ d
      above =
          let m = many.0 in
          let w = top.within in
          let ln = length-drop from l in
          let e = split (c - from) (drop from l) (omega (arith, w, ln)) in
          let z : value (drop (c - from) (drop from l)) ≡ 0 = ap value
          (drop-drop (c - from) from l ∙ ap (λ (j : ℕ). drop j l) (let y : from + (c - from) ≡ c = omega (arith, m) in y))
          ∙ top.above in
          let y : 10 ^ (c - from) * value (drop (c - from) (drop from l)) ≡ 0 = ap (λ (x : ℕ). 10 ^ (c - from) * x) z
          ∙ mul-zero (10 ^ (c - from)) in
          omega (arith, e, y)

  up_nearest : up ≡ nearest_whole (value l) (10 ^ from)
  up_nearest =
      let m = many.0 in
      let w = top.within in
      let p : 10 ^ from ≡ 10 * 10 ^ (from - 1) = ap (λ (j : ℕ). 10 ^ j) (let z : from ≡ suc (from - 1) = omega (arith, m) in z)
      ∙ pow-succ' 10 (from - 1) in
      let s : value (take (from - 1) l) < 10 ^ (from - 1) = subst (λ (j : ℕ). value (take (from - 1) l) < 10 ^ j)
      (length-take-le (from - 1) l (omega (arith, w))) (below (take (from - 1) l) (digits_take (from - 1) l each)) in
      nearest_digit_lem d (get_or l (from - 1) 0) (value (take (from - 1) l)) (10 ^ (from - 1)) (ltb 0 t) (ten_pos (from - 1))
      (digit_at l (from - 1) each) s (more_is (take (from - 1) l) t low)
      ∙ ap (λ (x : ℕ). nearest_whole (d * x + (get_or l (from - 1) 0 * 10 ^ (from - 1) + value (take (from - 1) l))) x) (sym p)
      ∙ ap (λ (x : ℕ). nearest_whole x (10 ^ from)) (sym parts)

  module _ (u : ℕ) (e : u * 10 ^ 16 ≡ value l * 10 ^ shift) where
    count_is : digit_count u ≡ c + shift - 16
    count_is =
        let m = many in
        let w = top.within in
        let k = c + shift - 16 in
        let low_end : 10 ^ (k - 1) * 10 ^ 16 ≤ u * 10 ^ 16 =
        subst (λ (x : ℕ). x ≤ u * 10 ^ 16)
        (sym (pow-add 10 (c - 1) shift) ∙ ap (λ (j : ℕ). 10 ^ j) (let z : c - 1 + shift ≡ k - 1 + 16 = omega (arith, m.0, m.1) in z)
        ∙ pow-add 10 (k - 1) 16)
        (subst (λ (x : ℕ). 10 ^ (c - 1) * 10 ^ shift ≤ x) (sym e) (mul-le-mul_right (10 ^ shift) (top_least l c top h))) in
        let high_end : u * 10 ^ 16 < 10 ^ k * 10 ^ 16 =
        subst (λ (x : ℕ). u * 10 ^ 16 < x)
        (sym (pow-add 10 c shift) ∙ ap (λ (j : ℕ). 10 ^ j) (let z : c + shift ≡ k + 16 = omega (arith, m.1) in z) ∙ pow-add 10 k 16)
        (subst (λ (x : ℕ). x < 10 ^ c * 10 ^ shift) (sym e) (mul-lt-mul_of_pos_right (top_most l c each top) (ten_pos shift))) in
        digit_count_lem k u (omega (arith, m.1)) (omega (arith, w, room)) (le_of_mul-le-mul_right low_end (ten_pos 16))
        (lt_of_mul-lt-mul_right (10 ^ 16) high_end)

    place_is : first_place n u ≡ from + shift - 16
    place_is = let k = count_is in let m = many in omega (arith, k, m.0, m.1)

    first_is : first_digits n u ≡ up
    first_is =
        let m = many in
        let p = from + shift - 16 in
        let f : 10 ^ p * 10 ^ 16 ≡ 10 ^ from * 10 ^ shift = sym (pow-add 10 p 16)
        ∙ ap (λ (j : ℕ). 10 ^ j) (let z : p + 16 ≡ from + shift = omega (arith, m.0, m.1) in z) ∙ pow-add 10 from shift in
        ap (λ (j : ℕ). nearest_whole u (10 ^ j)) place_is
        ∙ sym (nearest_times u (10 ^ p) (10 ^ 16) (ten_pos p) (ten_pos 16))
        ∙ ap (λ (x : ℕ). nearest_whole x (10 ^ p * 10 ^ 16)) e
        ∙ ap (λ (x : ℕ). nearest_whole (value l * 10 ^ shift) x) f
        ∙ nearest_times (value l) (10 ^ from) (10 ^ shift) (ten_pos from) (ten_pos shift)
        ∙ sym up_nearest

  pub rounds_to : RoundsTo n (value l) shift (cond (eqb up (10 ^ n)) (10 ^ (n - 1)) up)
      (cond (eqb up (10 ^ n)) (from + shift - 16 + 1) (from + shift - 16))
  unfolding digits_of place_of
  rounds_to =
      record {
        digits = λ u e. sym (ap (λ (x : ℕ). cond (eqb x (10 ^ n)) (10 ^ (n - 1)) x) (first_is u e));
        place = λ u e.
            sym (ap (λ (x : ℕ). cond (eqb x (10 ^ n)) (suc (first_place n u)) (first_place n u)) (first_is u e)
            ∙ ap (λ (x : ℕ). cond (eqb up (10 ^ n)) (suc x) x) (place_is u e)
            ∙ ap (λ (x : ℕ). cond (eqb up (10 ^ n)) x (from + shift - 16)) (sym (add-one (from + shift - 16))));
      }
