-- A quotient of 53 binary digits with its rest gives `round`, by its bit pattern; and so does one rounded division of
-- f64s. Assumes nothing.
use mathlib.Core.Path.{◌≡◌, refl, sym, ap, subst, ◌∙◌}
use mathlib.Core.Logic.{⊎_elim}
use mathlib.Core.Bool.{Bool, true, false, cond}
use Prim.Native.Nat.{ℕ, zero, suc, ◌+◌, ◌-◌, ◌*◌, ◌/◌, ◌%◌, ◌^◌, ◌≤◌, ◌<◌, compare}
use native.Mathlib.Nat.{le_trans, le_of_eq, le_antisymm, lt_of_lt_of_le, lt_of_le_of_lt, lt_of_not-le, not-le_of_lt, eq-or-lt_of_le}
use native.Mathlib.Nat.{add-mul, mul_assoc, mul_comm, mul_right_comm, mul-one, mul-pos, mul-le-mul_right, mul-lt-mul_of_pos_right}
use native.Mathlib.Nat.{le-div_iff_mul-le, div-lt_iff_lt-mul, zero-mul, zero-lt-suc, lt_irrefl}
use native.Mathlib.Omega.{arith}
use borrow.Author.Tests.{lt-leb, ne_eqb}
use lib.Arith.{digits_div, digits_mod}
use lib.Dec.{eqb, leb→le, ltb→lt}
use lib.IntN.{pos}
use lib.Pow.{pow-add, pow_pos, pow_mono, pow-lt, shl_lt}
use lib.Ieee.{Float, nan, inf, fin, binary64, up, down, size, nearest, round, units, odd, mul, div, of_int, of_bits, of_fields}
use lib.Ieee.Back.{round_whole}
use lib.Ieee.Bits.{of_bits-fits}
use lib.Ieee.Digits.{size-le, size-lt}
use lib.Ieee.Exact.{HasValue, units_val, odd_sign, round_exact}
use lib.Ieee.Positive.{positive_of_value, mul_at}
use lib.Ieee.Fits.{round_is, round-fits, nearest-le, core, up_pos, down_pos}
use lib.Ieee.Nearest.{closest, closest_same, nearest-ge}
use lib.Ieee.Scale.{round_same}
use Rattle.floats.proofs.Units.{same_units}
use Rattle.floats.proofs.Nearest.{has_units}
use Rattle.decimals.specs.Parts.{WidenedTo, DividedTo}
use Rattle.decimals.proofs.Powers.{ten_to, five_pos, five_most}

-- ---- one rounded division

-- x is n and y is d: the quotient is n / d rounded
div_at : (x y : Float) (n d : ℕ) → 0 < d → HasValue x false n 1 → HasValue y false d 1 → div binary64 x y ≡ round binary64 false n d
unfolding div
div_at nan y n d D h g = absurd h
div_at (inf s) y n d D h g = absurd h
div_at (fin s m e) nan n d D h g = absurd g
div_at (fin s m e) (inf t) n d D h g = absurd g
div_at (fin true m e) (fin t p z) n d D h g = absurd (true_false h.0)
  where
    true_false : true ≡ false → ⊥
    true_false e = let z : ◌≡◌ {A = ℕ} 0 1 = cc in omega arith
div_at (fin false m e) (fin true p z) n d D h g = absurd (true_false g.0)
  where
    true_false : true ≡ false → ⊥
    true_false e = let z : ◌≡◌ {A = ℕ} 0 1 = cc in omega arith
div_at (fin false m e) (fin false zero z) n d D h g = absurd
    (lt_irrefl 0 (subst (λ (x : ℕ). 0 < x) (sym g.1 ∙ mul-one (zero * up z) ∙ zero-mul (up z)) (mul-pos D (down_pos z))))
div_at (fin false m e) (fin false (suc p) z) n d D h g =
    let a : m * up e ≡ n * down e = sym (mul-one (m * up e)) ∙ h.1 in
    let b : suc p * up z ≡ d * down z = sym (mul-one (suc p * up z)) ∙ g.1 in
    ap (λ (t : Bool). cond t (cond (eqb m 0) nan (inf false)) (round binary64 false (m * up e * down z) (suc p * up z * down e)))
    (ne_eqb (suc p) 0 (λ y. omega arith))
    ∙ round_same binary64 false (m * up e * down z) (suc p * up z * down e) n d (mul-pos (mul-pos (zero_lt p) (up_pos z)) (down_pos e)) D
    (ap (λ (x : ℕ). x * down z * d) a ∙ ap (λ (x : ℕ). x * d) (mul_assoc n (down e) (down z)) ∙ mul_assoc n (down e * down z) d
    ∙ ap (λ (x : ℕ). n * x)
    (mul_assoc (down e) (down z) d ∙ mul_comm (down e) (down z * d) ∙ ap (λ (x : ℕ). x * down e) (mul_comm (down z) d ∙ sym b)))
  where
    zero_lt : (p : ℕ) → 0 < suc p
    zero_lt p = omega arith

-- 10 ^ k as the product of two f64s is exact
product_at : (x y : Float) (a b : ℕ) → 0 < a → 0 < b → HasValue x false a 1 → HasValue y false b 1
    → mul binary64 x y ≡ round binary64 false (a * b) 1
product_at x y a b A B h g = mul_at binary64 x y a 1 b 1 (positive_of_value x a 1 h A) (positive_of_value y b 1 g B) (zero-lt-suc 0)
    (zero-lt-suc 0) h g

ten_exact : (k : ℕ) → k ≤ 18 → HasValue (round binary64 false (5 ^ k * 2 ^ k) 1) false (5 ^ k * 2 ^ k) 1
ten_exact k h =
    let few : 5 ^ k < 2 ^ 53 = lt_of_le_of_lt (five_most k h) (ltb→lt (5 ^ 18) (2 ^ 53) tt) in
    round_exact binary64 false (5 ^ k * 2 ^ k) 1 (5 ^ k) (k + 1074) (zero-lt-suc 0) few
    (lt_of_lt_of_le (shl_lt 53 (k + 1074) few) (pow_mono (let z : 53 + (k + 1074) ≤ 1074 + 1024 = omega arith in z)))
    (mul_assoc (5 ^ k) (2 ^ k) (2 ^ 1074) ∙ ap (λ (x : ℕ). 5 ^ k * x) (sym (pow-add 2 k 1074)) ∙ sym (mul-one (5 ^ k * 2 ^ (k + 1074))))

pub one_division : (n k five two : ℕ) → k ≤ 18 → n ≤ 2 ^ 53 → five ≡ 5 ^ k → two ≡ 2 ^ k
    → div binary64 (of_int binary64 (pos n)) (mul binary64 (of_int binary64 (pos five)) (of_int binary64 (pos two)))
    ≡ round binary64 false n (10 ^ k)
unfolding of_int
one_division n k five two h g e f =
    let few : 5 ^ k ≤ 2 ^ 53 = le_trans (five_most k h) (leb→le (5 ^ 18) (2 ^ 53) tt) in
    let short : 2 ^ k ≤ 2 ^ 53 = pow_mono (let z : k ≤ 53 = omega arith in z) in
    let a = round_whole binary64 false (5 ^ k) few in
    let b = round_whole binary64 false (2 ^ k) short in
    let product = product_at (round binary64 false (5 ^ k) 1) (round binary64 false (2 ^ k) 1) (5 ^ k) (2 ^ k) (five_pos k) (pow_pos k) a b
    in
    rw (e, f, product)
    (div_at (round binary64 false n 1) (round binary64 false (5 ^ k * 2 ^ k) 1) n (5 ^ k * 2 ^ k) (mul-pos (five_pos k) (pow_pos k))
    (round_whole binary64 false n g) (ten_exact k h)
    ∙ ap (λ (d : ℕ). round binary64 false n d) (sym (ten_to k)))

-- ---- a quotient of 53 digits

next : (k z : ℕ) → (z ≤ 52 + k → ⊥) → 53 + k ≤ z
next k z h = let g = lt_of_not-le h in omega arith

-- e is d * 2 ^ (b − p)
module _ (n d e b p q r a : ℕ) (D : 0 < d) (E : e * 2 ^ p ≡ d * 2 ^ b) (is : n * 2 ^ a ≡ q * e + r) (rest : r < e) (least : 2 ^ 52 ≤ q)
    (most : q < 2 ^ 53) (turns : p + a ≤ 1074) where
  abbrev N : ℕ
  N = n * 2 ^ 1074

  abbrev c : ℕ
  c = 1074 - a

  abbrev K : ℕ
  K = b + (c - p)

  abbrev u : ℕ
  u = d * 2 ^ K

  e_pos : 0 < e
  e_pos = omega arith

  u_is : e * 2 ^ c ≡ u
  u_is =
      ap (λ (x : ℕ). e * x) (ap (λ (x : ℕ). 2 ^ x) (let z : c ≡ p + (c - p) = omega arith in z) ∙ pow-add 2 p (c - p))
      ∙ sym (mul_assoc e (2 ^ p) (2 ^ (c - p)))
      ∙ ap (λ (x : ℕ). x * 2 ^ (c - p)) E
      ∙ mul_assoc d (2 ^ b) (2 ^ (c - p))
      ∙ ap (λ (x : ℕ). d * x) (sym (pow-add 2 b (c - p)))

  N_is : N ≡ n * 2 ^ a * 2 ^ c
  N_is = ap (λ (x : ℕ). n * x) (ap (λ (x : ℕ). 2 ^ x) (let z : 1074 ≡ a + c = omega arith in z) ∙ pow-add 2 a c)
      ∙ sym (mul_assoc n (2 ^ a) (2 ^ c))

  kept_is : closest N u ≡ nearest q (compare (r * 2) e)
  kept_is =
      closest_same N u (n * 2 ^ a) e (mul-pos D (pow_pos K)) e_pos
      (ap (λ (x : ℕ). x * e) N_is ∙ mul_assoc (n * 2 ^ a) (2 ^ c) e ∙ ap (λ (x : ℕ). n * 2 ^ a * x) (mul_comm (2 ^ c) e ∙ u_is))
      ∙ ap (λ (x : ℕ). closest x e) is
      ∙ ap (λ (x : ℕ). nearest x (compare ((q * e + r) % e * 2) e)) (digits_div q rest)
      ∙ ap (λ (x : ℕ). nearest q (compare (x * 2) e)) (digits_mod q rest)

  -- the whole part has 53 + K digits
  shifted : (j : ℕ) → 2 ^ j * e * 2 ^ c ≡ 2 ^ (j + K) * d
  shifted j = mul_assoc (2 ^ j) e (2 ^ c) ∙ ap (λ (x : ℕ). 2 ^ j * x) (u_is ∙ mul_comm d (2 ^ K)) ∙ sym (mul_assoc (2 ^ j) (2 ^ K) d)
      ∙ ap (λ (x : ℕ). x * d) (sym (pow-add 2 j K))

  low_end : 2 ^ (52 + K) ≤ N / d
  low_end = (le-div_iff_mul-le D).1
      (le_trans (le_of_eq (sym (shifted 52)))
      (le_trans (mul-le-mul_right (2 ^ c) (let z = mul-le-mul_right e least in let y : 2 ^ 52 * e ≤ n * 2 ^ a = omega arith in y))
      (le_of_eq (sym N_is))))

  high_end : N / d < 2 ^ (53 + K)
  high_end = (div-lt_iff_lt-mul D).1
      (lt_of_le_of_lt (le_of_eq N_is)
      (lt_of_lt_of_le
      (mul-lt-mul_of_pos_right
      (let z = mul-le-mul_right e most in let w = add-mul q 1 e in let y : n * 2 ^ a < 2 ^ 53 * e = omega arith in y) (pow_pos c))
      (le_of_eq (shifted 53))))

  size_is : size (N / d) ≡ 53 + K
  size_is = le_antisymm (size-le (N / d) (53 + K) high_end)
      (next K (size (N / d)) (λ (g : size (N / d) ≤ 52 + K). not-le_of_lt (lt_of_lt_of_le (size-lt (N / d)) (pow_mono g)) low_end))

  rounds : round binary64 false n d ≡ units binary64 false (nearest q (compare (r * 2) e)) K
  rounds =
      round_is binary64 false n d
      ∙ ap (λ (k : ℕ). core binary64 false N d k) (ap (λ (x : ℕ). x - 53) size_is ∙ (let z : 53 + K - 53 ≡ K = omega arith in z))
      ∙ ap (λ (x : ℕ). units binary64 false x K) kept_is

-- ---- its bit pattern

written : (k q : ℕ) → 2 ^ 52 ≤ q → q < 2 ^ 53 → k ≤ 1533 → of_bits binary64 (k * 2 ^ 52 + q) ≡ odd 53 false q k 1074
unfolding of_bits of_fields
written k q l h g =
    let b = k * 2 ^ 52 + q in
    let t = b % 2 ^ 52 in
    ap (λ (s : Bool). of_fields binary64 s (b % 2 ^ 63 / 2 ^ 52) t) (lt-leb (2 ^ 63) b (omega arith))
    ∙ ap (λ (x : ℕ). of_fields binary64 false x t) (let z : b % 2 ^ 63 / 2 ^ 52 ≡ suc k = omega arith in z)
    ∙ ap (λ (c : Bool). cond c (cond (eqb t 0) (inf false) nan) (odd 53 false (2 ^ 52 + t) k 1074)) (ne_eqb (suc k) 2047 (λ z. omega arith))
    ∙ ap (λ (x : ℕ). odd 53 false x k 1074) (let z : 2 ^ 52 + t ≡ q = omega arith in z)

-- also where q is 2 ^ 53, as the last place carries
pattern_value : (k q : ℕ) → 2 ^ 52 ≤ q → q ≤ 2 ^ 53 → k ≤ 1500 → HasValue (of_bits binary64 (k * 2 ^ 52 + q)) false (q * 2 ^ k) (2 ^ 1074)
pattern_value k q l h g = ⊎_elim
    (λ (e : q ≡ 2 ^ 53).
    let i : (k + 1) * 2 ^ 52 + 2 ^ 52 ≡ k * 2 ^ 52 + q = omega arith in
    let j : 2 ^ 52 * 2 ^ (k + 1) ≡ q * 2 ^ k = ap (λ (x : ℕ). 2 ^ 52 * x) (pow-add 2 k 1 ∙ mul_comm (2 ^ k) 2)
    ∙ sym (mul_assoc (2 ^ 52) 2 (2 ^ k)) ∙ ap (λ (x : ℕ). x * 2 ^ k) (sym e) in
    subst (λ (x : ℕ). HasValue (of_bits binary64 x) false (q * 2 ^ k) (2 ^ 1074)) i
    (subst (λ (x : ℕ). HasValue (of_bits binary64 ((k + 1) * 2 ^ 52 + 2 ^ 52)) false x (2 ^ 1074)) j
    (subst (λ (x : Float). HasValue x false (2 ^ 52 * 2 ^ (k + 1)) (2 ^ 1074))
    (sym (written (k + 1) (2 ^ 52) (le_of_eq refl) (omega arith) (omega arith))) (odd_sign 53 false (2 ^ 52) (k + 1) 1074))))
    (λ (e : q < 2 ^ 53). subst (λ (x : Float). HasValue x false (q * 2 ^ k) (2 ^ 1074)) (sym (written k q l e (omega arith)))
    (odd_sign 53 false q k 1074))
    (eq-or-lt_of_le h)

-- the divisor 5 ^ p * 2 ^ b
scaled : (e b p : ℕ) → e ≡ 5 ^ p * 2 ^ b → e * 2 ^ p ≡ 10 ^ p * 2 ^ b
scaled e b p h = ap (λ (x : ℕ). x * 2 ^ p) h ∙ mul_right_comm (5 ^ p) (2 ^ b) (2 ^ p) ∙ ap (λ (x : ℕ). x * 2 ^ b) (sym (ten_to p))

pub long_is : {n five e b p q r a m : ℕ} → p ≤ 18 → five ≡ 5 ^ p → WidenedTo n five e b → DividedTo n e q r a
    → m ≡ nearest q (compare (r * 2) e) → of_bits binary64 ((1074 + b - p - a) * 2 ^ 52 + m) ≡ round binary64 false n (10 ^ p)
long_is {n} {five} {e} {b} {p} {q} {r} {a} {m} P f w v i =
    let d = 10 ^ p in
    let D : 0 < d = subst (λ (x : ℕ). 0 < x) (sym (ten_to p)) (mul-pos (five_pos p) (pow_pos p)) in
    let o = compare (r * 2) e in
    let K = b + (1074 - a - p) in
    let t = v.turns in
    let s = w.turns in
    let k_is : 1074 + b - p - a ≡ K = omega arith in
    let x = of_bits binary64 ((1074 + b - p - a) * 2 ^ 52 + m) in
    let least : 2 ^ 52 ≤ m = subst (λ (z : ℕ). 2 ^ 52 ≤ z) (sym i) (le_trans v.least (nearest-ge q o)) in
    let most : m ≤ 2 ^ 53 = subst (λ (z : ℕ). z ≤ 2 ^ 53) (sym i) (le_trans (nearest-le q o) v.most) in
    let hx : HasValue x false (m * 2 ^ K) (2 ^ 1074) = subst (λ (z : ℕ). HasValue (of_bits binary64 (z * 2 ^ 52 + m)) false (m * 2 ^ K)
    (2 ^ 1074)) (sym k_is) (pattern_value K m least most (omega arith)) in
    let R = rounds n d e b p q r a D (scaled e b p (w.is ∙ ap (λ (z : ℕ). z * 2 ^ b) f)) v.is v.rest v.least v.most
    (omega arith) ∙ ap (λ (z : ℕ). units binary64 false z K) (sym i) in
    let small : m * 2 ^ K < 2 ^ (1074 + 1024) = lt_of_le_of_lt (mul-le-mul_right (2 ^ K) most)
    (lt_of_le_of_lt (le_of_eq (sym (pow-add 2 53 K))) (pow-lt (let z : 53 + K < 1074 + 1024 = omega arith in z))) in
    let hr : HasValue (round binary64 false n d) false (m * 2 ^ K) (2 ^ 1074) =
    subst (λ (z : Float). HasValue z false (m * 2 ^ K) (2 ^ 1074)) (sym R) (units_val binary64 false m K small) in
    let ux = has_units x false (m * 2 ^ K) hx in
    let ur = has_units (round binary64 false n d) false (m * 2 ^ K) hr in
    same_units false x (round binary64 false n d) (of_bits-fits binary64 ((1074 + b - p - a) * 2 ^ 52 + m)) (round-fits binary64 false n d)
    ux.1 ur.1 (ux.0 ∙ sym ur.0)
