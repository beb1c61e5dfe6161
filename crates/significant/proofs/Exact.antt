-- How many units a number is that was worked digit by digit, and that there was room for it. Assumes nothing.
use mathlib.Core.List.{List}
use mathlib.Core.Path.{◌≡◌, refl, sym, ap, subst, ◌∙◌}
use mathlib.Core.Bool.{Bool, true, false, cond}
use mathlib.Core.Logic.{inl, inr}
use Prim.Native.Nat.{ℕ, zero, suc, ◌+◌, ◌-◌, ◌*◌, ◌%◌, ◌^◌, ◌≤◌, ◌<◌}
use native.Mathlib.Nat.{le_trans, lt_of_le_of_lt, lt_of_lt_of_le, one-le-pow, one-mul, zero-mul, mul-zero, mul_comm, mul_assoc}
use native.Mathlib.Nat.{mul_right_comm, mul-le-mul, mul-le-mul_left, mul-le-mul_right, mul-lt-mul_of_pos_right, pow-le-pow_left}
use native.Mathlib.Omega.{arith}
use lib.Dec.{T, eqb, leb, leb→le}
use lib.ListN.{length}
use lib.Pow.{pow-add}
use lib.Ieee.{Float, nan, inf, fin, binary64, of_bits, of_fields}
use Rattle.floats.specs.Floats.{is_finite}
use Rattle.floats.specs.Units.{units_of}
use Rattle.decimals.proofs.Powers.{ten_to}
use Rattle.root.proofs.Patterns.{field}
use Rattle.significant.specs.Significant.{digits_of, place_of}
use Rattle.significant.specs.Digits.{value, Digits, times_plus, Enough}
use Rattle.significant.proofs.Values.{ten_pos, ten_mono, multiplied, same_length, are_digits}

-- ---- laid out: 10 ^ 16 * m in 33 + k digits

pub record Laid (l : List ℕ) (m k : ℕ) : Type 0 where
  pub same : length l ≡ 33 + k
  pub each : Digits l
  pub is : value l ≡ 10 ^ 16 * m

pub laid : (l l₁ l₂ : List ℕ) (m k : ℕ) → m < 2 ^ 53 → length l ≡ 33 + k → l₁ ≡ times_plus 0 m l → l₂ ≡ times_plus (10 ^ 16) 0 l₁
    → Laid l₂ m k
laid l l₁ l₂ m k few e f g =
    let n₁ : length l₁ ≡ 33 + k = ap length f ∙ same_length 0 m l ∙ e in
    let room : 10 ^ 33 ≤ 10 ^ (33 + k) = ten_mono 33 (33 + k) (omega arith) in
    let z = zero-mul (value l) in
    let room₁ : 0 * value l + m < 10 ^ length l = subst (λ (j : ℕ). 0 * value l + m < 10 ^ j) (sym e) (omega (arith, room, z)) in
    let v₁ : value l₁ ≡ m = ap value f ∙ multiplied 0 m l room₁ ∙ (let y : 0 * value l + m ≡ m = omega (arith, z) in y) in
    let room₂ : 10 ^ 16 * value l₁ + 0 < 10 ^ length l₁ = subst (λ (j : ℕ). 10 ^ 16 * value l₁ + 0 < 10 ^ j) (sym n₁)
    (omega (arith, room, v₁)) in
    record {
      same = ap length g ∙ same_length (10 ^ 16) 0 l₁ ∙ n₁;
      each = subst Digits (sym g) (are_digits (10 ^ 16) 0 l₁);
      is = ap value g ∙ multiplied (10 ^ 16) 0 l₁ room₂ ∙ (let y : 10 ^ 16 * value l₁ + 0 ≡ 10 ^ 16 * m = omega (arith, v₁) in y);
    }

-- room for k digits more
pub room : (l : List ℕ) (m base k : ℕ) → m < 2 ^ 53 → base ≤ 5 → Laid l m k → value l * base ^ k < 10 ^ length l
room l m base k few h laid =
    let v = laid.is in
    let small : value l < 10 ^ 32 = omega (arith, v) in
    let p : base ^ k ≤ 10 ^ k = pow-le-pow_left (omega arith) k in
    let a : value l * base ^ k ≤ value l * 10 ^ k = mul-le-mul_left (value l) p in
    let b : value l * 10 ^ k < 10 ^ 32 * 10 ^ k = mul-lt-mul_of_pos_right small (ten_pos k) in
    let c : 10 ^ (32 + k) ≤ 10 ^ (33 + k) = ten_mono (32 + k) (33 + k) (omega arith) in
    subst (λ (j : ℕ). value l * base ^ k < 10 ^ j) (sym laid.same)
    (lt_of_lt_of_le (lt_of_le_of_lt a b) (subst (λ (x : ℕ). x ≤ 10 ^ (33 + k)) (pow-add 10 32 k) c))

-- ---- m * base ^ k * 10 ^ shift units

pub units : (v m base k shift : ℕ) → v ≡ 10 ^ 16 * m * base ^ k → m * base ^ k * 10 ^ shift * 10 ^ 16 ≡ v * 10 ^ shift
units v m base k shift e =
    mul_right_comm (m * base ^ k) (10 ^ shift) (10 ^ 16)
    ∙ ap (λ (x : ℕ). x * 10 ^ shift) (mul_comm (m * base ^ k) (10 ^ 16) ∙ sym (mul_assoc (10 ^ 16) m (base ^ k)) ∙ sym e)

pub enough : (v m base k shift : ℕ) → v ≡ 10 ^ 16 * m * base ^ k → 0 < base → 10 ^ 16 ≤ base ^ k * 10 ^ shift → Enough v shift
enough v zero base k shift e b h = inl (e ∙ ap (λ (x : ℕ). x * base ^ k) (mul-zero (10 ^ 16)) ∙ zero-mul (base ^ k))
enough v (suc m) base k shift e b h =
    let one : 1 ≤ base ^ k = one-le-pow k base b in
    let many : 10 ^ 16 * 1 ≤ 10 ^ 16 * suc m = let z : 1 ≤ suc m = omega arith in mul-le-mul_left (10 ^ 16) z in
    let a : 10 ^ 16 * 1 * 1 ≤ 10 ^ 16 * suc m * base ^ k = mul-le-mul many one in
    let c : 10 ^ 16 * 1 * 10 ^ 16 ≤ 10 ^ 16 * suc m * (base ^ k * 10 ^ shift) = mul-le-mul many h in
    let d : v * 10 ^ shift ≡ 10 ^ 16 * suc m * (base ^ k * 10 ^ shift) = ap (λ (x : ℕ). x * 10 ^ shift) e
    ∙ mul_assoc (10 ^ 16 * suc m) (base ^ k) (10 ^ shift) in
    inr (omega (arith, a, e), omega (arith, c, d))

-- ---- m * 2 ^ j * 5 ^ 1074 units, as powers of five and ten, or of two and ten

pub as_five : (m j : ℕ) → j < 1074 → m * 5 ^ (1074 - j) * 10 ^ j ≡ m * 2 ^ j * 5 ^ 1074
as_five m j h =
    ap (λ (x : ℕ). m * 5 ^ (1074 - j) * x) (ten_to j)
    ∙ sym (mul_assoc (m * 5 ^ (1074 - j)) (5 ^ j) (2 ^ j))
    ∙ ap (λ (x : ℕ). x * 2 ^ j)
    (mul_assoc m (5 ^ (1074 - j)) (5 ^ j)
    ∙ ap (λ (x : ℕ). m * x) (sym (pow-add 5 (1074 - j) j) ∙ ap (λ (i : ℕ). 5 ^ i) (let z : 1074 - j + j ≡ 1074 = omega arith in z)))
    ∙ mul_right_comm m (5 ^ 1074) (2 ^ j)

pub as_two : (m j : ℕ) → 1074 ≤ j → m * 2 ^ (j - 1074) * 10 ^ 1074 ≡ m * 2 ^ j * 5 ^ 1074
as_two m j h =
    ap (λ (x : ℕ). m * 2 ^ (j - 1074) * x) (ten_to 1074 ∙ mul_comm (5 ^ 1074) (2 ^ 1074))
    ∙ sym (mul_assoc (m * 2 ^ (j - 1074)) (2 ^ 1074) (5 ^ 1074))
    ∙ ap (λ (x : ℕ). x * 5 ^ 1074)
    (mul_assoc m (2 ^ (j - 1074)) (2 ^ 1074)
    ∙ ap (λ (x : ℕ). m * x) (sym (pow-add 2 (j - 1074) 1074) ∙ ap (λ (i : ℕ). 2 ^ i) (let z : j - 1074 + 1074 ≡ j = omega arith in z)))

pub many_fives : (j : ℕ) → j < 1074 → 10 ^ 16 ≤ 5 ^ (1074 - j) * 10 ^ j
many_fives j h =
    let a : 5 ^ j ≤ 10 ^ j = pow-le-pow_left (omega arith) j in
    let b : 5 ^ (1074 - j) * 5 ^ j ≤ 5 ^ (1074 - j) * 10 ^ j = mul-le-mul_left (5 ^ (1074 - j)) a in
    let c : 5 ^ (1074 - j) * 5 ^ j ≡ 5 ^ 1074 = sym (pow-add 5 (1074 - j) j)
    ∙ ap (λ (i : ℕ). 5 ^ i) (let z : 1074 - j + j ≡ 1074 = omega arith in z) in
    le_trans (leb→le (10 ^ 16) (5 ^ 1074) tt) (subst (λ (x : ℕ). x ≤ 5 ^ (1074 - j) * 10 ^ j) c b)

pub many_tens : (k : ℕ) → 10 ^ 16 ≤ 2 ^ k * 10 ^ 1074
many_tens k =
    let o : 1 ≤ 2 ^ k = one-le-pow k 2 (omega arith) in
    le_trans (ten_mono 16 1074 (omega arith))
    (subst (λ (x : ℕ). x ≤ 2 ^ k * 10 ^ 1074) (one-mul (10 ^ 1074)) (mul-le-mul_right (10 ^ 1074) o))

-- the digits of as many units
pub same_units : (n u v d p : ℕ) → u ≡ v → (d ≡ digits_of n u) × (p ≡ place_of n u) → (d ≡ digits_of n v) × (p ≡ place_of n v)
same_units n u v d p e h = (h.0 ∙ ap (digits_of n) e, h.1 ∙ ap (place_of n) e)

-- ---- bit patterns

pub none_finite : (x : Float) → is_finite x ≡ false → units_of x ≡ 0
none_finite nan e = refl
none_finite (inf s) e = refl
none_finite (fin s m d) e = absurd (subst T e tt)

all_ones : (s : Bool) (t : ℕ) → T (is_finite (of_fields binary64 s 2047 t)) → ⊥
unfolding of_fields
all_ones s t = go (eqb t 0)
  where
    go : (b : Bool) → T (is_finite (cond b (inf s) nan)) → ⊥
    go true h = h
    go false h = h

pub not_all_ones : (b : ℕ) → T (is_finite (of_bits binary64 b)) → field b ≡ 2047 → ⊥
unfolding of_bits
not_all_ones b p h = all_ones (leb (2 ^ 63) b) (b % 2 ^ 52)
    (subst (λ (x : ℕ). T (is_finite (of_fields binary64 (leb (2 ^ 63) b) x (b % 2 ^ 52)))) h p)
