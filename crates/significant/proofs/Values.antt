-- The number that digits write: of a part, of digits multiplied, and how large it is. Assumes nothing.
use mathlib.Core.List.{List, [], ◌∷◌, ◌++◌}
use mathlib.Core.Path.{◌≡◌, refl, ap, ◌∙◌}
use Prim.Native.Nat.{ℕ, zero, suc, ◌+◌, ◌-◌, ◌*◌, ◌/◌, ◌^◌, ◌≤◌, ◌<◌}
use native.Mathlib.Nat.{pow-succ', mul_assoc, mul_comm, mul-add, mul_left_comm, mul-zero, mul-suc, one-mul, le_of_suc-le-suc, one-le-pow}
use native.Mathlib.Nat.{pow-le-pow_right}
use native.Mathlib.Omega.{arith}
use lib.ListN.{length, take, drop, get_or}
use lib.Seq.{drop-cons}
use Rattle.significant.specs.Digits.{value, Digits, times_plus}

-- ---- powers of ten

pub ten_pos : (k : ℕ) → 0 < 10 ^ k
ten_pos k = one-le-pow k 10 (omega arith)

pub ten_mono : (i j : ℕ) → i ≤ j → 10 ^ i ≤ 10 ^ j
ten_mono i j h = let z : 0 < 10 = omega arith in pow-le-pow_right z h

-- ---- parts

-- the first i digits, and those behind them
pub split : (i : ℕ) (l : List ℕ) → i ≤ length l → value l ≡ value (take i l) + 10 ^ i * value (drop i l)
unfolding value
split zero l h = let e = one-mul (value l) in omega (arith, e)
split (suc i) [] h = absurd (let z : ⊥ = omega arith in z)
split (suc i) (d ∷ ds) h =
    let e = split i ds (le_of_suc-le-suc h) in
    let p : 10 ^ suc i * value (drop i ds) ≡ 10 * (10 ^ i * value (drop i ds)) = ap (λ (x : ℕ). x * value (drop i ds)) (pow-succ' 10 i)
    ∙ mul_assoc 10 (10 ^ i) (value (drop i ds)) in
    omega (arith, e, p)

pub digits_take : (i : ℕ) (l : List ℕ) → Digits l → Digits (take i l)
unfolding Digits
digits_take zero l h = tt
digits_take (suc i) [] h = tt
digits_take (suc i) (d ∷ ds) h = (h.0, digits_take i ds h.1)

pub digits_drop : (i : ℕ) (l : List ℕ) → Digits l → Digits (drop i l)
unfolding Digits
digits_drop zero l h = h
digits_drop (suc i) [] h = tt
digits_drop (suc i) (d ∷ ds) h = digits_drop i ds h.1

pub digit_at : (l : List ℕ) (i : ℕ) → Digits l → get_or l i 0 < 10
unfolding Digits
digit_at [] i h = omega arith
digit_at (d ∷ ds) zero h = h.0
digit_at (d ∷ ds) (suc i) h = digit_at ds i h.1

-- ---- size

pub below : (l : List ℕ) → Digits l → value l < 10 ^ length l
unfolding value Digits
below [] h = omega arith
below (d ∷ ds) h = let b = below ds h.1 in let e = pow-succ' 10 (length ds) in let g = h.0 in omega (arith, b, e, g)

-- ---- multiplied

-- what is left over behind the last digit
unfoldable pub carry_out : ℕ → ℕ → List ℕ → ℕ
carry_out by c [] = c
carry_out by c (d ∷ ds) = carry_out by ((d * by + c) / 10) ds

pub same_length : (by c : ℕ) (l : List ℕ) → length (times_plus by c l) ≡ length l
unfolding times_plus
same_length by c [] = refl
same_length by c (d ∷ ds) = ap suc (same_length by ((d * by + c) / 10) ds)

pub are_digits : (by c : ℕ) (l : List ℕ) → Digits (times_plus by c l)
unfolding times_plus Digits
are_digits by c [] = tt
are_digits by c (d ∷ ds) = (omega arith, are_digits by ((d * by + c) / 10) ds)

with_carry : (by c : ℕ) (l : List ℕ) → value (times_plus by c l) + 10 ^ length l * carry_out by c l ≡ by * value l + c
unfolding value times_plus carry_out
with_carry by c [] = let e = one-mul c in let z = mul-zero by in omega (arith, e, z)
with_carry by c (d ∷ ds) =
    let t = d * by + c in
    let e = with_carry by (t / 10) ds in
    let co = carry_out by (t / 10) ds in
    let p : 10 ^ suc (length ds) * co ≡ 10 * (10 ^ length ds * co) = ap (λ (x : ℕ). x * co) (pow-succ' 10 (length ds))
    ∙ mul_assoc 10 (10 ^ length ds) co in
    let q : by * (d + 10 * value ds) ≡ d * by + 10 * (by * value ds) = mul-add by d (10 * value ds)
    ∙ ap (λ (x : ℕ). x + by * (10 * value ds)) (mul_comm by d) ∙ ap (λ (x : ℕ). d * by + x) (mul_left_comm by 10 (value ds)) in
    omega (arith, e, p, q)

-- where the product has room, nothing is left over
pub multiplied : (by c : ℕ) (l : List ℕ) → by * value l + c < 10 ^ length l → value (times_plus by c l) ≡ by * value l + c
multiplied by c l h = none (carry_out by c l) (with_carry by c l)
  where
    none : (k : ℕ) → value (times_plus by c l) + 10 ^ length l * k ≡ by * value l + c → value (times_plus by c l) ≡ by * value l + c
    none zero e = let z = mul-zero (10 ^ length l) in omega (arith, e, z)
    none (suc k) e =
        let m : 10 ^ length l * suc k ≡ 10 ^ length l * k + 10 ^ length l = mul-suc (10 ^ length l) k in
        absurd (let z : ⊥ = omega (arith, e, m, h) in z)

-- ---- one digit more, from above

pub one_lower : (l : List ℕ) (i : ℕ) → 0 < i → i ≤ length l → value (drop (i - 1) l) ≡ get_or l (i - 1) 0 + 10 * value (drop i l)
unfolding value
one_lower l i h g =
    let e : suc (i - 1) ≡ i = omega arith in
    ap value (drop-cons l (i - 1) 0 (omega arith)) ∙ ap (λ (j : ℕ). get_or l (i - 1) 0 + 10 * value (drop j l)) e

pub append_nil : (l : List ℕ) → l ++ [] ≡ l
append_nil [] = refl
append_nil (x ∷ xs) = ap (λ (t : List ℕ). x ∷ t) (append_nil xs)
