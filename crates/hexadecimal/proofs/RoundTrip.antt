-- What is printed reads back as the same figure. Assumes nothing.
use mathlib.Core.List.{List, [], ◌∷◌, ◌++◌, append_assoc}
use mathlib.Core.Bool.{Bool, true, false, cond}
use mathlib.Core.Path.{◌≡◌, refl, sym, ap, ◌∙◌}
use Prim.Native.Nat.{ℕ, zero, suc, ◌+◌, ◌*◌, ◌/◌, ◌%◌, ◌^◌, ◌<◌, ◌≤◌}
use native.Mathlib.Nat.{mod-eq_of_lt, mod-one, mul-one, pow-suc, mul_assoc, mul-pos}
use native.Mathlib.Omega.{arith}
use borrow.Author.Tests.{lt-ltb, le-leb, lt-leb, ltb-true, ltb-false}
use lib.Arith.{mod-mul}
use lib.Dec.{T, ltb}
use lib.ListN.{length, length-append}
use lib.Ieee.{Float, binary64, fits, eq, to_bits}
use lib.Ieee.Bits.{of_bits-to_bits, to_bits-lt}
use Rattle.floats.specs.Operations.{bits}
use Rattle.std.specs.Prelude.{Some}
use Rattle.hexadecimal.specs.Hex.{digit_value, digit_letter, read_digits, figure_of, digits, printed_bits, printed_value, figure_text}

low_letter : (d : ℕ) → d < 10 → digit_value (d + 48) ≡ d
low_letter d h =
    let a : 48 ≤ d + 48 = omega arith in
    let b : d + 48 ≤ 57 = omega arith in
    simp (le-leb 48 (d + 48) a, le-leb (d + 48) 57 b) (omega arith)

high_letter : (d : ℕ) → 10 ≤ d → d < 16 → digit_value (d + 87) ≡ d
high_letter d h g =
    let a : 48 ≤ d + 87 = omega arith in
    let b : 57 < d + 87 = omega arith in
    let e : 97 ≤ d + 87 = omega arith in
    let f : d + 87 ≤ 102 = omega arith in
    simp (le-leb 48 (d + 87) a, lt-leb (d + 87) 57 b, le-leb 97 (d + 87) e, le-leb (d + 87) 102 f) (omega arith)

letter_value : (d : ℕ) → d < 16 → digit_value (digit_letter d) ≡ d
letter_value d h = go (ltb d 10) refl
  where
    go : (t : Bool) → ltb d 10 ≡ t → digit_value (cond t (d + 48) (d + 87)) ≡ d
    go true e = low_letter d (ltb-true d 10 e)
    go false e = high_letter d (ltb-false d 10 e) h

-- a digit that was printed is read
letter_read : (d n : ℕ) (t : List ℕ) → d < 16 → read_digits (digit_letter d ∷ t) n ≡ read_digits t (n * 16 + d)
unfolding read_digits
letter_read d n t h =
    let v = letter_value d h in
    rw (v, lt-ltb d 16 h)

sixteen_pos : (k : ℕ) → 0 < 16 ^ k
sixteen_pos zero = omega arith
sixteen_pos (suc k) = rw (pow-suc 16 k) (mul-pos (sixteen_pos k) (let z : 0 < 16 = omega arith in z))

digits_read : (k n m : ℕ) (t : List ℕ) → read_digits (digits k n ++ t) m ≡ read_digits t (m * 16 ^ k + n % 16 ^ k)
unfolding digits
digits_read zero n m t = ap (read_digits t) (let a = mod-one n in let b = mul-one m in let e : m ≡ m * 1 + n % 1 = omega arith in e)
digits_read (suc k) n m t =
    let p : 16 ^ suc k ≡ 16 ^ k * 16 = pow-suc 16 k in
    let q : n % (16 ^ k * 16) ≡ (n / 16 % 16 ^ k) * 16 + n % 16 = mod-mul n (sixteen_pos k) (omega arith) in
    let s : m * (16 ^ k * 16) ≡ m * 16 ^ k * 16 = sym (mul_assoc m (16 ^ k) 16) in
    ap (λ (l : List ℕ). read_digits l m) (append_assoc (digits k (n / 16)) (digit_letter (n % 16) ∷ []) t)
    ∙ digits_read k (n / 16) m (digit_letter (n % 16) ∷ t)
    ∙ letter_read (n % 16) (m * 16 ^ k + n / 16 % 16 ^ k) t (omega arith)
    ∙ ap (read_digits t)
    (rw p (let e : (m * 16 ^ k + n / 16 % 16 ^ k) * 16 + n % 16 ≡ m * (16 ^ k * 16) + n % (16 ^ k * 16) = omega arith in e))

pub digits_length : (k n : ℕ) → length (digits k n) ≡ k
unfolding digits
digits_length zero n = refl
digits_length (suc k) n = length-append (digits k (n / 16)) (digit_letter (n % 16) ∷ [])
    ∙ (let h = digits_length k (n / 16) in let e : length (digits k (n / 16)) + 1 ≡ suc k = omega arith in e)

pub figure_length : (x : Float) → length (figure_text x) ≡ 16
unfolding figure_text
figure_length x = digits_length 16 (printed_bits x)

append_nil : (l : List ℕ) → l ++ [] ≡ l
append_nil [] = refl
append_nil (x ∷ xs) = ap (λ (t : List ℕ). x ∷ t) (append_nil xs)

sixteen_read : (n : ℕ) → n < 2 ^ 64 → figure_of (digits 16 n) ≡ Some (bits n)
unfolding figure_of read_digits
sixteen_read n h =
    rw (digits_length 16 n)
    (ap (λ (l : List ℕ). read_digits l 0) (sym (append_nil (digits 16 n)))
    ∙ digits_read 16 n 0 []
    ∙ ap (λ (k : ℕ). Some (bits k)) (let g : n % 2 ^ 64 ≡ n = mod-eq_of_lt h in let e : 0 * 16 ^ 16 + n % 16 ^ 16 ≡ n = omega arith in e))

bits_of : (x : Float) (z : Bool) → T (fits binary64 x)
    → (cond z 0 (to_bits binary64 x) < 2 ^ 64) × (bits (cond z 0 (to_bits binary64 x)) ≡ cond z (bits 0) x)
bits_of x true f = (omega arith, refl)
bits_of x false f = (to_bits-lt binary64 x f, of_bits-to_bits binary64 x f)

-- every f64
pub reads_back : (x : Float) → T (fits binary64 x) → figure_of (figure_text x) ≡ Some (printed_value x)
unfolding figure_text
reads_back x f =
    let b = bits_of x (eq x (bits 0)) f in
    sixteen_read (printed_bits x) b.0 ∙ ap Some b.1
