-- What is printed reads back as the same count. Assumes nothing.
use mathlib.Core.List.{List, [], ◌∷◌, ◌++◌, append_assoc}
use mathlib.Core.Bool.{Bool, true, false, cond}
use mathlib.Core.Path.{◌≡◌, refl, sym, ap, ◌∙◌}
use Prim.Native.Nat.{ℕ, zero, suc, ◌+◌, ◌*◌, ◌/◌, ◌%◌, ◌^◌, ◌<◌, ◌≤◌}
use native.Mathlib.Nat.{pow-suc}
use native.Mathlib.Omega.{arith}
use borrow.Author.Tests.{lt-ltb, le-leb, ltb-true}
use lib.Dec.{ltb}
use Rattle.texts.proofs.Appending.{append_nil}
use Rattle.std.specs.Prelude.{Some}
use Rattle.counts.specs.Counts.{digit_value, read_digits, count_of, digits, count_text}

digit_value_lem : (d : ℕ) → d < 10 → digit_value (48 + d) ≡ d
digit_value_lem d h =
    let a : 48 ≤ 48 + d = omega arith in
    let b : 48 + d ≤ 57 = omega arith in
    simp (le-leb 48 (48 + d) a, le-leb (48 + d) 57 b) (omega arith)

digit_read : (d m : ℕ) (t : List ℕ) → d < 10 → read_digits ((48 + d) ∷ t) m ≡ read_digits t (m * 10 + d)
unfolding read_digits
digit_read d m t h = rw (digit_value_lem d h, lt-ltb d 10 h)

digits_read : (k n : ℕ) (t : List ℕ) → n < 10 ^ k → read_digits (digits k n ++ t) 0 ≡ read_digits t n
unfolding digits
digits_read zero n t h = ap (read_digits t) (let e : 0 ≡ n = omega arith in e)
digits_read (suc k) n t h =
    let p = pow-suc 10 k in
    by (ltb n 10) refl (digits_read k (n / 10) ((48 + n % 10) ∷ t) (omega arith))
  where
    by : (b : Bool) → ltb n 10 ≡ b → read_digits (digits k (n / 10) ++ ((48 + n % 10) ∷ t)) 0 ≡ read_digits ((48 + n % 10) ∷ t) (n / 10)
        → read_digits (cond b ((48 + n) ∷ []) (digits k (n / 10) ++ ((48 + n % 10) ∷ [])) ++ t) 0 ≡ read_digits t n
    by true e i = digit_read n 0 t (ltb-true n 10 e) ∙ ap (read_digits t) (let z : 0 * 10 + n ≡ n = omega arith in z)
    by false e i =
        ap (λ (l : List ℕ). read_digits l 0) (append_assoc (digits k (n / 10)) ((48 + n % 10) ∷ []) t)
        ∙ i
        ∙ digit_read (n % 10) (n / 10) t (omega arith)
        ∙ ap (read_digits t) (let z : n / 10 * 10 + n % 10 ≡ n = omega arith in z)

-- one digit or more
not_empty : (xs : List ℕ) (d : ℕ) → count_of (xs ++ (d ∷ [])) ≡ read_digits (xs ++ (d ∷ [])) 0
unfolding count_of
not_empty [] d = refl
not_empty (x ∷ xs) d = refl

some_digit : (k n : ℕ) → count_of (digits (suc k) n) ≡ read_digits (digits (suc k) n) 0
unfolding digits
some_digit k n = by (ltb n 10)
  where
    by : (b : Bool) → count_of (cond b ((48 + n) ∷ []) (digits k (n / 10) ++ ((48 + n % 10) ∷ [])))
        ≡ read_digits (cond b ((48 + n) ∷ []) (digits k (n / 10) ++ ((48 + n % 10) ∷ []))) 0
    by true = not_empty [] (48 + n)
    by false = not_empty (digits k (n / 10)) (48 + n % 10)

-- every 64-bit number
pub reads_back : (n : ℕ) → n < 2 ^ 64 → count_of (count_text n) ≡ Some n
unfolding count_text read_digits
reads_back n h =
    let b : n < 10 ^ 20 = let l : 2 ^ 64 ≤ 10 ^ 20 = omega arith in omega arith in
    some_digit 19 n ∙ ap (λ (l : List ℕ). read_digits l 0) (sym (append_nil (digits 20 n))) ∙ digits_read 20 n [] b
