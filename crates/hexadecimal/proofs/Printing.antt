-- Printing from the last digit on: what stands behind the place reached, with the digits still to come, is the whole text. Assumes nothing.
use mathlib.Core.List.{List, [], ◌∷◌, ◌++◌, append_assoc}
use mathlib.Core.Path.{◌≡◌, refl, sym, ap, ◌∙◌}
use Prim.Native.Nat.{ℕ, suc, ◌+◌, ◌-◌, ◌/◌, ◌%◌, ◌<◌, ◌≤◌}
use native.Mathlib.Omega.{arith}
use lib.ListN.{length, take, drop, set, length-set}
use lib.Seq.{drop-cons, drop-set-lt, get_or-set_same, take-add, take-set-le}
use Rattle.hexadecimal.specs.Hex.{digits, digit_letter}

-- what the last 16 - k digits of n + 16 bytes hold
abbrev pub behind : List ℕ → ℕ → ℕ → List ℕ
behind out n k = take (16 - k) (drop (n + k) out)

stored : (out : List ℕ) (n k letter : ℕ) → k < 16 → n + 16 ≤ length out
    → behind (set out (n + k) letter) n k ≡ letter ∷ behind out n (suc k)
stored out n k letter h g =
    let e : 16 - k ≡ suc (16 - suc k) = omega arith in
    let a : n + suc k ≡ suc (n + k) = omega arith in
    let l : n + k < length out = omega arith in
    let m : n + k < length (set out (n + k) letter) = simp length-set l in
    ap (λ (j : ℕ). take j (drop (n + k) (set out (n + k) letter))) e
    ∙ ap (take (suc (16 - suc k))) (drop-cons (set out (n + k) letter) (n + k) 0 m)
    ∙ ap (λ (d : ℕ). d ∷ take (16 - suc k) (drop (suc (n + k)) (set out (n + k) letter))) (get_or-set_same out (n + k) letter 0 l)
    ∙ ap (λ (t : List ℕ). letter ∷ take (16 - suc k) t)
    (drop-set-lt (suc (n + k)) out (n + k) letter (omega arith) ∙ ap (λ (j : ℕ). drop j out) (sym a))

one_digit : (out : List ℕ) (n k rest letter : ℕ) → k < 16 → n + 16 ≤ length out → letter ≡ digit_letter (rest % 16)
    → digits (suc k) rest ++ behind out n (suc k) ≡ digits k (rest / 16) ++ behind (set out (n + k) letter) n k
unfolding digits
one_digit out n k rest letter h g e =
    append_assoc (digits k (rest / 16)) (digit_letter (rest % 16) ∷ []) (behind out n (suc k))
    ∙ ap (λ (d : ℕ). digits k (rest / 16) ++ (d ∷ behind out n (suc k))) (sym e)
    ∙ ap (λ (t : List ℕ). digits k (rest / 16) ++ t) (sym (stored out n k letter h g))

-- the same with the place counted as the code counts it
pub next_digit : (text out : List ℕ) (n k rest letter : ℕ) → 0 < k → k ≤ 16 → n + 16 ≤ length out → letter ≡ digit_letter (rest % 16)
    → text ≡ digits k rest ++ behind out n k → text ≡ digits (k - 1) (rest / 16) ++ behind (set out (n + (k - 1)) letter) n (k - 1)
next_digit text out n k rest letter o h g e t =
    let s : k ≡ suc (k - 1) = omega arith in
    t ∙ ap (λ (j : ℕ). digits j rest ++ behind out n j) s ∙ one_digit out n (k - 1) rest letter (omega arith) g e

pub before_kept : (out₀ out : List ℕ) (n k letter : ℕ) → take n out ≡ take n out₀ → take n (set out (n + k) letter) ≡ take n out₀
before_kept out₀ out n k letter e = take-set-le n out (n + k) letter (omega arith) ∙ e

pub none_behind : (b : ℕ) (out : List ℕ) (n : ℕ) → digits 16 b ≡ digits 16 b ++ behind out n 16
none_behind b out n = sym (append_nil (digits 16 b))
  where
    append_nil : (l : List ℕ) → l ++ [] ≡ l
    append_nil [] = refl
    append_nil (x ∷ xs) = ap (λ (t : List ℕ). x ∷ t) (append_nil xs)

pub all_printed : (text out₀ out : List ℕ) (n k rest : ℕ) → k ≡ 0 → take n out ≡ take n out₀ → text ≡ digits k rest ++ behind out n k
    → take (n + 16) out ≡ take n out₀ ++ text
unfolding digits
all_printed text out₀ out n k rest z e t =
    let f : text ≡ behind out n 0 = t ∙ ap (λ (j : ℕ). digits j rest ++ behind out n j) z in
    let a : n + 0 ≡ n = omega arith in
    take-add n 16 out
    ∙ ap (λ (l : List ℕ). l ++ take 16 (drop n out)) e
    ∙ ap (λ (l : List ℕ). take n out₀ ++ l) (ap (λ (j : ℕ). take 16 (drop j out)) (sym a) ∙ sym f)
