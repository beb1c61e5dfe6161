-- The tokens of a line from a place on, by the byte that stands there. Assumes nothing.
use mathlib.Core.List.{List, [], ◌∷◌, ◌++◌}
use mathlib.Core.Bool.{Bool, true, false, cond}
use mathlib.Core.Path.{◌≡◌, sym, ap, ◌∙◌}
use Prim.Native.Nat.{ℕ, suc, ◌+◌, ◌-◌, ◌<◌, ◌≤◌}
use native.Mathlib.Nat.{sub_self}
use native.Mathlib.Numerals.{add-one}
use native.Mathlib.Omega.{arith}
use borrow.Author.Tests.{ne_eqb}
use lib.ListN.{length, take, drop, get_or, drop_of_length-le, length-drop}
use lib.Seq.{drop-cons, take-suc, get_or-drop}
use Rattle.tokens.specs.Tokens.{ends_word, done, mark, tokens_after, tokens}
use Rattle.tokens.specs.Found.{part}

module _ (l : List ℕ) (i : ℕ) (h : i < length l) where
  pub cons_at : drop i l ≡ get_or l i 0 ∷ drop (i + 1) l
  cons_at = drop-cons l i 0 h ∙ ap (λ (k : ℕ). get_or l i 0 ∷ drop k l) (sym (add-one i))

  -- a byte that ends a word
  ends_at_lem : (w : List ℕ) → ends_word (get_or l i 0) ≡ true
      → tokens_after w (drop i l) ≡ done w (mark (get_or l i 0) (tokens (drop (i + 1) l)))
  unfolding tokens_after
  ends_at_lem w e = ap (tokens_after w) cons_at
      ∙ ap (λ (t : Bool). cond t (done w (mark (get_or l i 0) (tokens (drop (i + 1) l))))
      (tokens_after (w ++ (get_or l i 0 ∷ [])) (drop (i + 1) l))) e

  -- and one that does not
  pub longer_at : (w : List ℕ) → ends_word (get_or l i 0) ≡ false
      → tokens_after w (drop i l) ≡ tokens_after (w ++ (get_or l i 0 ∷ [])) (drop (i + 1) l)
  unfolding tokens_after
  longer_at w e = ap (tokens_after w) cons_at
      ∙ ap (λ (t : Bool). cond t (done w (mark (get_or l i 0) (tokens (drop (i + 1) l))))
      (tokens_after (w ++ (get_or l i 0 ∷ [])) (drop (i + 1) l))) e

  pub space_at : get_or l i 0 ≡ 32 → tokens (drop i l) ≡ tokens (drop (i + 1) l)
  space_at e = ends_at_lem [] (ap ends_word e) ∙ ap (λ (b : ℕ). mark b (tokens (drop (i + 1) l))) e

  pub bracket_at : ends_word (get_or l i 0) ≡ true → (get_or l i 0 ≡ 32 → ⊥)
      → tokens (drop i l) ≡ (get_or l i 0 ∷ []) ∷ tokens (drop (i + 1) l)
  bracket_at e n = ends_at_lem [] e ∙ rw (ne_eqb (get_or l i 0) 32 n)

  -- a word ends before a byte that ends words
  pub word_before : (b : ℕ) (w : List ℕ) → ends_word (get_or l i 0) ≡ true → tokens_after (b ∷ w) (drop i l) ≡ (b ∷ w) ∷ tokens (drop i l)
  word_before b w e = ends_at_lem (b ∷ w) e ∙ ap (λ (ts : List (List ℕ)). (b ∷ w) ∷ ts) (sym (ends_at_lem [] e))

pub at_end_lem : (l : List ℕ) (i : ℕ) → length l ≤ i → tokens (drop i l) ≡ []
unfolding tokens_after
at_end_lem l i h = ap tokens (drop_of_length-le l h)

pub word_at_end : (l : List ℕ) (i b : ℕ) (w : List ℕ) → length l ≤ i → tokens_after (b ∷ w) (drop i l) ≡ (b ∷ w) ∷ tokens (drop i l)
unfolding tokens_after
word_at_end l i b w h =
    ap (tokens_after (b ∷ w)) (drop_of_length-le l h) ∙ ap (λ (ts : List (List ℕ)). (b ∷ w) ∷ ts) (sym (at_end_lem l i h))

-- the part of a line grows by a byte
pub part_longer : (l : List ℕ) (at i : ℕ) → at ≤ i → i < length l → part l at (i + 1) ≡ part l at i ++ (get_or l i 0 ∷ [])
part_longer l at i a h =
    let e : i + 1 - at ≡ suc (i - at) = omega arith in
    let g : at + (i - at) ≡ i = omega arith in
    let m : i - at < length (drop at l) = simp length-drop (omega arith) in
    ap (λ (k : ℕ). take k (drop at l)) e ∙ take-suc (drop at l) (i - at) 0 m
    ∙ ap (λ (x : ℕ). take (i - at) (drop at l) ++ (x ∷ [])) (get_or-drop at l (i - at) 0 ∙ ap (λ (k : ℕ). get_or l k 0) g)

pub part_none : (l : List ℕ) (at : ℕ) → part l at at ≡ []
part_none l at = ap (λ (k : ℕ). take k (drop at l)) (sub_self at)

-- a part of one byte or more has a first one
pub part_first : (l : List ℕ) (at i : ℕ) → at < i → at < length l → part l at i ≡ get_or l at 0 ∷ take (i - at - 1) (drop (at + 1) l)
part_first l at i a h =
    let e : i - at ≡ suc (i - at - 1) = omega arith in
    ap (λ (k : ℕ). take k (drop at l)) e ∙ ap (take (suc (i - at - 1))) (cons_at l at h)
