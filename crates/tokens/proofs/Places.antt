-- Runs of bytes and tokens, from a place on. Assumes nothing.
use mathlib.Core.List.{List, ◌∷◌}
use mathlib.Core.Bool.{Bool, true, false, cond}
use mathlib.Core.Path.{◌≡◌, refl, sym, ap, ap₂, subst, ◌∙◌}
use Prim.Native.Nat.{ℕ, zero, suc, ◌+◌, ◌-◌, ◌<◌, ◌≤◌}
use native.Mathlib.Omega.{arith}
use lib.ListN.{length, drop, get_or, drop_of_length-le}
use Rattle.tokens.specs.Tokens.{ends_word}
use Rattle.tokens.specs.declared.TokenRange.{TokenRange}
use Rattle.tokens.specs.Places.{run, is_space, in_word, token_bytes, token_from, token_at}
use Rattle.tokens.proofs.Bytes.{cons_at}

module _ (test : ℕ → Bool) (l : List ℕ) where
  run_at : (i : ℕ) (t : Bool) → i < length l → test (get_or l i 0) ≡ t
      → run test (drop i l) ≡ cond t (suc (run test (drop (i + 1) l))) 0
  unfolding run
  run_at i t h e = ap (run test) (cons_at l i h) ∙ ap (λ (t : Bool). cond t (suc (run test (drop (i + 1) l))) 0) e

  run_none : (i : ℕ) → length l ≤ i → run test (drop i l) ≡ 0
  unfolding run
  run_none i h = ap (run test) (drop_of_length-le l h)

  module _ (at i : ℕ) (s : at + run test (drop at l) ≡ i + run test (drop i l)) where
    pub run_on : i < length l → test (get_or l i 0) ≡ true → at + run test (drop at l) ≡ i + 1 + run test (drop (i + 1) l)
    run_on h e = let q = run_at i true h e in omega (arith, s, q)

    pub run_stops : i < length l → test (get_or l i 0) ≡ false → i ≡ at + run test (drop at l)
    run_stops h e = let q = run_at i false h e in omega (arith, s, q)

    pub run_ends : length l ≤ i → i ≡ at + run test (drop at l)
    run_ends h = let q = run_none i h in omega (arith, s, q)

  -- what each byte that passes the test hands on holds past the run
  pub along : (P : ℕ → Type 0) → ((i : ℕ) → i < length l → test (get_or l i 0) ≡ true → P i → P (i + 1))
      → (k at : ℕ) → k ≡ length l - at → P at → P (at + run test (drop at l))
  along P step zero at e p = let q = run_none at (omega (arith, e)) in subst P (omega (arith, q)) p
  along P step (suc k) at e p = by (test (get_or l at 0)) refl (along P step k (at + 1) (omega (arith, e)))
    where
      inside : at < length l
      inside = omega (arith, e)

      by : (t : Bool) → test (get_or l at 0) ≡ t → (P (at + 1) → P (at + 1 + run test (drop (at + 1) l)))
          → P (at + run test (drop at l))
      by true f rest = let q = run_at at true inside f in subst P (omega (arith, q)) (rest (step at inside f p))
      by false f rest = let q = run_at at false inside f in subst P (omega (arith, q)) p

module _ (line : List ℕ) (at f : ℕ) (e : f ≡ token_from line at) where
  abbrev found : ℕ → ℕ → TokenRange
  found x y = record { from = x; to = y }

  is_token : (t : ℕ) → t ≡ f + token_bytes (drop f line) → found f t ≡ token_at line at
  is_token t g = ap₂ (λ (x y : ℕ). found x y) e (g ∙ ap (λ (x : ℕ). x + token_bytes (drop x line)) e)

  pub no_token : length line ≤ f → found f f ≡ token_at line at
  no_token h =
      let q : token_bytes (drop f line) ≡ 0 = ap token_bytes (drop_of_length-le line h) in
      is_token f (omega (arith, q))

  module _ (h : f < length line) where
    pub bracket_place : ends_word (get_or line f 0) ≡ true → found f (f + 1) ≡ token_at line at
    bracket_place b =
        let q : token_bytes (drop f line) ≡ 1 = ap token_bytes (cons_at line f h)
        ∙ ap (λ (t : Bool). cond t 1 (run in_word (get_or line f 0 ∷ drop (f + 1) line))) b in
        is_token (f + 1) (omega (arith, q))

    pub word_place : (t : ℕ) → ends_word (get_or line f 0) ≡ false → t ≡ f + run in_word (drop f line)
        → found f t ≡ token_at line at
    word_place t b g =
        let q : token_bytes (drop f line) ≡ run in_word (drop f line) = ap token_bytes (cons_at line f h)
        ∙ ap (λ (t : Bool). cond t 1 (run in_word (get_or line f 0 ∷ drop (f + 1) line))) b ∙ ap (run in_word) (sym (cons_at line f h)) in
        is_token t (omega (arith, q, g))

pub past_end : (line : List ℕ) (at : ℕ) → length line ≤ at → at ≡ token_from line at
past_end line at h = let q = run_none is_space line at h in omega (arith, q)
