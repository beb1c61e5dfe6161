-- `tokens::word_end` meets its contract: from a byte of a word on, the part passed is the word so far. Assumes nothing.
use mathlib.Core.List.{List, ◌∷◌}
use mathlib.Core.Bool.{true, false, true≢false, not}
use mathlib.Core.Path.{◌≡◌, sym, ap, subst, ◌∙◌}
use Prim.Native.Nat.{ℕ, ◌+◌, ◌<◌, ◌≤◌}
use native.Mathlib.Omega.{arith}
use lib.ListN.{length, drop, get_or}
use Rattle.tokens.specs.Tokens.{ends_word, tokens_after, tokens}
use Rattle.tokens.specs.Found.{part, IsWordEnd}
use Rattle.tokens.specs.Places.{run, in_word}
use Rattle.tokens.proofs.Places.{run_on, run_stops, run_ends}
use Rattle.tokens.proofs.Bytes.{longer_at, word_before, word_at_end, part_longer, part_none, part_first}
use Rattle.tokens.proofs.word_end.Goals as goal

module _ (line : List ℕ) (at i : ℕ) where
  start : tokens (drop at line) ≡ tokens_after (part line at at) (drop at line)
  start = ap (λ (w : List ℕ). tokens_after w (drop at line)) (sym (part_none line at))

  one_more : at ≤ i → i < length line → ends_word (get_or line i 0) ≡ false
      → tokens (drop at line) ≡ tokens_after (part line at i) (drop i line)
      → tokens (drop at line) ≡ tokens_after (part line at (i + 1)) (drop (i + 1) line)
  one_more a h e t =
      t ∙ longer_at line i h (part line at i) e ∙ ap (λ (w : List ℕ). tokens_after w (drop (i + 1) line)) (sym (part_longer line at i a h))

  -- where the word is done, it is the part passed
  word_is : at < i → at < length line → ((b : ℕ) (w : List ℕ) → tokens_after (b ∷ w) (drop i line) ≡ (b ∷ w) ∷ tokens (drop i line))
      → tokens_after (part line at i) (drop i line) ≡ part line at i ∷ tokens (drop i line)
  word_is a h f =
      let p = part_first line at i a h in
      ap (λ (w : List ℕ). tokens_after w (drop i line)) p ∙ f _ _ ∙ ap (λ (w : List ℕ). w ∷ tokens (drop i line)) (sym p)

  -- a byte that ends a word stands at i
  stopped : at ≤ i → i < length line → ends_word (get_or line i 0) ≡ true
      → tokens (drop at line) ≡ tokens_after (part line at i) (drop i line)
      → at + run in_word (drop at line) ≡ i + run in_word (drop i line)
      → IsWordEnd line at i
  stopped a h e t s =
      record {
        behind = a;
        within = omega arith;
        ends = λ g n. (later g n, t ∙ word_is (later g n) g (λ b w. word_before line i h b w e));
        place = run_stops in_word line at i s h (ap not e);
        stops = λ _. e;
      }
    where
      later : at < length line → ends_word (get_or line at 0) ≡ false → at < i
      later g n = below (λ (q : at ≡ i). true≢false (sym e ∙ sym (ap (λ (k : ℕ). ends_word (get_or line k 0)) q) ∙ n))
        where
          below : (at ≡ i → ⊥) → at < i
          below f = omega arith

  -- the line ends at i
  ended : at ≤ i → i ≤ length line → length line ≤ i → tokens (drop at line) ≡ tokens_after (part line at i) (drop i line)
      → at + run in_word (drop at line) ≡ i + run in_word (drop i line)
      → IsWordEnd line at i
  ended a h g t s =
      record {
        behind = a;
        within = h;
        ends = λ k n. (omega arith, t ∙ word_is (omega arith) k (λ b w. word_at_end line i b w g));
        place = run_ends in_word line at i s g;
        stops = λ k. absurd (let z : ⊥ = omega arith in z);
      }

pub returns-then-ends_word : goal.returns-then-ends_word
returns-then-ends_word c =
    let s = c.args in
    stopped s.line.now s.at c.loop-i.i (omega arith) (omega arith) (sym c.ends_word.ensures ∙ c.if-ends_word.true)
    c.loop-i.invariant.0 c.loop-i.invariant.1

pub loop-i-preserved : goal.loop-i-preserved
loop-i-preserved c =
    let s = c.args in
    let e = sym c.ends_word.ensures ∙ c.if-ends_word.false in (
      one_more s.line.now s.at c.loop-i.i (omega arith) (omega arith) e c.loop-i.invariant.0,
      run_on in_word s.line.now _ _ c.loop-i.invariant.1 (omega arith) (ap not e),
    )

pub returns : goal.returns
returns c =
    let line = c.args.line.now in
    let e : c.loop-i.i ≡ length line = omega arith in
    subst (IsWordEnd line c.args.at) e (ended line c.args.at c.loop-i.i (omega arith) (omega arith) (omega arith)
    c.loop-i.invariant.0 c.loop-i.invariant.1)
