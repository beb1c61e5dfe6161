-- `templates::bar_end` meets its contract: the part passed is the alternative so far. Assumes nothing.
use mathlib.Core.List.{List, ◌∷◌, ◌++◌, []}
use mathlib.Core.Bool.{Bool, cond}
use mathlib.Core.Path.{◌≡◌, sym, ap, ◌∙◌}
use Prim.Native.Nat.{ℕ, ◌+◌, ◌<◌, ◌≤◌}
use native.Mathlib.Omega.{arith}
use borrow.Author.Tests.{eq-eqb, ne_eqb, lt-ltb, le-ltb}
use lib.Dec.{eqb}
use lib.ListN.{length, drop, get_or, drop_of_length-le}
use Rattle.tokens.specs.Found.{part}
use Rattle.tokens.proofs.Bytes.{cons_at, part_longer, part_none}
use Rattle.templates.specs.Matching.{cut_after, cut_at_bars}
use Rattle.templates.specs.Cursors.{IsBarEnd}
use Rattle.templates.proofs.bar_end.Goals as goal

module _ (l : List ℕ) (i j : ℕ) where
  start : cut_at_bars (drop i l) ≡ cut_after (part l i i) (drop i l)
  start = ap (λ (w : List ℕ). cut_after w (drop i l)) (sym (part_none l i))

  module _ (a : i ≤ j) (t : cut_at_bars (drop i l) ≡ cut_after (part l i j) (drop j l)) where
    byte : (b : Bool) → j < length l → eqb (get_or l j 0) 124 ≡ b
        → cut_at_bars (drop i l)
        ≡ cond b (part l i j ∷ cut_at_bars (drop (j + 1) l)) (cut_after (part l i j ++ (get_or l j 0 ∷ [])) (drop (j + 1) l))
    unfolding cut_after
    byte b h e = t ∙ ap (cut_after (part l i j)) (cons_at l j h)
        ∙ ap (λ (b : Bool). cond b (part l i j ∷ cut_at_bars (drop (j + 1) l))
        (cut_after (part l i j ++ (get_or l j 0 ∷ [])) (drop (j + 1) l)))
        e

    one_more : j < length l → (get_or l j 0 ≡ 124 → ⊥) → cut_at_bars (drop i l) ≡ cut_after (part l i (j + 1)) (drop (j + 1) l)
    one_more h n = byte _ h (ne_eqb _ _ n) ∙ ap (λ (w : List ℕ). cut_after w (drop (j + 1) l)) (sym (part_longer l i j a h))

    at_bar : j < length l → get_or l j 0 ≡ 124 → IsBarEnd l i j
    at_bar h e = record { behind = a; within = omega arith; cut = byte _ h (eq-eqb _ _ e) ∙ rw (lt-ltb j (length l) h) }

    at_end_lem : j ≡ length l → IsBarEnd l i (length l)
    unfolding cut_after
    at_end_lem e = record {
      behind = omega arith;
      within = omega arith;
      cut = t ∙ ap (λ (k : ℕ). cut_after (part l i k) (drop k l)) e
          ∙ ap (cut_after (part l i (length l))) (drop_of_length-le l (let h : length l ≤ length l = omega arith in h))
          ∙ rw (le-ltb (length l) (length l) (let h : length l ≤ length l = omega arith in h));
    }

pub returns-then-alternatives-end-eq124 : goal.returns-then-alternatives-end-eq124
returns-then-alternatives-end-eq124 c =
    at_bar c.args.alternatives.now c.args.i c.loop-end.end (omega arith) c.loop-end.invariant (omega arith)
    c.if-alternatives-end-eq124.true

pub loop-end-preserved : goal.loop-end-preserved
loop-end-preserved c =
    one_more c.args.alternatives.now c.args.i c.loop-end.end (omega arith) c.loop-end.invariant
    (omega arith) c.if-alternatives-end-eq124.false

pub returns : goal.returns
returns c =
    at_end_lem c.args.alternatives.now c.args.i c.loop-end.end (omega arith) c.loop-end.invariant (omega arith)
