-- `tokens::next_token` meets its contract: past the spaces the byte there says which token begins. Assumes nothing.
use mathlib.Core.List.{List, ◌∷◌, []}
use mathlib.Core.Bool.{true, false}
use mathlib.Core.Path.{◌≡◌, sym, ap, ◌∙◌}
use Prim.Native.Nat.{ℕ, ◌+◌, ◌<◌, ◌≤◌}
use native.Mathlib.Omega.{arith}
use lib.ListN.{length, drop, get_or}
use Rattle.tokens.specs.Tokens.{ends_word, tokens}
use Rattle.tokens.specs.Found.{part, IsFound, IsWordEnd, IsPastSpaces}
use Rattle.tokens.proofs.Bytes.{bracket_at, at_end_lem, part_longer, part_none}
use Rattle.tokens.proofs.Places.{no_token, bracket_place, word_place, past_end}
use Rattle.tokens.proofs.next_token.Goals as goal

one_byte : (line : List ℕ) (i : ℕ) → i < length line → part line i (i + 1) ≡ get_or line i 0 ∷ []
one_byte line i h = part_longer line i i (omega arith) h ∙ rw (part_none line i)

module _ (line : List ℕ) (at from : ℕ) where
  nothing_left : length line ≤ at → IsFound line at (record { from = at; to = at })
  nothing_left h = record {
    first = λ g. absurd (let z : ⊥ = omega arith in z);
    none = λ _. at_end_lem line at h;
    behind = omega arith;
    ordered = omega arith;
    within = λ g. g;
    place = no_token line at at (past_end line at h) h;
  }

  module _ (p : IsPastSpaces line at from) where
    only_spaces : length line ≤ from → IsFound line at (record { from = from; to = from })
    only_spaces h = record {
      first = λ g. absurd (let z : ⊥ = omega arith in z);
      none = λ _. p.same
          ∙ at_end_lem line from h;
      behind = p.behind;
      ordered = omega arith;
      within = λ _. p.within;
      place = no_token line at from p.place h;
    }

    bracket : from < length line → ends_word (get_or line from 0) ≡ true → IsFound line at (record { from = from; to = from + 1 })
    bracket h e =
        let b = p.behind in
        record {
          first = λ _. p.same ∙ bracket_at line from h e (p.stops h)
              ∙ ap (λ (w : List ℕ). w ∷ tokens (drop (from + 1) line)) (sym (one_byte line from h));
          none = λ g. absurd (let z : ⊥ = omega arith in z);
          behind = b;
          ordered = omega arith;
          within = λ _. omega arith;
          place = bracket_place line at from p.place h e;
        }

    in_word_lem : (to : ℕ) → from < length line → ends_word (get_or line from 0) ≡ false → IsWordEnd line from to
        → IsFound line at (record { from = from; to = to })
    in_word_lem to h n w =
        let e = w.ends h n in
        let l = e.0 in
        record {
          first = λ _. p.same
              ∙ e.1;
          none = λ g. absurd (let z : ⊥ = omega arith in z);
          behind = p.behind;
          ordered = w.behind;
          within = λ _. w.within;
          place = word_place line at from p.place h to n w.place;
        }

pub returns-then-line-at : goal.returns-then-line-at
returns-then-line-at c = let s = c.args in nothing_left s.line.now s.at s.at c.if-line-at.true

pub returns-then-line-from : goal.returns-then-line-from
returns-then-line-from c =
    let p = c.before in
    let s = c.args in
    only_spaces s.line.now s.at c.past_spaces-from.result c.past_spaces-from.ensures c.if-line-from.true

pub returns-then-ends_word : goal.returns-then-ends_word
returns-then-ends_word c =
    let p = c.before.before.before.before in
    let s = c.args in
    bracket s.line.now s.at c.past_spaces-from.result c.past_spaces-from.ensures (omega arith)
    (sym c.ends_word.ensures ∙ c.if-ends_word.true)

pub returns : goal.returns
returns c =
    let i = c.before in
    let p = i.before.before.before.before in
    let s = c.args in
    in_word_lem s.line.now s.at c.past_spaces-from.result c.past_spaces-from.ensures c.word_end-to.result (omega arith)
    (sym c.ends_word.ensures ∙ c.if-ends_word.false) c.word_end-to.ensures
