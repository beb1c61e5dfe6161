-- What the call on a line promises follows from what its parts wrote, or from a list that has no room. Assumes nothing.
use mathlib.Core.Path.{◌≡◌, refl, sym, ◌∙◌}
use mathlib.Core.Bool.{true, false, true≢false}
use mathlib.Core.List.{List, [], ◌∷◌}
use Prim.Native.Nat.{ℕ, ◌≤◌}
use native.Mathlib.Omega.{arith}
use lib.ListN.{length, take, drop, take-append-drop}
use Rattle.answers.specs.Answers.{answer_bytes}
use Rattle.lent_engines.specs.Memory.{engine_numbers_length, engine_counts_length}
use Rattle.lent_engines.proofs.Calls.{leaves_none}
use Rattle.lines.specs.Lines.{LentMemory, memory_of, lists_of, answer_of, Fits, Answers}
use Rattle.refusals.specs.Lent.{over, room}
use Rattle.screen_exports.specs.LineCalls.{line_room, LineCall}
use Rattle.screen_exports.proofs.Laws.{enough}
use Rattle.refusals.proofs.Accepted.{both_true}

-- a text of r bytes that stands at the start, with the rest as it was
over_start : (before text after : List ℕ) (r : ℕ) → take r after ≡ text → drop r after ≡ drop r before → r ≡ length text →
    after ≡ over text before
over_start before text after r holds rest ends = sym (take-append-drop r after) ∙ rw (holds, rest, ends)

module _ (line : List ℕ) (lent : LentMemory) (answer written : List ℕ) where
  pub line_refused : line_room lent answer written ≡ false → LineCall line lent answer written 18 lent answer written
  line_refused none =
      record {
        returned = rw none;
        answered = rw none;
        counted = rw none;
        memory_left = rw none;
        lists_left = rw none (leaves_none (lists_of lent));
        untouched = λ _. refl;
      }

  pub line_written : line_room lent answer written ≡ true → (n : ℕ) (lent' : LentMemory) (answer' written' : List ℕ) →
      Answers line lent lent' answer 0 answer' n → written' ≡ over (n ∷ []) written →
      LineCall line lent answer written 0 lent' answer' written'
  line_written fits n lent' answer' written' a w =
      let lengths =
      both_true (room engine_numbers_length lent.numbers engine_counts_length lent.counts) (room answer_bytes answer 1 written) fits in
      let enough_answer : (answer_bytes ≤ length answer) × (1 ≤ length written) = enough lengths.1 in
      let all : Fits lent answer 0 = record { answer = enough_answer.0; engine = enough lengths.0 } in
      let text = a.answer all in
      let long : n ≡ length (answer_of line (memory_of lent)) = omega (arith, text.ends) in
      record {
        returned = rw fits;
        answered = rw fits (over_start answer _ answer' n text.holds text.rest long);
        counted = rw (fits, ← long) w;
        memory_left = rw fits (a.left all).memory_left;
        lists_left = rw fits (a.left all).lists_left;
        untouched = λ none. absurd (true≢false (sym fits ∙ none));
      }
