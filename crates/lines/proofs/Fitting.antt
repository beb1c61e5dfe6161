-- Whether an answer and the engine fit, by the two tests. Assumes nothing.
use mathlib.Core.Bool.{Bool, true, false, ◌&&◌, true≢false}
use mathlib.Core.List.{List}
use mathlib.Core.Path.{◌≡◌, sym, ◌∙◌}
use Prim.Native.Nat.{ℕ, ◌+◌}
use borrow.Author.Tests.{leb-true, le-leb}
use lib.Dec.{leb}
use lib.ListN.{length}
use Rattle.floats.proofs.Bools.{and_left, and_right}
use Rattle.texts.specs.Appended.{Appended}
use Rattle.answers.specs.Answers.{answer_bytes}
use Rattle.lent_engines.specs.Memory.{engine_numbers_length, engine_counts_length}
use Rattle.lines.specs.Lines.{LentMemory, Fits, Answers, memory_of, LeavesLent, line_effect, answer_of}

abbrev engine_test : LentMemory → Bool
engine_test lent = leb engine_numbers_length (length lent.numbers) && leb engine_counts_length (length lent.counts)

module _ (lent : LentMemory) (out : List ℕ) (n : ℕ) (room engine : Bool) (e : room ≡ leb (n + answer_bytes) (length out))
    (f : engine ≡ engine_test lent) where
  pub fitting : room && engine ≡ true → Fits lent out n
  fitting h =
      let both = sym f ∙ and_right room engine h in
      record {
        answer = leb-true (n + answer_bytes) (length out) (sym e ∙ and_left room engine h);
        engine = (
          leb-true engine_numbers_length (length lent.numbers)
              (and_left (leb engine_numbers_length (length lent.numbers)) (leb engine_counts_length (length lent.counts)) both),
          leb-true engine_counts_length (length lent.counts)
              (and_right (leb engine_numbers_length (length lent.numbers)) (leb engine_counts_length (length lent.counts)) both),
        );
      }

  pub not_fitting : room && engine ≡ false → Fits lent out n → ⊥
  not_fitting h g =
      let all : room && engine ≡ true =
      rw (
        e,
        f,
        le-leb (n + answer_bytes) (length out) g.answer,
        le-leb engine_numbers_length (length lent.numbers) g.engine.0,
        le-leb engine_counts_length (length lent.counts) g.engine.1,
      ) in
      true≢false (sym all ∙ h)

-- where they do, the line is answered
pub answered : (line : List ℕ) (lent after : LentMemory) (out : List ℕ) (n : ℕ) (written : List ℕ) (r : ℕ) → Fits lent out n
    → Appended out n (answer_of line (memory_of lent)) written r × LeavesLent (line_effect line (memory_of lent)) lent after
    → Answers line lent after out n written r
answered line lent after out n written r h a = record { answer = λ _. a.0; left = λ _. a.1; no_room = λ g. absurd (g h) }
