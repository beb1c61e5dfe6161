-- By whether the last read gave the end of the input.
use mathlib.Core.List.{List, []}
use mathlib.Core.Bool.{Bool, true, false, true≢false}
use mathlib.Core.Path.{◌≡◌, refl, sym, ap, ◌∙◌}
use Prim.Native.Nat.{ℕ, ◌+◌}
use native.Mathlib.Omega.{arith}
use lib.ListN.{take}
use lib.Seq.{length-take-le}
use Rattle.input_lines.specs.Taking.{Place}
use Rattle.input_lines.proofs.Taking.{Laws}
use Rattle.reads.specs.Reads.{at_end}
use Rattle.line_runs.specs.declared.Turn.{Turn}
use Rattle.line_runs.specs.declared.Last.{Last}
use Rattle.line_runs.specs.Runs.{Ends, Tells, Closes}
use Rattle.line_runs.proofs.end_run.Goals as goal

module _ {Memory : Type 0} {Answered : Memory → List (List ℕ) → List ℕ → Memory → Type 0} {told : Memory → Bool → List ℕ}
    {p : Place Memory} (t : Turn)
    {after : Memory} {out : List ℕ} {n : ℕ} where
  -- the input is at its end
  at_end_lem : {most : ℕ} {between : Memory} {written : List ℕ} {last : Last} → at_end t.got ≡ true
      → Ends Answered told most p between written last → Tells Answered between after (told between last.all) out n
      → Closes Answered told p after t out (record { turn = t; all = last.all; handed = t.handed + last.written; told = n })
  at_end_lem {written = written} {last} g e a =
      record {
        same = refl;
        text = take last.written written;
        answers = λ begun k. rw g (a.same _ _ _ (e.answers begun k));
        counts = ap (λ (w : ℕ). t.handed + w) (sym (length-take-le last.written written e.room));
        all = λ f. absurd (true≢false (sym g ∙ f));
        tells = rw g (a.holds ∙ ap (λ (f : Bool → List ℕ). f last.all) e.same_told);
        room = a.room;
      }

  -- it is not: nothing more is written
  before_end : {Stays : Memory → ℕ → Memory → Type 0} → Laws Answered Stays → at_end t.got ≡ false
      → Tells Answered p.memory after (told p.memory false) out n
      → Closes Answered told p after t out (record { turn = t; all = t.all; handed = t.handed; told = n })
  before_end laws g a =
      record {
        same = refl;
        text = [];
        answers = λ begun k. rw g (a.same _ _ _ (laws.no_lines p.memory));
        counts = omega arith;
        all = λ f. refl;
        tells = rw g a.holds;
        room = a.room;
      }

pub returns-then-is_end : goal.returns-then-is_end
returns-then-is_end g c = at_end_lem c.args.t (sym c.is_end.ensures ∙ c.if-is_end.true) c.take_last-last.ensures c.tell-told.ensures

pub returns : goal.returns
returns g c = before_end c.args.t g.T.Answers.laws (sym c.is_end.ensures ∙ c.if-is_end.false) c.tell-told-2.ensures
