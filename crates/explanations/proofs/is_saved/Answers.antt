-- `explanations::is_saved` meets its contract: as long as no ending saved, those that are left decide. Assumes nothing.
use mathlib.Core.List.{List}
use mathlib.Core.Path.{sym, ap, ◌∙◌}
use Prim.Native.Nat.{ℕ}
use native.Mathlib.Omega.{arith}
use lib.ListN.{drop, get_or}
use Rattle.explanations.specs.Endings.{saves_here}
use Rattle.explanations.proofs.Saving.{hit, miss, all_tried}
use Rattle.explanations.proofs.is_saved.Goals as goal

pub returns-then-saves_here : goal.returns-then-saves_here
returns-then-saves_here c =
    let here = c.saves_here.ensures.value
    ∙ ap (λ (s : List ℕ). saves_here c.args.fault s (get_or c.args.endings.now c.loop-j.j 0)
    (drop c.loop-j.j c.args.endings.now)) c.loop-j.invariant.1 in record {
      value = hit _ _ _ _ c.loop-j.invariant.2 (omega arith) (sym here ∙ c.if-saves_here.true);
      trial_unchanged = c.saves_here.ensures.trial_unchanged ∙ c.loop-j.invariant.1;
    }

pub loop-j-preserved : goal.loop-j-preserved
loop-j-preserved c =
    let here = c.saves_here.ensures.value
    ∙ ap (λ (s : List ℕ). saves_here c.args.fault s (get_or c.args.endings.now c.loop-j.j 0)
    (drop c.loop-j.j c.args.endings.now)) c.loop-j.invariant.1 in (
      c.saves_here.auto.trial ∙ c.loop-j.invariant.0,
      c.saves_here.ensures.trial_unchanged ∙ c.loop-j.invariant.1,
      miss _ _ _ _ c.loop-j.invariant.2 (omega arith) (sym here ∙ c.if-saves_here.false),
    )

pub returns-clause-value : goal.returns-clause-value
returns-clause-value c = all_tried _ _ _ _ c.loop-j.invariant.2 (omega arith)
