-- `explanations::find_fault` meets its contract: as long as tokens pass, those that are left decide. Assumes nothing.
use mathlib.Core.Path.{sym, ◌∙◌}
use native.Mathlib.Omega.{arith}
use borrow.Author.Tests.{not-true, not-false}
use Rattle.explanations.proofs.Saving.{stops, goes_on, no_turn_lem}
use Rattle.explanations.proofs.find_fault.Goals as goal

pub returns-then-not-passes : goal.returns-then-not-passes
returns-then-not-passes c =
    record {
      is = sym (c.loop-turn.invariant.2
          ∙ stops _ _ _ _ _ c.next_token-f.ensures.place _ (omega arith) (sym c.passes.ensures ∙ not-true _ c.if-not-passes.true-raw));
      ordered = c.next_token-f.ensures.ordered;
      within = c.next_token-f.ensures.within c.loop-turn.invariant.0;
    }

pub loop-turn-preserved : goal.loop-turn-preserved
loop-turn-preserved c = (
  c.next_token-f.ensures.within c.loop-turn.invariant.0,
  c.passes.auto.trial ∙ c.loop-turn.invariant.1,
  c.loop-turn.invariant.2
      ∙ goes_on _ _ _ _ _ c.next_token-f.ensures.place _ _ (omega arith) (sym c.passes.ensures ∙ not-false _ c.if-not-passes.false-raw),
)

pub returns : goal.returns
returns c =
    record {
      is = sym (c.loop-turn.invariant.2 ∙ no_turn_lem _ _ _ _ _ (omega arith));
      ordered = omega arith;
      within = c.loop-turn.invariant.0;
    }
