-- `templates::take_each` meets its contract: what is left to take from where reading stands is the whole. Assumes nothing.
use native.Mathlib.Omega.{arith}
use borrow.Author.Tests.{not-true, not-false}
use Rattle.templates.proofs.Repeats.{all_turns, again, ends}
use Rattle.templates.proofs.take_each.Goals as goal

pub returns-then-not-next : goal.returns-then-not-next
returns-then-not-next c =
    ends _ _ _ _ _ _ _ c.loop-turn.invariant _ _ c.take_text-next.ensures (not-true _ c.if-not-next.true)

pub loop-turn-preserved : goal.loop-turn-preserved
loop-turn-preserved c =
    again _ _ _ _ _ _ _ c.loop-turn.invariant _ _ c.take_text-next.ensures _ (omega arith) (not-false _ c.if-not-next.false)
    c.take_text-next.auto.values

pub returns : goal.returns
returns c = all_turns _ _ _ _ _ _ _ c.loop-turn.invariant (omega arith)
