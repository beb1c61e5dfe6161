-- `templates::take_figures` meets its contract: what is left to take from where reading stands is the whole. Assumes nothing.
use native.Mathlib.Omega.{arith}
use borrow.Author.Tests.{not-true, not-false}
use Rattle.tokens.specs.Text.{text, codes}
use Rattle.templates.proofs.Repeats.{all_turns, again, ends}
use Rattle.templates.proofs.take_figures.Goals as goal

pub returns-then-not-next : goal.returns-then-not-next
unfolding text codes
returns-then-not-next c =
    ends _ _ _ _ _ _ _ c.loop-turn.invariant _ _ c.take_one-next.ensures (not-true _ c.if-not-next.true)

pub loop-turn-preserved : goal.loop-turn-preserved
loop-turn-preserved c =
    again _ _ _ _ _ _ _ c.loop-turn.invariant _ _ c.take_one-next.ensures _ (omega arith) (not-false _ c.if-not-next.false)
    c.take_one-next.auto.values

pub returns : goal.returns
unfolding text codes
returns c = all_turns _ _ _ _ _ _ _ c.loop-turn.invariant (omega arith)
