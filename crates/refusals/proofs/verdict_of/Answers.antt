-- `refusals::verdict_of` meets its contract. Assumes nothing.
use borrow.Author.Tests.{eq-eqb, ne_eqb}
use Rattle.refusals.specs.Numbered.{verdict_from}
use Rattle.refusals.proofs.verdict_of.Goals as goal

pub returns-then-number-eq0 : goal.returns-then-number-eq0
unfolding verdict_from
returns-then-number-eq0 c = rw (eq-eqb _ _ c.if-number-eq0.true)

pub returns : goal.returns
unfolding verdict_from
returns c = rw (ne_eqb _ _ c.if-number-eq0.false, c.refusal_of.ensures)
