-- `refusals::refuse_unless` meets its contract, by its test. Assumes nothing.
use Rattle.refusals.proofs.refuse_unless.Goals as goal

pub returns-then-condition : goal.returns-then-condition
returns-then-condition c = rw c.if-condition.true

pub returns : goal.returns
returns c = rw c.if-condition.false
