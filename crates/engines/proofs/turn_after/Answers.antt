-- `engines::turn_after` meets its contract. Assumes nothing.
use Rattle.engines.proofs.turn_after.Goals as goal

pub returns-then-ended : goal.returns-then-ended
returns-then-ended c = rw c.if-ended.true

pub returns : goal.returns
returns c = rw c.if-ended.false
