-- `refusals::verdict_number` meets its contract: each arm knows its case. Assumes nothing.
use Rattle.refusals.proofs.verdict_number.Goals as goal

pub returns-in-Err : goal.returns-in-Err
returns-in-Err c = rw c.in-Err.is c.number.ensures
