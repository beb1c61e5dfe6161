-- `refusals::verdict_values` meets its contract: each arm knows its case. Assumes nothing.
use Rattle.refusals.proofs.verdict_values.Goals as goal

pub returns-in-Err : goal.returns-in-Err
returns-in-Err c = rw c.in-Err.is c.values.ensures
