-- `lines::unless_refused` meets its contract: each arm knows its case. Assumes nothing.

use Rattle.lines.proofs.unless_refused.Goals as goal

pub returns-in-Ok : goal.returns-in-Ok
returns-in-Ok c = rw c.in-Ok.is

pub returns-in-Err : goal.returns-in-Err
returns-in-Err c = rw c.in-Err.is c.refused_reply.ensures
