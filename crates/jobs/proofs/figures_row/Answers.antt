-- `jobs::figures_row` meets its contract: each arm knows its case. Assumes nothing.
use Rattle.jobs.proofs.figures_row.Goals as goal

pub returns-in-Ok : goal.returns-in-Ok
returns-in-Ok c = rw c.in-Ok.is

pub returns-in-Err : goal.returns-in-Err
returns-in-Err c = rw (c.number.ensures, c.in-Err.is)
