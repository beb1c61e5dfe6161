-- `jobs::end_refused` meets its contract. Assumes nothing.
use Rattle.jobs.proofs.end_refused.Goals as goal

pub returns : goal.returns
returns c = rw (c.end.ensures, c.bare_figures-outcome.ensures)
