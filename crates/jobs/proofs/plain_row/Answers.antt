-- `jobs::plain_row` meets its contract. Assumes nothing.
use Rattle.jobs.proofs.plain_row.Goals as goal

pub returns : goal.returns
returns c = rw c.bare_figures-figures.ensures
