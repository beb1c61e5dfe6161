-- `lent_jobs::step_row` meets its contract: each arm knows its case. Assumes nothing.
use Rattle.lent_jobs.proofs.Unchanged.{row_short, row_more, row_ended}
use Rattle.lent_jobs.proofs.step_row.Goals as goal

pub returns-in-Short : goal.returns-in-Short
returns-in-Short c = row_short _ _ c.in-Short.is c.bare_figures-figures.ensures c.figures_row.ensures

pub returns-in-More : goal.returns-in-More
returns-in-More c = row_more _ _ c.in-More.is c.plain_row.ensures

pub returns-in-Ended : goal.returns-in-Ended
returns-in-Ended c = row_ended _ _ c.in-Ended.is c.read_outcome-outcome.ensures c.figures_row-in-Ended.ensures
