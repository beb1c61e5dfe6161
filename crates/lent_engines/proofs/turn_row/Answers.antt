-- `lent_engines::turn_row` meets its contract: each arm knows its case. Assumes nothing.
use Rattle.lent_engines.proofs.Calls.{row_short, row_idle, row_more, row_ended}
use Rattle.lent_engines.proofs.turn_row.Goals as goal

pub returns-in-Short : goal.returns-in-Short
returns-in-Short c = row_short _ _ c.in-Short.is c.bare_figures-figures.ensures c.figures_row.ensures

pub returns-in-Idle : goal.returns-in-Idle
returns-in-Idle c = row_idle _ _ c.in-Idle.is c.plain_row.ensures

pub returns-in-More : goal.returns-in-More
returns-in-More c = row_more _ _ c.in-More.is c.plain_row-in-More.ensures

pub returns-in-Ended : goal.returns-in-Ended
returns-in-Ended c = row_ended _ _ c.in-Ended.is c.outcome_at-outcome.ensures c.figures_row-in-Ended.ensures
