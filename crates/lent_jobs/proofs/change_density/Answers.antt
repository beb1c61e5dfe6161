-- `lent_jobs::change_density` meets its contract: the density is taken there, or nothing is written. Assumes nothing.
use mathlib.Core.Path.{◌∙◌}
use Rattle.lent_jobs.proofs.Unchanged.{density_test, changes_there, changes_none}
use Rattle.lent_jobs.proofs.change_density.Goals as goal

pub returns-then-takes_density : goal.returns-then-takes_density
returns-then-takes_density c = let s = c.args in
    changes_there s.numbers.now s.counts.now _ _ _ _
    (density_test s.numbers.now s.counts.now _ _ c.takes_density.ensures ∙ c.if-takes_density.true)
    c.change_there.ensures

pub returns : goal.returns
returns c = let s = c.args in
    changes_none s.numbers.now s.counts.now _ c.read_job-job.result c.change_by_value-changed.result
    (density_test s.numbers.now s.counts.now _ _ c.takes_density.ensures ∙ c.if-takes_density.false)
    c.read_job-job.ensures c.change_by_value-changed.ensures.is
