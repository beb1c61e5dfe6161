-- `lent_jobs::step` meets its contract: the job has ended, the step is short, or it is taken there. Assumes nothing.
use mathlib.Core.Path.{sym, ◌∙◌}
use Rattle.lent_jobs.proofs.Unchanged.{steps_ended, steps_short, steps_there}
use Rattle.lent_jobs.proofs.step.Goals as goal

pub returns-then-ended : goal.returns-then-ended
returns-then-ended c = let s = c.args in
    steps_ended s.numbers.now s.counts.now _ c.if-ended.true-raw

pub returns-then-is_short : goal.returns-then-is_short
returns-then-is_short c = let s = c.args in
    steps_short s.numbers.now s.counts.now _ (sym c.is_short.ensures ∙ c.if-is_short.true)

pub returns : goal.returns
returns c =
    let s = c.args in
    steps_there s.numbers.now s.counts.now _ _ _ _ _ c.if-ended.false-raw (sym c.is_short.ensures ∙ c.if-is_short.false)
    c.step_there.ensures
