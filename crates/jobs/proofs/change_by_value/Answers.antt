-- `jobs::change_by_value` meets its contract: ended, taken or refused. Assumes nothing.
use mathlib.Core.Path.{sym, ◌∙◌}
use Rattle.refusals.proofs.Given.{is_answer}
use Rattle.jobs.proofs.Laws.{change_ended, change_refused, change_taken}
use Rattle.jobs.proofs.change_by_value.Goals as goal

pub returns-then-over : goal.returns-then-over
returns-then-over c = is_answer (c.keep_density.ensures ∙ sym (change_ended _ _ c.if-over.true))

pub returns-in-Ok : goal.returns-in-Ok
returns-in-Ok c =
    is_answer (c.take_density.ensures
    ∙ sym (change_taken _ _ c.if-over.false (sym c.check_density-verdict.ensures ∙ c.in-Ok.is)))

pub returns-in-Err : goal.returns-in-Err
returns-in-Err c =
    is_answer (c.keep_density-in-Err.ensures
    ∙ sym (change_refused _ _ _ c.if-over.false (sym c.check_density-verdict.ensures ∙ c.in-Err.is)))
