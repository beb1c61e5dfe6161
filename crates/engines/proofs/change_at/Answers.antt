-- `engines::change_at` meets its contract: as the job's own change, or 12. Assumes nothing.
use mathlib.Core.Path.{sym, ◌∙◌}
use Rattle.refusals.proofs.Given.{is_answer}
use Rattle.engines.proofs.Laws.{change_held, change_none}
use Rattle.engines.proofs.change_at.Goals as goal

pub returns-then-holds_job : goal.returns-then-holds_job
returns-then-holds_job c =
    is_answer (rw c.change_by_value-changed.ensures.is (sym (change_held _ _ _ _ (sym c.holds_job.ensures ∙ c.if-holds_job.true))))

pub returns : goal.returns
returns c = is_answer
    (c.refuse.ensures ∙ sym (change_none _ _ _ _ (sym c.holds_job.ensures ∙ c.if-holds_job.false)))
