-- `engines::progress_at` meets its contract: as the job's own, or zeros. Assumes nothing.
use mathlib.Core.Path.{sym, ◌∙◌}
use Rattle.engines.proofs.Laws.{told_held, told_none}
use Rattle.engines.proofs.progress_at.Goals as goal

pub returns-then-holds_job : goal.returns-then-holds_job
returns-then-holds_job c =
    c.progress_of.ensures ∙ sym (told_held _ _ _ (sym c.holds_job.ensures ∙ c.if-holds_job.true))

pub returns : goal.returns
returns c = sym (told_none _ _ _ (sym c.holds_job.ensures ∙ c.if-holds_job.false))
