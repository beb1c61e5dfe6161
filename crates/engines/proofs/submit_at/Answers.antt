-- `engines::submit_at` meets its contract: 23, a refusal of the making, or taken. Assumes nothing.
use mathlib.Core.Path.{sym, ◌∙◌}
use Rattle.refusals.proofs.Given.{is_answer}
use Rattle.engines.proofs.Laws.{submit_refused, submit_taken, submit_not_free}
use Rattle.engines.proofs.submit_at.Goals as goal

pub returns-then-new : goal.returns-then-new
returns-then-new c = is_answer (sym (submit_refused _ _ _ _ (sym c.is_free.ensures ∙ c.if-is_free.true) c.if-new.true))

pub returns-then-is_free : goal.returns-then-is_free
returns-then-is_free c = is_answer (rw c.with_held-screens.ensures
    (sym (submit_taken _ _ _ _ (sym c.is_free.ensures ∙ c.if-is_free.true) c.if-new.false)))

pub returns : goal.returns
returns c = is_answer
    (c.refuse.ensures ∙ sym (submit_not_free _ _ _ _ (sym c.is_free.ensures ∙ c.if-is_free.false)))
