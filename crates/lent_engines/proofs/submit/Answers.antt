-- `lent_engines::submit` meets its contract: the parts are called in order, and a submission that is refused wrote
-- nothing. Assumes nothing.
use mathlib.Core.Path.{sym, ap, ◌∙◌}
use mathlib.Core.Bool.{not}
use Rattle.lent_engines.proofs.Calls.{submits_not, submits}
use Rattle.lent_engines.proofs.submit.Goals as goal

pub returns-then-is_err : goal.returns-then-is_err
returns-then-is_err c =
    submits_not _ _ _ c.read_screens-screens.ensures _ _ c.read_at-job.ensures _ c.place_of-place.ensures.0 _ _ _ _ _
    c.make-made.ensures.is c.submit_at-s.ensures.is
    (ap not (sym c.is_err.ensures.value ∙ c.if-is_err.true))

pub write_at-requires : goal.write_at-requires
write_at-requires c =
    (c.requires, c.place_of-place.ensures.1)

pub returns : goal.returns
returns c = submits _ _ _ c.read_screens-screens.ensures _ _ c.read_at-job.ensures _ c.place_of-place.ensures.0 _ _ _ _ _
    c.make-made.ensures.is c.submit_at-s.ensures.is
    (ap not (sym c.is_err.ensures.value ∙ c.if-is_err.false)) _ _ c.write_at.ensures
