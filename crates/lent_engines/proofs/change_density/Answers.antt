-- `lent_engines::change_density` meets its contract: the parts are called in order, and a density that is refused wrote
-- nothing. Assumes nothing.
use mathlib.Core.Path.{sym, ap, ◌∙◌}
use mathlib.Core.Bool.{not}
use Rattle.lent_engines.proofs.Calls.{changes_not, changes}
use Rattle.lent_engines.proofs.change_density.Goals as goal

pub returns-then-is_err : goal.returns-then-is_err
returns-then-is_err c = changes_not _ _ _ c.read_screens-screens.ensures _ _ c.read_at-job.ensures _ c.place_of-place.ensures.0 _ _
    c.change_at-s.ensures.is
    (ap not (sym c.is_err.ensures.value ∙ c.if-is_err.true))

pub write_at-requires : goal.write_at-requires
write_at-requires c =
    (c.requires, c.place_of-place.ensures.1)

pub returns : goal.returns
returns c = changes _ _ _ c.read_screens-screens.ensures _ _ c.read_at-job.ensures _ c.place_of-place.ensures.0 _ _
    c.change_at-s.ensures.is
    (ap not (sym c.is_err.ensures.value ∙ c.if-is_err.false)) _ _ c.write_at.ensures
