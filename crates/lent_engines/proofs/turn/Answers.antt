-- `lent_engines::turn` meets its contract: the parts are called in order, and a turn that served no screen wrote nothing. Assumes nothing.
use mathlib.Core.Path.{sym, ◌∙◌}
use Rattle.lent_engines.proofs.Calls.{turns_idle, turns}
use Rattle.lent_engines.proofs.turn.Goals as goal

pub returns-then-served_screen-eq0 : goal.returns-then-served_screen-eq0
returns-then-served_screen-eq0 c =
    turns_idle _ _ _ c.read_screens-screens.ensures _ _ c.read_at-job.ensures c.pick-place.ensures.0 _ _ _ c.serve-s.ensures
    (sym c.served_screen.ensures ∙ c.if-served_screen-eq0.true)

pub write_at-requires : goal.write_at-requires
write_at-requires c =
    (c.requires, c.pick-place.ensures.1)

pub returns : goal.returns
returns c = turns _ _ _ c.read_screens-screens.ensures _ _ c.read_at-job.ensures c.pick-place.ensures.0 _ _ _ c.serve-s.ensures
    _ _ (λ z. c.if-served_screen-eq0.false (c.served_screen.ensures ∙ z)) c.write_at.ensures
