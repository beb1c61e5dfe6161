-- `engines::after_step` meets its contract. Assumes nothing.
use Rattle.engines.proofs.after_step.Goals as goal

pub returns : goal.returns
returns c = rw (c.turn_after-turn.ensures, c.with_held-screens.ensures)
