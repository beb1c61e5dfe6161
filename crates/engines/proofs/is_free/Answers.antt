-- `engines::is_free` meets its contract: a screen, and not held. Assumes nothing.
use Rattle.engines.specs.Engines.{is_free}
use Rattle.engines.proofs.is_free.Goals as goal

pub returns : goal.returns
unfolding is_free
returns c = rw (c.is_screen.ensures, c.place_of-place.ensures.0)
