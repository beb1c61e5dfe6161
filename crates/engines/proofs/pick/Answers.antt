-- `engines::pick` meets its contract. Assumes nothing.
use mathlib.Core.Path.{◌∙◌}
use mathlib.Core.Path.{ap}
use Rattle.engines.specs.Engines.{place_of, pick_of}
use Rattle.engines.proofs.pick.Goals as goal

pub returns : goal.returns
unfolding pick_of
returns c = (c.place_of.ensures.0 ∙ ap place_of c.next_screen.ensures, c.place_of.ensures.1)
