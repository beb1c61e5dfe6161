-- `sections::airfoil_moments` meets its contract: the same operations, the cubes by their contract. Assumes nothing.
use Rattle.sections.proofs.airfoil_moments.Goals as goal

pub returns : goal.returns
returns c = rw (c.powi3-2.ensures, c.powi3.ensures)
