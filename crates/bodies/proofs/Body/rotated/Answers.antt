-- `bodies::Body::rotated` meets its contract: the turned centre beside the turned tensor. Assumes nothing.
use Rattle.bodies.specs.Bodies.{rotated_of}
use Rattle.bodies.proofs.Body.rotated.Goals as goal

pub returns : goal.returns
unfolding rotated_of
returns c = rw (c.turn-inertia_kg_m2.ensures, c.times_vector-centre_m.ensures)
