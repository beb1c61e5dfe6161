-- `bodies::Body::inertia_about` meets its contract: its four calls, put together. Assumes nothing.
use Rattle.bodies.specs.Bodies.{inertia_about_of}
use Rattle.bodies.proofs.Body.inertia_about.Goals as goal

pub returns : goal.returns
unfolding inertia_about_of
returns c = rw (
  c.add.ensures,
  c.scale.ensures,
  c.offset_tensor.ensures,
  c.subtract-offset.ensures,
)
