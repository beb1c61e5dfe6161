-- `quadrature::sample_heights` meets its contract: each pair by its node. Assumes nothing.
use Rattle.quadrature.specs.Rule.{heights_to}
use Rattle.quadrature.proofs.sample_heights.Goals as goal

pub returns : goal.returns
unfolding heights_to
returns c = rw (
  c.node-7.ensures,
  c.node-6.ensures,
  c.node-5.ensures,
  c.node-4.ensures,
  c.node-3.ensures,
  c.node-2.ensures,
  c.node.ensures,
)
