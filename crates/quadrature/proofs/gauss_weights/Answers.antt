-- `quadrature::gauss_weights` meets its contract: each weight of an odd node is the table's. Assumes nothing.
use Rattle.quadrature.specs.Tally.{weights_to}
use Rattle.quadrature.proofs.gauss_weights.Goals as goal

pub returns : goal.returns
unfolding weights_to
returns c = rw (
  c.gauss_weight-w7.ensures,
  c.gauss_weight-w5.ensures,
  c.gauss_weight-w3.ensures,
  c.gauss_weight-w1.ensures,
)
