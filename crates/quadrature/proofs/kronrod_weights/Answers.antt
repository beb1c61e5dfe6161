-- `quadrature::kronrod_weights` meets its contract: each weight is the table's. Assumes nothing.
use Rattle.quadrature.specs.Tally.{weights_to}
use Rattle.quadrature.proofs.kronrod_weights.Goals as goal

pub returns : goal.returns
unfolding weights_to
returns c = rw (
  c.kronrod_weight-w7.ensures,
  c.kronrod_weight-w6.ensures,
  c.kronrod_weight-w5.ensures,
  c.kronrod_weight-w4.ensures,
  c.kronrod_weight-w3.ensures,
  c.kronrod_weight-w2.ensures,
  c.kronrod_weight-w1.ensures,
  c.kronrod_weight-w0.ensures,
)
