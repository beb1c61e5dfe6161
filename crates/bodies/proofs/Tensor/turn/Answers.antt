-- `bodies::Tensor::turn` meets its contract: two products and a transpose, put together and averaged. Assumes nothing.
use Rattle.bodies.specs.Tensors.{turn_tensor}
use Rattle.bodies.proofs.Tensor.turn.Goals as goal

pub returns : goal.returns
unfolding turn_tensor
returns c =
    let product = c.before in
    rw (
      c.averaged.ensures,
      c.times.ensures,
      c.transpose.ensures,
      c.times-product.ensures,
      c.as_matrix.ensures,
    )
