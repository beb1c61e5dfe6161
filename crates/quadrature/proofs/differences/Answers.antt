-- `quadrature::differences` meets its contract, component by component. Assumes nothing.
use Rattle.quadrature.proofs.differences.Goals as goal

pub returns : goal.returns
returns c = rw (
  c.difference-7.ensures,
  c.difference-6.ensures,
  c.difference-5.ensures,
  c.difference-4.ensures,
  c.difference-3.ensures,
  c.difference-2.ensures,
  c.difference.ensures,
)
