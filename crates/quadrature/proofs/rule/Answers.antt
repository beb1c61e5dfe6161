-- `quadrature::rule` meets its contract, from the sums over the fifteen samples. Assumes nothing.
use Rattle.quadrature.specs.Rule.{piece_of}
use Rattle.quadrature.specs.Tally.{tally_of}
use Rattle.quadrature.proofs.rule.Goals as goal

pub returns : goal.returns
unfolding piece_of tally_of
returns c = rw (c.differences-error.ensures, c.scaled-value.ensures, c.sums-tally.ensures)
