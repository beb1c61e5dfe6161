-- `gauss_kronrod::node` meets its contract: the array's bit patterns are those of the table. Assumes nothing.
use mathlib.Core.Path.{refl}
use lib.Ieee.{of_bits, round}
use Rattle.gauss_kronrod.specs.Tables.{nodes}
use Rattle.gauss_kronrod.proofs.PastTheEnd.{past_the_end}
use Rattle.gauss_kronrod.proofs.node.Goals as goal

pub returns-then-i-lt8 : goal.returns-then-i-lt8
unfolding nodes of_bits round
returns-then-i-lt8 c = refl

pub returns-else-i-lt8 : goal.returns-else-i-lt8
unfolding nodes
returns-else-i-lt8 c = past_the_end nodes c.args.i c.if-i-lt8.false
