-- `gauss_kronrod::gauss_weight` meets its contract: the array's bit patterns are those of the table. Assumes nothing.
use mathlib.Core.Path.{refl}
use lib.Ieee.{of_bits, round}
use Rattle.gauss_kronrod.specs.Tables.{gauss_weights}
use Rattle.gauss_kronrod.proofs.PastTheEnd.{past_the_end}
use Rattle.gauss_kronrod.proofs.gauss_weight.Goals as goal

pub returns-then-j-lt4 : goal.returns-then-j-lt4
unfolding gauss_weights of_bits round
returns-then-j-lt4 c = refl

pub returns-else-j-lt4 : goal.returns-else-j-lt4
unfolding gauss_weights
returns-else-j-lt4 c = past_the_end gauss_weights c.args.j c.if-j-lt4.false
