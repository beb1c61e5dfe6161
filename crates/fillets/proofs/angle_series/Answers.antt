-- `fillets::angle_series` meets its contract: its steps are the definition's, with constants by their bits. Assumes nothing.
use mathlib.Core.Path.{refl}
use lib.Ieee.{of_bits, of_int, round}
use Rattle.fillets.proofs.angle_series.Goals as goal

pub returns : goal.returns
unfolding of_bits of_int round
returns c = refl
