-- `fillets::span_less_sine_series` meets its contract: its steps are the definition's, with constants by their bits. Assumes nothing.
use lib.Ieee.{of_bits, of_int, round}
use Rattle.fillets.proofs.span_less_sine_series.Goals as goal

pub returns : goal.returns
unfolding of_bits of_int round
returns c = rw c.powi3-term.ensures
