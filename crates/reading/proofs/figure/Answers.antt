-- `reading::figure` meets its contract: past the end of a list its element is a NaN, which the code writes as 0 / 0. Assumes nothing.
use mathlib.Core.Path.{sym, ◌∙◌}
use lib.ListN.{get_or-eq_default}
use lib.Ieee.{nan}
use Rattle.floats.proofs.Nan.{zero_over_zero}
use Rattle.reading.proofs.figure.Goals as goal

pub returns : goal.returns
returns c = zero_over_zero ∙ sym (get_or-eq_default c.args.values.now nan c.if-i-values.false)
