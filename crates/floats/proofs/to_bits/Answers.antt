-- `floats::to_bits` meets its contract: only a NaN differs from itself. Assumes nothing.
use mathlib.Core.Path.{◌≡◌, refl, sym, ap, subst, ◌∙◌}
use lib.Dec.{T}
use lib.Ieee.{nan, binary64, to_bits}
use lib.Ieee.Compare.{differs_from_itself}
use Rattle.floats.proofs.Nan.{not_nan}
use Rattle.floats.proofs.to_bits.Goals as goal

nan_bits : 0x7ff8_0000_0000_0000 ≡ to_bits binary64 nan
unfolding to_bits
nan_bits = refl

pub returns-then-x : goal.returns-then-x
returns-then-x c = nan_bits ∙ ap (to_bits binary64) (sym (differs_from_itself c.args.x (subst T (sym c.if-x.true) tt)))

pub float_to_bits-result : goal.float_to_bits-result
float_to_bits-result c = not_nan c.args.x c.if-x.false
