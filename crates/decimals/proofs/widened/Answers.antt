-- `decimals::widened` meets its contract: a quotient of over 53 digits is brought to 53. Assumes nothing.
use native.Mathlib.Omega.{arith}
use Rattle.decimals.proofs.Steps.{few_zeros, is_widened}
use Rattle.decimals.proofs.widened.Goals as goal

pub overflow_sub-shift : goal.overflow_sub-shift
overflow_sub-shift c = omega (arith, few_zeros c.args.n c.args.d (omega arith) (omega arith) c.if-q-lt-WHOLE.false)

pub returns : goal.returns
returns c = is_widened c.args.n c.args.d (omega arith) (omega arith) c.if-q-lt-WHOLE.false
