-- `trig::nearest_magnitude` meets its contract. Below 2^52 the fraction is digits / 2^(1075 − exponent), from there on the whole number
-- digits·2^(exponent − 1075). Assumes nothing.
use mathlib.Core.Path.{sym, ◌∙◌}
use Prim.Native.Nat.{◌-◌}
use native.Mathlib.Omega.{arith}
use lib.Pow.{shl_exact, shr_le}
use Rattle.trig.proofs.Bits.{halved, shifted}
use Rattle.trig.proofs.nearest_magnitude.Goals as goal

pub returns-then-exponent-lt1075 : goal.returns-then-exponent-lt1075
returns-then-exponent-lt1075 c = sym (halved c.args.exponent c.args.digits (omega arith) (omega arith))

pub returns : goal.returns
returns c =
    let x = c.args.exponent in
    let d = c.args.digits in
    shl_exact 53 (x - 1075) 64 c.requires.2 (omega arith) ∙ sym (shifted x d c.if-exponent-lt1075.false)
