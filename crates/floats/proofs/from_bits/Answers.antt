-- `floats::from_bits` meets its contract: above an infinity's pattern stand the NaNs' and no others. Assumes nothing.
use mathlib.Core.Path.{sym, ◌∙◌}
use Prim.Native.Nat.{◌*◌, ◌%◌, ◌^◌}
use borrow.Author.Tests.{lt-ltb, le-ltb}
use lib.Ieee.{binary64, of_bits}
use lib.Ieee.Bits.{nan_bits_above, nan_bits_is}
use Rattle.floats.proofs.Nan.{zero_over_zero, only_nan}
use Rattle.floats.proofs.from_bits.Goals as goal

pub returns-then-b-gt9218868437227405312 : goal.returns-then-b-gt9218868437227405312
returns-then-b-gt9218868437227405312 c =
    let b = c.args.b in
    zero_over_zero ∙ only_nan (of_bits binary64 b)
    (sym (nan_bits_is binary64 b) ∙ nan_bits_above binary64 b ∙ lt-ltb (2047 * 2 ^ 52) (b % 2 ^ 63) c.if-b-gt9218868437227405312.true)

pub float_from_bits-result : goal.float_from_bits-result
float_from_bits-result c =
    let b = c.args.b in
    rw (nan_bits_above binary64 b, le-ltb (2047 * 2 ^ 52) (b % 2 ^ 63) c.if-b-gt9218868437227405312.false) tt
