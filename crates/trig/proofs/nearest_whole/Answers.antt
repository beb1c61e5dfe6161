-- `trig::nearest_whole` meets its contract: what the laws of `Bits` say of each range of the exponent's field. Assumes nothing.
use mathlib.Core.Path.{◌≡◌, sym, ap, subst, ◌∙◌}
use Prim.Native.Nat.{◌<◌}
use native.Mathlib.Nat.{le_trans, le_of_eq, lt_of_lt_of_le}
use native.Mathlib.Omega.{arith}
use lib.Dec.{T}
use lib.Ieee.{binary64, of_bits}
use lib.Ieee.Bits.{of_bits-to_bits}
use Rattle.floats.proofs.Nan.{zero_over_zero}
use Rattle.trig.proofs.Bits.{exponent_of, digits_of, not_finite, below_half, from_half, itself, multiple_of_four, not_zero, at_most_lem}
use Rattle.trig.proofs.nearest_whole.Goals as goal
use Rattle.trig.proofs.nearest_whole.Goals.{After-to_bits-b}

-- the bits are q's
from_bits : (d : After-to_bits-b) → of_bits binary64 d.to_bits-b.result ≡ d.args.q
from_bits d = ap (of_bits binary64) d.to_bits-b.ensures
    ∙ of_bits-to_bits binary64 d.args.q (subst T (sym d.well_formed.0.1) tt)

pub returns-then-exponent-lt1022 : goal.returns-then-exponent-lt1022
returns-then-exponent-lt1022 c = let d = c.before in below_half c.args.q c.to_bits-b.result (from_bits d) c.if-exponent-lt1022.true

pub returns-then-exponent-eq2047 : goal.returns-then-exponent-eq2047
returns-then-exponent-eq2047 c =
    let d = c.before.before in
    let m = not_finite c.args.q c.to_bits-b.result (from_bits d) c.if-exponent-eq2047.true in
    (zero_over_zero ∙ m.0, m.1)

pub returns-then-exponent-ge1077 : goal.returns-then-exponent-ge1077
returns-then-exponent-ge1077 c =
    let d = c.before.before.before in
    let q = c.args.q in
    let b = c.to_bits-b.result in
    let k : exponent_of b < 2047 = omega (arith, c.if-exponent-eq2047.false) in
    (itself q b (from_bits d) (omega arith) k (omega arith), multiple_of_four q b (from_bits d) (omega arith) k c.if-exponent-ge1077.true)

pub returns-then-exponent-ge1075 : goal.returns-then-exponent-ge1075
returns-then-exponent-ge1075 c =
    let n = c.before.before in
    let d = n.before.before.before.before in
    let q = c.args.q in
    let b = c.to_bits-b.result in (
      itself q b (from_bits d) (omega arith) (omega arith) c.if-exponent-ge1075.true,
      c.modulo_four-quarter.ensures
          ∙ (from_half q b (from_bits d) (omega arith) (omega arith) c.nearest_magnitude-n.result c.nearest_magnitude-n.ensures).1,
    )

pub signed_number-m-requires : goal.signed_number-m-requires
signed_number-m-requires c =
    let n = c.before.before in
    let b = c.to_bits-b.result in
    let e = c.nearest_magnitude-n.ensures in (
      lt_of_lt_of_le (not_zero (exponent_of b) (digits_of b) (omega arith) (omega arith)) (le_of_eq (sym e)),
      le_trans (le_of_eq e)
          (at_most_lem (exponent_of b) (digits_of b) c.if-exponent-ge1075.false (omega arith)),
    )

pub returns : goal.returns
returns c =
    let n = c.before.before.before in
    let d = n.before.before.before.before in
    let m = from_half c.args.q c.to_bits-b.result (from_bits d) (omega arith) (omega arith) c.nearest_magnitude-n.result
    c.nearest_magnitude-n.ensures in
    (c.signed_number-m.ensures ∙ m.0, c.modulo_four-quarter.ensures ∙ m.1)
