-- `decimals::five_to` meets its contract: the exponents add up to k. Assumes nothing.
use mathlib.Core.Path.{◌≡◌}
use native.Mathlib.Nat.{le_trans}
use native.Mathlib.Omega.{arith}
use lib.Dec.{leb→le}
use Prim.Native.Nat.{◌*◌, ◌^◌, ◌≤◌}
use Rattle.decimals.proofs.Powers.{five_of, five_most}
use Rattle.decimals.proofs.five_to.Goals as goal

product : (c : goal.After-low_power) → c.high_power.result * c.low_power.result ≡ 5 ^ c.args.k
product c = five_of c.args.k _ _ c.high_power.ensures c.low_power.ensures

pub overflow_mul-result : goal.overflow_mul-result
overflow_mul-result c =
    let few : 5 ^ c.args.k ≤ 2 ^ 53 = le_trans (five_most c.args.k (omega arith))
    (leb→le (5 ^ 18) (2 ^ 53) tt) in
    omega (arith, product c)

pub returns : goal.returns
returns c = product c
