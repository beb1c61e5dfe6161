-- `decimals::long_quotient` meets its contract: 53 digits of the quotient, rounded, are the bit pattern. Assumes nothing.
use mathlib.Core.Path.{◌≡◌, ◌∙◌}
use Prim.Native.Nat.{ℕ, ◌^◌, ◌≤◌, ◌<◌}
use native.Mathlib.Nat.{le_trans}
use lib.Dec.{leb→le}
use Rattle.decimals.proofs.Powers.{five_pos, five_most}
use Rattle.decimals.proofs.Long.{long_is}
use Rattle.decimals.proofs.long_quotient.Goals as goal

divisor : (k five : ℕ) → k ≤ 18 → five ≡ 5 ^ k → (0 < five) × (five ≤ 2 ^ 42)
divisor k five h e = rw e (five_pos k, le_trans (five_most k h) (leb→le (5 ^ 18) (2 ^ 42) tt))

pub widened-w-requires : goal.widened-w-requires
widened-w-requires c = divisor c.args.k c.five_to.result c.requires.1 c.five_to.ensures

pub returns : goal.returns
returns c =
    let to = c.before.before.before in
    let divided = to.before in
    c.from_bits.ensures
    ∙ long_is c.requires.1 c.five_to.ensures c.widened-w.ensures c.divided-v.ensures
    c.to_nearest-q.ensures.0
