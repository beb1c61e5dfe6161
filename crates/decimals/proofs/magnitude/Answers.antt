-- `decimals::magnitude` meets its contract: one division of exact f64s, or the long way. Assumes nothing.
use mathlib.Core.Path.{◌≡◌}
use Prim.Native.Nat.{ℕ, ◌^◌, ◌≤◌}
use native.Mathlib.Nat.{le_trans}
use native.Mathlib.Omega.{arith}
use lib.Dec.{T, leb→le, le→leb}
use lib.IntN.{pos}
use lib.Pow.{pow_mono}
use lib.Ieee.{binary64, in_float}
use Rattle.decimals.proofs.Powers.{five_most}
use Rattle.decimals.proofs.Long.{one_division}
use Rattle.decimals.proofs.magnitude.Goals as goal

whole : (n : ℕ) → n ≤ 2 ^ 53 → T (in_float binary64 (pos n))
unfolding in_float
whole n h = le→leb n (2 ^ 53) h

few_five : (k five : ℕ) → k ≤ 18 → five ≡ 5 ^ k → five ≤ 2 ^ 53
few_five k five h e = rw e (le_trans (five_most k h) (leb→le (5 ^ 18) (2 ^ 53) tt))

few_two : (k two : ℕ) → k ≤ 18 → two ≡ 2 ^ k → two ≤ 2 ^ 53
few_two k two h e = rw e (pow_mono (let z : k ≤ 53 = omega arith in z))

pub int_to_float-result : goal.int_to_float-result
int_to_float-result c = whole _ (omega arith)

pub int_to_float-result-2 : goal.int_to_float-result-2
int_to_float-result-2 c = whole _ (few_five _ _ (omega arith) c.five_to.ensures)

pub int_to_float-result-3 : goal.int_to_float-result-3
int_to_float-result-3 c = whole _ (few_two _ _ (omega arith) c.two_to.ensures)

pub returns : goal.returns
returns c = one_division _ _ _ _ (omega arith) (omega arith) c.five_to.ensures c.two_to.ensures
