-- `decimals::two_to` meets its contract: the one is not shifted out. Assumes nothing.
use mathlib.Core.Path.{◌≡◌, ap, ◌∙◌}
use Prim.Native.Nat.{ℕ, ◌*◌, ◌%◌, ◌^◌, ◌≤◌, ◌<◌}
use native.Mathlib.Nat.{one-mul, mod-eq_of_lt}
use native.Mathlib.Omega.{arith}
use lib.Pow.{pow-lt}
use Rattle.decimals.proofs.two_to.Goals as goal

power : (k : ℕ) → k ≤ 18 → 1 * 2 ^ k % 2 ^ 64 ≡ 2 ^ k
power k h = ap (λ (x : ℕ). x % 2 ^ 64) (one-mul (2 ^ k)) ∙ mod-eq_of_lt (pow-lt (let z : k < 64 = omega arith in z))

pub returns : goal.returns
returns c = power c.args.k (omega arith)
