-- `decimals::high_power` meets its contract: each arm knows j. Assumes nothing.
use mathlib.Core.Path.{◌≡◌, sym, ap}
use Prim.Native.Nat.{ℕ, ◌*◌, ◌^◌}
use native.Mathlib.Omega.{arith}
use Rattle.decimals.proofs.high_power.Goals as goal

power : (i : ℕ) {j : ℕ} → j ≡ i → 5 ^ (5 * i) ≡ 5 ^ (5 * j)
power i e = ap (λ (x : ℕ). 5 ^ (5 * x)) (sym e)

pub returns-in-0 : goal.returns-in-0
returns-in-0 c = power 0 (omega arith)

pub returns-in-1 : goal.returns-in-1
returns-in-1 c = power 1 (omega arith)

pub returns-in-2 : goal.returns-in-2
returns-in-2 c = power 2 (omega arith)

pub returns-in_default : goal.returns-in_default
returns-in_default c = power 3 (omega arith)
