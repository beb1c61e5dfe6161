-- `trig::by_quarter` meets its contract, which goes by the same numbers. Assumes nothing.
use mathlib.Core.Path.{◌≡◌, refl}
use Prim.Native.Nat.{ℕ, zero, suc, ◌<◌}
use native.Mathlib.Omega.{arith}
use Rattle.trig.proofs.by_quarter.Goals as goal

three : (k : ℕ) → k < 4 → (k ≡ 0 → ⊥) → (k ≡ 1 → ⊥) → (k ≡ 2 → ⊥) → k ≡ 3
three zero h a b d = absurd (a refl)
three (suc zero) h a b d = absurd (b refl)
three (suc (suc zero)) h a b d = absurd (d refl)
three (suc (suc (suc k))) h a b d = omega arith

pub returns-in-0 : goal.returns-in-0
returns-in-0 c = rw c.in-0.is

pub returns-in-1 : goal.returns-in-1
returns-in-1 c = rw c.in-1.is

pub returns-in-2 : goal.returns-in-2
returns-in-2 c = rw c.in-2.is

pub returns-in_default : goal.returns-in_default
returns-in_default c =
    rw (three _ c.requires c.in_default.in_default-own.rest.0.0.1 c.in_default.in_default-own.rest.0.1 c.in_default.in_default-own.rest.1)
