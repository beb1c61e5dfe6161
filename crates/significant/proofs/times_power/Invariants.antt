-- `significant::times_power` meets its contract: what is there times the power that is left is the whole. Assumes nothing.
use mathlib.Core.List.{List}
use mathlib.Core.Path.{◌≡◌}
use Prim.Native.Nat.{ℕ, ◌*◌, ◌^◌}
use lib.ListN.{length}
use Rattle.significant.specs.Digits.{value, Digits}
use Rattle.significant.proofs.times_power.Given as goal

pub record SoFar (before digits : List ℕ) (base k left : ℕ) : Type 0 where
  pub same : length digits ≡ length before
  pub each : Digits digits
  pub is : value digits * base ^ left ≡ value before * base ^ k

abbrev pub invariant-loop-left : goal.invariant-loop-left
invariant-loop-left l = SoFar l.initial.digits l.digits l.base l.k l.left

abbrev pub decreases-loop-left : goal.decreases-loop-left
decreases-loop-left l = l.left
