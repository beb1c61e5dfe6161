-- `significant::times_plus` meets its contract: the digits before place i are done, and those from there on are as they
-- were. Assumes nothing.
use mathlib.Core.List.{List, ◌++◌}
use mathlib.Core.Path.{◌≡◌}
use Prim.Native.Nat.{ℕ, ◌^◌, ◌≤◌}
use lib.ListN.{take, drop}
use Rattle.significant.specs.Digits.{times_plus}
use Rattle.significant.proofs.times_plus.Given as goal

pub record SoFar (by plus : ℕ) (before digits : List ℕ) (carry i : ℕ) : Type 0 where
  pub done : times_plus by plus before ≡ take i digits ++ times_plus by carry (drop i digits)
  pub few : carry ≤ 2 ^ 59

abbrev pub invariant-loop-digit : goal.invariant-loop-digit
invariant-loop-digit l = SoFar l.by l.plus l.initial.digits l.digits l.carry l.digit-index
