-- `root::digit_root` meets its contract: after i turns s is the root of the 2 * i digits that have come in, with `rest`
-- left over. Assumes nothing.
use Prim.Native.Nat.{ℕ, ◌+◌, ◌*◌, ◌^◌, ◌≤◌, ◌<◌}
use mathlib.Core.Path.{◌≡◌}
use Rattle.root.proofs.digit_root.Given as goal

pub record State (n i left s rest : ℕ) : Type 0 where
  pub few : left < 2 ^ 54
  pub over : rest ≤ 2 * s
  pub digits : s < 2 ^ i
  pub fits : 2 ^ i ≤ 2 ^ 53
  pub whole : n * 4 ^ i ≡ (s * s + rest) * 2 ^ 54 + left

abbrev pub invariant-loop : goal.invariant-loop
invariant-loop l = State l.n l.counter l.left l.s l.rest
