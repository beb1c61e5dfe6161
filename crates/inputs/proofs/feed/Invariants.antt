-- `inputs::feed` meets its contract: what was taken of the chunk so far, the bytes of a line and its newline each time. Assumes nothing.
use mathlib.Core.List.{List}
use mathlib.Core.Path.{◌≡◌}
use Prim.Native.Nat.{ℕ, ◌+◌, ◌-◌, ◌<◌, ◌≤◌}
use lib.ListN.{length, take}
use Rattle.input_lines.specs.Lines.{lines_within}
use Rattle.input_lines.specs.Taking.{Begun}
use Rattle.inputs.specs.Inputs.{reply_bytes, replies}
use Rattle.inputs.specs.States.{Place, memory_at, place_in, TakesInto}
use Rattle.inputs.proofs.feed.Given as goal

-- room for one reply more after the replies to the first j bytes of a chunk
abbrev pub RoomAfter : Place → List ℕ → List ℕ → ℕ → List ℕ → ℕ → Type 0
RoomAfter p chunk out₀ n begun j = n + length (replies (lines_within begun (take j chunk)) (memory_at p)) + reply_bytes ≤ length out₀

pub record SoFar (p : Place) (chunk out₀ : List ℕ) (n : ℕ) (q : Place) (out : List ℕ) (taken written : ℕ) : Type 0 where
  pub into : TakesInto p (take taken chunk) q out₀ n out written
  pub some : taken ≤ length chunk
  pub each : (begun : List ℕ) → Begun p begun → (j : ℕ) → j < taken → RoomAfter p chunk out₀ n begun j
  pub begins : taken ≡ 0 → written ≡ n

abbrev pub invariant-loop-taken : goal.invariant-loop-taken
invariant-loop-taken l =
    SoFar (place_in l.initial.buffer l.initial.state l.initial.scratch l.initial.engine_numbers l.initial.engine_counts) l.chunk
    l.initial.out l.n (place_in l.buffer l.state l.scratch l.engine_numbers l.engine_counts) l.out l.taken l.written

abbrev pub decreases-loop-taken : goal.decreases-loop-taken
decreases-loop-taken l =
    length l.chunk - l.taken
