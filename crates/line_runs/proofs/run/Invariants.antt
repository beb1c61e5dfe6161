-- What was taken so far, and nothing else was read while it goes on.
use mathlib.Core.List.{List, []}
use mathlib.Core.Bool.{true, false, cond}
use mathlib.Core.Path.{◌≡◌}
use Prim.Native.Nat.{ℕ, ◌+◌, ◌-◌, ◌<◌, ◌≤◌}
use lib.ListN.{length}
use Rattle.input_lines.specs.Taking.{Place, place_in, Hands}
use Rattle.reads.specs.Reads.{brought, at_end, most_read}
use Rattle.line_runs.specs.declared.Turn.{Turn}
use Rattle.line_runs.proofs.run.Given as goal

pub record SoFar {Memory : Type 0} (Answered : Memory → List (List ℕ) → List ℕ → Memory → Type 0) (Stays : Memory → ℕ → Memory → Type 0)
    (most : ℕ) (p : Place Memory) (chunk₀ : List ℕ) (q : Place Memory) (chunk : List ℕ) (turn : Turn) : Type 0 where
  pub taken : List ℕ
  pub rest : List ℕ
  pub hands : Hands Answered Stays most p taken q 0 turn.handed
  pub reads : turn.read ≡ length taken + length rest
  pub few : turn.read ≤ most_read + 65536
  pub goes : turn.more ≡ true → rest ≡ []
  pub stops : at_end turn.got ≡ true → rest ≡ []
  pub halts : turn.more ≡ false → 0 < brought turn.got → turn.all ≡ false
  pub chunks : length chunk ≡ length chunk₀

abbrev pub invariant-loop-turn : goal.invariant-loop-turn
invariant-loop-turn g l =
    let m = g.T.Answers in
    SoFar m.answered m.stays m.most (place_in l.initial.buffer l.initial.turn.state l.initial.taker) l.initial.chunk
    (place_in l.buffer l.turn.state l.taker) l.chunk l.turn

-- each turn that goes on has read a byte
abbrev pub decreases-loop-turn : goal.decreases-loop-turn
decreases-loop-turn g l = most_read - l.turn.read + cond l.turn.more 1 0
