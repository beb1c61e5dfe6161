-- What was taken of the chunk so far, more of it with each step.
use mathlib.Core.List.{List}
use Prim.Native.Nat.{ℕ, ◌-◌, ◌≤◌}
use lib.ListN.{length, take}
use Rattle.input_lines.specs.Taking.{Place, place_in, Hands}
use Rattle.line_runs.specs.declared.Step.{Step}
use Rattle.line_runs.proofs.take_chunk.Given as goal

pub record SoFar {Memory : Type 0} (Answered : Memory → List (List ℕ) → List ℕ → Memory → Type 0) (Stays : Memory → ℕ → Memory → Type 0)
    (most : ℕ) (p : Place Memory) (chunk : List ℕ) (handed : ℕ) (q : Place Memory) (step : Step) : Type 0 where
  pub hands : Hands Answered Stays most p (take step.taken chunk) q handed step.handed
  pub some : step.taken ≤ length chunk

abbrev pub invariant-loop-step : goal.invariant-loop-step
invariant-loop-step g l =
    let m = g.T.Answers in
    SoFar m.answered m.stays m.most (place_in l.initial.buffer l.initial.step.state l.initial.taker) l.chunk l.handed
    (place_in l.buffer l.step.state l.taker) l.step

abbrev pub decreases-loop-step : goal.decreases-loop-step
decreases-loop-step g l = length l.chunk - l.step.taken
