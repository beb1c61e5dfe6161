-- What was taken of the chunk so far, more of it with each step.
use mathlib.Core.List.{List}
use mathlib.Core.Bool.{true, true≢false}
use mathlib.Core.Path.{◌≡◌, sym, ◌∙◌}
use Prim.Native.Nat.{ℕ, ◌≤◌}
use native.Mathlib.Omega.{arith}
use borrow.Author.Tests.{ltb-true, ltb-false}
use lib.ListN.{length, take}
use lib.Seq.{length-take-le}
use Rattle.input_lines.specs.Taking.{Place}
use Rattle.input_lines.proofs.Taking.{none_handed}
use Rattle.reads.specs.Reads.{most_read}
use Rattle.line_runs.specs.declared.Step.{Step}
use Rattle.line_runs.specs.Runs.{TakesChunk}
use Rattle.line_runs.proofs.Running.{still_counted, next_step}
use Rattle.line_runs.proofs.take_chunk.Goals as goal
use Rattle.line_runs.proofs.take_chunk.Invariants.{SoFar}

-- the loop's end: nothing is left, or a write failed
ends : {Memory : Type 0} {Answered : Memory → List (List ℕ) → List ℕ → Memory → Type 0} {Stays : Memory → ℕ → Memory → Type 0} {most : ℕ}
    {p q : Place Memory} {chunk : List ℕ} {handed : ℕ} {step : Step} → SoFar Answered Stays most p chunk handed q step
    → (step.all ≡ true → length chunk ≤ step.taken) → TakesChunk Answered Stays most p q chunk handed step
ends v h = let m = v.some in record { hands = v.hands; some = m; all = λ e. (let l = h e in omega arith) }

pub take_next-step-requires : goal.take_next-step-requires
take_next-step-requires g c =
    let m = g.T.Answers in let v = c.loop-step.invariant in let step = c.loop-step.step in let d = c.requires.0 in
    let b = v.hands.takes.buffers in let line = d.line in
    let e = length-take-le step.taken c.args.chunk.now v.some in (
      record { line = omega arith; within = v.hands.takes.within d.within; some = d.some; most = d.most },
      rw e at (still_counted most_read v.hands c.requires.1),
      ltb-true step.taken _ c.if-step-chunk.true-raw,
      rw e at (m.still_ready _ _ most_read (length (take step.taken c.args.chunk.now)) c.requires.2 v.hands.takes.stays),
    )

pub loop-step-smaller : goal.loop-step-smaller
loop-step-smaller g c = let p = c.take_next-step.ensures in let m = p.more in let n = p.some in omega (arith, m, n)

pub loop-step-preserved : goal.loop-step-preserved
loop-step-preserved g c =
    let p = c.take_next-step.ensures in
    record { hands = next_step g.T.Answers.laws c.args.chunk.now c.loop-step.invariant.hands p; some = p.some }

pub loop-step-init : goal.loop-step-init
loop-step-init g c = record { hands = none_handed g.T.Answers.laws; some = omega arith }

pub shape_of-buffer-else-step-chunk : goal.shape_of-buffer-else-step-chunk
shape_of-buffer-else-step-chunk g c = c.loop-step.invariant.hands.takes.buffers

pub returns-else-step-chunk : goal.returns-else-step-chunk
returns-else-step-chunk g c = ends c.loop-step.invariant (λ _. ltb-false c.loop-step.step.taken _ c.if-step-chunk.false-raw)

pub shape_of-buffer-after-loop-step : goal.shape_of-buffer-after-loop-step
shape_of-buffer-after-loop-step g c = c.loop-step.invariant.hands.takes.buffers

pub returns-after-loop-step : goal.returns-after-loop-step
returns-after-loop-step g c = ends c.loop-step.invariant (λ e. absurd (true≢false (sym e ∙ c.loop-step-test.false)))
