-- What a screen's turns worked is what its job's steps worked: so its pieces rise and its numbers are finite, and the turn that serves it
-- leaves its strip's pieces in the scratch. Assumes nothing.
use mathlib.Core.Path.{◌≡◌, refl, sym, ap, ◌∙◌}
use mathlib.Core.Bool.{Bool, true, false, cond}
use mathlib.Core.List.{List, [], ◌∷◌, ◌++◌}
use Prim.Native.Nat.{ℕ, ◌≤◌}
use native.Mathlib.Omega.{arith}
use lib.Dec.{ltb}
use lib.ListN.{length}
use lib.Ieee.{Float}
use Rattle.fins.specs.declared.FinSet.{FinSet}
use Rattle.strips.specs.Strips.{scratch_after}
use Rattle.figures.proofs.Owned.{SetF64}
use Rattle.jobs.specs.declared.Job.{Job}
use Rattle.jobs.specs.declared.JobStep.{JobStep}
use Rattle.refusals.specs.Calls.{CallOf, leaves_alone}
use Rattle.limits.specs.Limits.{scratch_numbers}
use Rattle.jobs.specs.Jobs.{stepped_on}
use Rattle.jobs.specs.Calls.{strips_by}
use Rattle.jobs.specs.Calls as alone
use Rattle.jobs.proofs.Writes.{writes_own_strip, on_no_shorter}
use Rattle.jobs.proofs.Drawn.{drawable}
use Rattle.engines.specs.declared.Engine.{Engine}
use Rattle.engines.specs.declared.ScreenTurn.{ScreenTurn}
use Rattle.engines.specs.declared.Turn.{Turn}
use Rattle.engines.specs.declared.Turn.TheVariants.{Short, Idle}
use Rattle.engines.specs.declared.EngineTurn.{EngineTurn}
use Rattle.engines.specs.Engines.{holds_job, next_screen, pick_of, stepped_at, served_of, job_at, turn_of}
use Rattle.engines.specs.Calls.{Call, turn, job_of, screen_of, since_then, engine_now, OnScreen, DrawnOnScreen}
use Rattle.engines.proofs.Effects.{holds_is_screen}
use Rattle.engines.proofs.Alone.{served}

turn_writes : (engine : Engine) (screen : ℕ) → holds_job engine.screens screen ≡ true
    → (scratch : List Float) → screen ≡ screen_of engine (turn scratch)
    → (turn_of engine (length scratch)).leaves scratch ≡ scratch_after (strips_by (job_of engine screen) (alone.step scratch)) scratch
turn_writes engine screen holds scratch e =
    let s = served engine screen (holds_is_screen engine.screens screen holds) (length scratch) (ltb (length scratch) scratch_numbers)
    refl e in
    ap (λ (t : CallOf EngineTurn). t.leaves scratch) s.turn_is ∙ sym (ap (λ (c : CallOf JobStep). c.leaves scratch) s.step_is)
    ∙ writes_own_strip (job_of engine screen) scratch

-- a turn leaves no shorter scratch
abbrev Job' : Engine → Job
Job' engine = job_at engine (pick_of engine.screens)

abbrev Still' : Engine → Turn → CallOf ScreenTurn
Still' engine t = leaves_alone (record { screens = engine.screens; job = Job' engine; turn = t })

pub turn_no_shorter : (engine : Engine) (scratch : List Float) → length scratch ≤ length ((turn_of engine (length scratch)).leaves scratch)
unfolding turn_of served_of
turn_no_shorter engine scratch = by (ltb (length scratch) scratch_numbers) (ltb 0 (next_screen engine.screens))
  where
    by : (c d : Bool) → length scratch
        ≤ length ((cond c (Still' engine Short)
        (cond d (stepped_at engine.screens (next_screen engine.screens) (stepped_on (Job' engine))) (Still' engine Idle))).leaves
        scratch)
    by true d = omega arith
    by false true = on_no_shorter (Job' engine) scratch
    by false false = omega arith

pub drawn_on_screen : (engine : Engine) (screen : ℕ) (set : FinSet) (points : List Float) (L : ℕ) (calls : List Call) → SetF64 set points
    → OnScreen engine screen set points L calls → holds_job (engine_now engine screen set points L calls).screens screen ≡ true
    → DrawnOnScreen engine screen set points L calls
drawn_on_screen engine screen set points L calls f64s on holds =
    let own = since_then engine screen set points L calls in
    let draws = drawable set points L f64s on.job.accepted in
    record {
      so_far = draws own;
      next_turn = λ scratch e. draws (own ++ alone.step scratch ∷ []);
      written = turn_writes (engine_now engine screen set points L calls) screen holds;
    }
