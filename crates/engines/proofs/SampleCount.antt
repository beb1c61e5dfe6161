-- No call on an engine answers more samples than a whole outline can take: a turn that serves a screen and a change of its density answer
-- what a job that was submitted answers, and every other call answers none. Assumes nothing.
use mathlib.Core.Path.{◌≡◌, refl, sym, ap, subst}
use mathlib.Core.Bool.{Bool, true, false, cond}
use mathlib.Core.List.{List}
use Prim.Native.Nat.{ℕ, ◌≤◌}
use native.Mathlib.Omega.{arith}
use borrow.Author.Tests.{ltb-true, ltb-false}
use lib.Dec.{ltb}
use lib.ListN.{length}
use lib.Ieee.{Float}
use Rattle.materials.specs.declared.Density.{Density}
use Rattle.fins.specs.declared.FinSet.{FinSet}
use Rattle.jobs.specs.declared.Job.{Job}
use Rattle.jobs.specs.declared.JobReply.{JobReply}
use Rattle.jobs.specs.declared.Row.{Row}
use Rattle.refusals.specs.Calls.{CallOf}
use Rattle.limits.specs.Limits.{scratch_numbers, most_samples}
use Rattle.jobs.specs.Jobs.{reply_row, made_of}
use Rattle.jobs.specs.Calls as alone
use Rattle.jobs.proofs.SampleCount as job
use Rattle.engines.specs.declared.Engine.{Engine}
use Rattle.engines.specs.declared.ScreenTurn.{ScreenTurn}
use Rattle.engines.specs.declared.ScreenReply.{ScreenReply}
use Rattle.engines.specs.declared.EngineReply.{EngineReply}
use Rattle.engines.specs.Engines.{is_free, holds_job, place_of, next_screen, pick_of, job_at, turned_at, turn_of, turned_row, submit_of}
use Rattle.engines.specs.Engines.{change_at}
use Rattle.engines.specs.Calls.{Call, turn, submit, change, after_calls, EightScreens, job_of, AllSubmitted, answer_by, SamplesAtMost}
use Rattle.engines.proofs.Laws.{served_short, served_idle, submit_refused, submit_taken, submit_not_free, change_none}
use Rattle.engines.proofs.Order.{next_holds}
use Rattle.engines.proofs.Effects.{change_goes}
use Rattle.engines.proofs.Alone.{own_served}
use Rattle.engines.proofs.Submissions.{eight_behind, all_submitted, none_held}

abbrev Few : Row → Type 0
Few r = r.figures.samples ≤ most_samples

made_few : (set : FinSet) (points : List Float) (L : ℕ) → Few (reply_row (made_of set points L).reply)
unfolding made_of
made_few set points L = omega arith

module _ (engine : Engine) (w : EightScreens engine) (all : AllSubmitted engine) where
  abbrev Job' : ℕ → Job
  Job' place = job_at engine place

  -- what a job that is held answers
  held_few : (screen : ℕ) → holds_job engine.screens screen ≡ true → (call : alone.Call)
      → Few (alone.answer_by (job_of engine screen) call)
  held_few screen h call =
      let s = all screen h in
      subst (λ (j : Job). Few (alone.answer_by j call)) (sym s.runs.is)
      (job.samples_at_most s.set s.points s.limit s.calls call)

  module _ (scratch : List Float) where
    abbrev Next' : ℕ
    Next' = next_screen engine.screens

    abbrev Row' : CallOf ScreenTurn → Row
    Row' s = turned_row (turned_at engine (pick_of engine.screens) s).answer

    turn_few : (c d : Bool) → ltb (length scratch) scratch_numbers ≡ c → ltb 0 Next' ≡ d
        → Few (turned_row (turn_of engine (length scratch)).answer)
    unfolding turn_of
    turn_few true d c z =
        subst (λ (s : CallOf ScreenTurn). Few (Row' s))
        (sym (served_short engine.screens (Job' (pick_of engine.screens)) (length scratch) (ltb-true _ _ c))) (omega arith)
    turn_few false false c z =
        subst (λ (s : CallOf ScreenTurn). Few (Row' s))
        (sym (served_idle engine.screens (Job' (pick_of engine.screens)) (length scratch) Next' refl (ltb-false _ _ c)
        (ltb-false _ _ z))) (omega arith)
    turn_few false true c z =
        let held = next_holds engine.screens (ltb-true 0 Next' z) in
        subst Few (sym (own_served engine w Next' held scratch (sym (ap (λ (b : Bool). cond b 0 Next') c))).1)
        (held_few Next' held (alone.step scratch))

  module _ (screen : ℕ) (set : FinSet) (points : List Float) (L : ℕ) where
    abbrev Made' : JobReply
    Made' = made_of set points L

    submit_few : (f e : Bool) → is_free engine.screens screen ≡ f → Made'.job.ended ≡ e
        → Few (reply_row (submit_of engine screen set points L).reply)
    unfolding submit_of
    submit_few false e f m =
        subst (λ (s : ScreenReply). Few (reply_row s.reply))
        (sym (submit_not_free engine.screens (Job' (place_of screen)) screen Made' f))
        (omega arith)
    submit_few true true f m =
        subst (λ (s : ScreenReply). Few (reply_row s.reply))
        (sym (submit_refused engine.screens (Job' (place_of screen)) screen Made' f m))
        (made_few set points L)
    submit_few true false f m =
        subst (λ (s : ScreenReply). Few (reply_row s.reply))
        (sym (submit_taken engine.screens (Job' (place_of screen)) screen Made' f m))
        (made_few set points L)

  change_few : (screen : ℕ) (density : Density) (h : Bool) → holds_job engine.screens screen ≡ h
      → Few (reply_row (change_at engine screen density).reply)
  unfolding change_at
  change_few screen density false h =
      subst (λ (s : ScreenReply). Few (reply_row s.reply)) (sym (change_none engine.screens (Job' (place_of screen)) screen density h))
      (omega arith)
  change_few screen density true h =
      subst (λ (s : EngineReply). Few (reply_row s.reply)) (sym (change_goes engine screen density h))
      (held_few screen h (alone.change density))

  answer_few : (call : Call) → Few (answer_by engine call)
  answer_few (turn scratch) = turn_few scratch (ltb (length scratch) scratch_numbers) (ltb 0 (next_screen engine.screens)) refl refl
  answer_few (submit screen set points L) =
      submit_few screen set points L (is_free engine.screens screen) (made_of set points L).job.ended refl refl
  answer_few (change screen density) = change_few screen density (holds_job engine.screens screen) refl

pub samples_at_most : SamplesAtMost
samples_at_most begun b calls call =
    answer_few (after_calls begun calls) (eight_behind calls begun b.eight)
    (all_submitted calls begun b.eight (none_held begun b.no_job_lem)) call
