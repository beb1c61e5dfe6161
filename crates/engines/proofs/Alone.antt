-- A call on a screen's job is the job's own call, and no other call touches the job: so its answers on the screen are
-- those it gives alone. By cases of the call, then by induction over the calls. Assumes nothing.
use mathlib.Core.Path.{◌≡◌, refl, sym, ap, subst, ◌∙◌}
use mathlib.Core.Bool.{Bool, true, false, not, cond, ◌&&◌, true≢false}
use mathlib.Core.List.{List, [], ◌∷◌, ◌++◌}
use Prim.Native.Nat.{ℕ, ◌≤◌}
use native.Mathlib.Nat.{not-suc-le-zero}
use native.Mathlib.Omega.{arith}
use borrow.Author.Tests.{ltb-false, eqb-true, eqb-false}
use lib.Dec.{ltb, eqb}
use lib.ListN.{length, set}
use lib.Seq.{get_or-set_same}
use lib.Ieee.{Float}
use Rattle.floats.proofs.Bools.{and_left, and_right, and_false}
use Rattle.materials.specs.declared.Density.{Density}
use Rattle.fins.specs.declared.FinSet.{FinSet}
use Rattle.jobs.specs.declared.Job.{Job}
use Rattle.jobs.specs.declared.Progress.TheVariants.{Ended}
use Rattle.jobs.specs.declared.Row.{Row}
use Rattle.jobs.specs.declared.JobStep.{JobStep}
use Rattle.refusals.specs.Calls.{CallOf}
use Rattle.limits.specs.Limits.{scratch_numbers}
use Rattle.jobs.specs.Jobs.{step_row, reply_row, step_after, stepped_on, stepped_by, step_of}
use Rattle.jobs.specs.Calls as alone
use Rattle.jobs.proofs.Laws.{yes, no, step_on, after_both}
use Rattle.engines.specs.declared.Engine.{Engine}
use Rattle.engines.specs.declared.EngineTurn.{EngineTurn}
use Rattle.engines.specs.declared.EngineReply.{EngineReply}
use Rattle.engines.specs.Engines.{is_screen, place_of, holds_job, is_free, next_screen, with_job, turn_row, served_screen, turn_after}
use Rattle.engines.specs.Engines.{stepped_at, turned_at, turn_of, turned_row, submit_of, change_at}
use Rattle.engines.specs.Calls.{Call, turn, submit, change, engine_by, EightScreens, job_of, screen_of, own_by, answers_by}
use Rattle.engines.specs.Calls.{own_over, answers_over, holds_over, answers_alone, AsAlone}
use Rattle.engines.proofs.Laws.{long_enough}
use Rattle.engines.proofs.Effects.{in_eight, place_below, holds_is_screen, turn_serves, submit_busy, change_goes, others_stay}
use Rattle.engines.proofs.Effects.{still_eight}

-- ---- one call, while the screen holds the job
pub record OwnCall (screen : ℕ) (engine : Engine) (call : Call) : Type 0 where
  pub job : job_of (engine_by engine call) screen ≡ alone.after_calls (job_of engine screen) (own_by screen engine call)
  pub answers : answers_by screen engine call ≡ answers_alone (job_of engine screen) (own_by screen engine call)

-- the turn that serves a screen does as its job's step: it is lent enough
pub record Served (engine : Engine) (screen n : ℕ) : Type 0 where
  pub turn_is : turn_of engine n ≡ turned_at engine (place_of screen) (stepped_at engine.screens screen (stepped_on (job_of engine screen)))
  pub step_is : step_of (job_of engine screen) n ≡ stepped_by (stepped_on (job_of engine screen))

pub served : (engine : Engine) (screen : ℕ) → is_screen screen ≡ true → (n : ℕ) (c : Bool) → ltb n scratch_numbers ≡ c
    → screen ≡ cond c 0 (next_screen engine.screens) → Served engine screen n
served engine screen s n true c e = absurd (not-suc-le-zero (subst (λ (k : ℕ). 1 ≤ k) e (in_eight screen s).0))
served engine screen s n false c e =
    record {
      turn_is =
          turn_serves engine n (ltb-false _ _ c) (subst (λ (k : ℕ). 1 ≤ k) e (in_eight screen s).0)
          ∙ ap (λ (k : ℕ). turned_at engine (place_of k) (stepped_at engine.screens k (stepped_on (job_of engine k)))) (sym e);
      step_is =
          step_on (job_of engine screen) n (long_enough (job_of engine screen).ended (job_of engine screen).limit n (ltb-false _ _ c));
    }

module _ (engine : Engine) (w : EightScreens engine) (screen : ℕ) (holds : holds_job engine.screens screen ≡ true) where
  is_screen_lem : is_screen screen ≡ true
  is_screen_lem = holds_is_screen engine.screens screen holds

  pub job_set : (job : Job) → job_of (with_job engine (place_of screen) engine.screens job) screen ≡ job
  job_set job = get_or-set_same engine.jobs (place_of screen) job _ (let p = place_below screen in omega (arith, p, w.jobs))

  -- a call about another screen
  apart : (call : Call) → (screen ≡ screen_of engine call → ⊥) → job_of (engine_by engine call) screen ≡ job_of engine screen
  apart call e = (others_stay engine call screen is_screen_lem e).1

  module _ (scratch : List Float) where
    abbrev Job' : Job
    Job' = (stepped_on (job_of engine screen)).answer

    row_is : (b : Bool) → turn_row (turn_after screen b)
        (job_of (with_job engine (place_of screen) engine.screens Job') (served_screen (turn_after screen b)))
        ≡ step_row (step_after b) Job'
    row_is true = ap (step_row Ended) (job_set Job')
    row_is false = refl

    -- the turn that serves it
    pub own_served : screen ≡ screen_of engine (turn scratch)
        → (job_of (turn_of engine (length scratch)).answer.engine screen ≡ alone.job_by (job_of engine screen) (alone.step scratch))
        × (turned_row (turn_of engine (length scratch)).answer ≡ alone.answer_by (job_of engine screen) (alone.step scratch))
    own_served e =
        let s = served engine screen is_screen_lem (length scratch) (ltb (length scratch) scratch_numbers) refl e in (
          ap (λ (t : CallOf EngineTurn). job_of t.answer.engine screen) s.turn_is ∙ job_set Job'
              ∙ sym (ap (λ (c : CallOf JobStep). c.answer.job) s.step_is),
          ap (λ (t : CallOf EngineTurn). turned_row t.answer) s.turn_is ∙ row_is Job'.ended
              ∙ sym (ap (λ (c : CallOf JobStep). step_row c.answer.progress c.answer.job) s.step_is),
        )

    own_turn : (c : Bool) → eqb screen (screen_of engine (turn scratch)) ≡ c
        → (job_of (turn_of engine (length scratch)).answer.engine screen
        ≡ alone.after_calls (job_of engine screen) (cond c (alone.step scratch ∷ []) []))
        × (cond c (turned_row (turn_of engine (length scratch)).answer ∷ []) []
        ≡ answers_alone (job_of engine screen) (cond c (alone.step scratch ∷ []) []))
    unfolding answers_alone
    own_turn true c = let own = own_served (eqb-true _ _ c) in (own.0, ap (λ (r : Row). r ∷ []) own.1)
    own_turn false c = (apart (turn scratch) (eqb-false _ _ c), refl)

  module _ (other : ℕ) (density : Density) where
    own_change : (c : Bool) → eqb screen other ≡ c
        → (job_of (change_at engine other density).engine screen
        ≡ alone.after_calls (job_of engine screen) (cond c (alone.change density ∷ []) []))
        × (cond c (reply_row (change_at engine other density).reply ∷ []) []
        ≡ answers_alone (job_of engine screen) (cond c (alone.change density ∷ []) []))
    unfolding answers_alone
    own_change true c =
        let e = ap (λ (k : ℕ). change_at engine k density) (sym (eqb-true _ _ c)) ∙ change_goes engine screen density holds in
        (ap (λ (t : EngineReply). job_of t.engine screen) e ∙ job_set _, ap (λ (t : EngineReply). reply_row t.reply ∷ []) e)
    own_change false c = (apart (change other density) (eqb-false _ _ c), refl)

  -- a submission to a screen that holds a job is refused
  not_free : is_free engine.screens screen ≡ false
  unfolding is_free holds_job
  not_free = ap (λ (b : Bool). is_screen screen && not b) (and_right (is_screen screen) _ holds) ∙ and_false (is_screen screen)

  own_submit : (other : ℕ) (set : FinSet) (points : List Float) (L : ℕ) (c : Bool) → eqb screen other ≡ c
      → job_of (submit_of engine other set points L).engine screen ≡ job_of engine screen
  own_submit other set points L true c =
      ap (λ (e : Engine). job_of e screen)
      (submit_busy engine other set points L (ap (is_free engine.screens) (sym (eqb-true _ _ c)) ∙ not_free))
  own_submit other set points L false c = apart (submit other set points L) (eqb-false _ _ c)

  pub own_call : (call : Call) → OwnCall screen engine call
  unfolding answers_alone
  own_call (turn scratch) = let r = own_turn scratch (eqb screen (screen_of engine (turn scratch))) refl in
      record { job = r.0; answers = r.1 }
  own_call (submit other set points L) = record { job = own_submit other set points L (eqb screen other) refl; answers = refl }
  own_call (change other density) = let r = own_change other density (eqb screen other) refl in record { job = r.0; answers = r.1 }

-- ---- lists of calls on a job, one behind the other
answers_both : (job : Job) (calls more : List alone.Call)
    → answers_alone job (calls ++ more) ≡ answers_alone job calls ++ answers_alone (alone.after_calls job calls) more
unfolding answers_alone
answers_both job [] more = refl
answers_both job (call ∷ calls) more = ap (λ (l : List Row). alone.answer_by job call ∷ l) (answers_both (alone.job_by job call) calls more)

-- ---- over the calls
module _ (screen : ℕ) (engine : Engine) (call : Call) (calls : List Call) where
  abbrev After' : Engine
  After' = engine_by engine call

  abbrev Own' : List alone.Call
  Own' = own_by screen engine call

  own_held : holds_job engine.screens screen ≡ true → own_over screen engine (call ∷ calls) ≡ Own' ++ own_over screen After' calls
  unfolding own_over
  own_held h = yes _ _ h

  own_free : holds_job engine.screens screen ≡ false → own_over screen engine (call ∷ calls) ≡ []
  unfolding own_over
  own_free h = no _ _ h

  answers_held : holds_job engine.screens screen ≡ true
      → answers_over screen engine (call ∷ calls) ≡ answers_by screen engine call ++ answers_over screen After' calls
  unfolding answers_over
  answers_held h = yes _ _ h

  answers_free : holds_job engine.screens screen ≡ false → answers_over screen engine (call ∷ calls) ≡ []
  unfolding answers_over
  answers_free h = no _ _ h

  held_first : holds_over screen engine (call ∷ calls) ≡ true
      → (holds_job engine.screens screen ≡ true) × (holds_over screen After' calls ≡ true)
  unfolding holds_over
  held_first h = (and_left (holds_job engine.screens screen) _ h, and_right (holds_job engine.screens screen) _ h)

  step_alone : EightScreens engine → AsAlone screen After' calls → (h : Bool) → holds_job engine.screens screen ≡ h
      → AsAlone screen engine (call ∷ calls)
  unfolding answers_alone
  step_alone w ih true h =
      let own = own_call engine w screen h call in
      record {
        answers =
            answers_held h ∙ ap (λ (l : List Row). l ++ answers_over screen After' calls) own.answers
            ∙ ap (λ (l : List Row). answers_alone (job_of engine screen) Own' ++ l)
            (ih.answers ∙ ap (λ (j : Job). answers_alone j (own_over screen After' calls)) own.job)
            ∙ sym (answers_both (job_of engine screen) Own' (own_over screen After' calls))
            ∙ ap (answers_alone (job_of engine screen)) (sym (own_held h));
        job = λ held.
            ih.job (held_first held).1 ∙ ap (λ (j : Job). alone.after_calls j (own_over screen After' calls)) own.job
            ∙ sym (after_both (job_of engine screen) Own' (own_over screen After' calls))
            ∙ ap (alone.after_calls (job_of engine screen)) (sym (own_held h));
      }
  step_alone w ih false h =
      record {
        answers = answers_free h ∙ ap (answers_alone (job_of engine screen)) (sym (own_free h));
        job = λ held. no_both (held_first held).0 h;
      }
    where
      no_both : {A : Type 0} {b : Bool} → b ≡ true → b ≡ false → A
      no_both p q = absurd (true≢false (sym p ∙ q))

pub as_alone : (calls : List Call) (engine : Engine) → EightScreens engine → (screen : ℕ) → AsAlone screen engine calls
unfolding own_over answers_over answers_alone
as_alone [] engine w screen = record { answers = refl; job = λ held. refl }
as_alone (call ∷ calls) engine w screen =
    step_alone screen engine call calls w (as_alone calls (engine_by engine call) (still_eight engine call w) screen)
    (holds_job engine.screens screen) refl
