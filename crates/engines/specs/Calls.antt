-- Calls on one engine in a row, "each call gets the record, in Paper 10 the engine's, as the one before left it"
-- (document 02, Paper 9), and what holds over them together (Paper 10).
use Rattle.std.specs.Prelude.{◌≡◌, Bool, true, false, cond, ◌&&◌, List, [], ◌∷◌, ◌++◌, ℕ, ◌≤◌, ◌<◌, ltb, eqb, length, get_or, Float, Ok}
use Rattle.limits.specs.Limits.{scratch_numbers, most_samples, scratch_check}
use Rattle.materials.specs.declared.Density.{Density}
use Rattle.fins.specs.declared.FinSet.{FinSet}
use Rattle.strips.specs.Strips.{scratch_after}
use Rattle.figures.specs.Figures.{set_run, set_figures}
use Rattle.jobs.specs.declared.Job.{Job}
use Rattle.jobs.specs.declared.Row.{Row}
use Rattle.jobs.specs.Jobs.{reply_row, making_check}
use Rattle.jobs.specs.Calls.{is_taken, job_after, set_after, strips_after, progress_over, Drawable}
use Rattle.jobs.specs.Calls as alone
use Rattle.engines.specs.declared.Engine.{Engine}
use Rattle.engines.specs.declared.Turn.TheVariants.{More, Ended}
use Rattle.engines.specs.declared.EngineTurn.{EngineTurn}
use Rattle.engines.specs.Engines.{is_screen, place_of, holds_job, next_screen}
use Rattle.engines.specs.Engines.{job_at, served_screen, turn_of, turned_row, submit_of, change_at, progress_at}

-- a turn over the scratch lent to it, a submission to a screen, or a change of a screen's density
pub data Call : Type 0 where
  turn : List Float → Call
  submit : ℕ → FinSet → List Float → ℕ → Call
  change : ℕ → Density → Call

-- the engine as a call leaves it
abbrev pub engine_by : Engine → Call → Engine
engine_by engine (turn scratch) = (turn_of engine (length scratch)).answer.engine
engine_by engine (submit screen set points L) = (submit_of engine screen set points L).engine
engine_by engine (change screen density) = (change_at engine screen density).engine

-- the engine as calls in a row leave it
abbrev pub after_calls : Engine → List Call → Engine
after_calls engine [] = engine
after_calls engine (call ∷ calls) = after_calls (engine_by engine call) calls

-- an engine of eight screens, as every record of the type is
pub record EightScreens (engine : Engine) : Type 0 where
  pub screens : length engine.screens.held ≡ 8
  pub jobs : length engine.jobs ≡ 8

-- an engine to begin with: none of its screens holds a job
pub record Begins (engine : Engine) : Type 0 where
  pub eight : EightScreens engine
  pub no_job_lem : (screen : ℕ) → holds_job engine.screens screen ≡ false

-- the job of a screen
abbrev pub job_of : Engine → ℕ → Job
job_of engine screen = job_at engine (place_of screen)

-- ---- the turns that count

-- "A turn lent under 1,024 numbers .. does not count": the screen that a call serves, where it is a turn that counts; 0
-- where that was idle
abbrev pub served_by : Engine → Call → List ℕ
served_by engine (turn scratch) = cond (ltb (length scratch) scratch_numbers) [] (next_screen engine.screens ∷ [])
served_by engine (submit screen set points L) = []
served_by engine (change screen density) = []

-- the screens that calls in a row serve, in order
unfoldable pub served_over : Engine → List Call → List ℕ
served_over engine [] = []
served_over engine (call ∷ calls) = served_by engine call ++ served_over (engine_by engine call) calls

-- a waiting screen is served "within eight turns, whatever the others submit"; `StripWithinEight` says that it gets its
-- strip then
abbrev pub WithinEight : Type 0
WithinEight =
    (engine : Engine) (screen : ℕ) (calls : List Call) → holds_job engine.screens screen ≡ true
    → 8 ≤ length (served_over engine calls)
    → (i : ℕ) × ((i < 8) × (get_or (served_over engine calls) i 0 ≡ screen))

-- ---- each call's own screen

-- the screen that a call is about: the one that a turn serves, or the one named; 0 is none
abbrev pub screen_of : Engine → Call → ℕ
screen_of engine (turn scratch) = cond (ltb (length scratch) scratch_numbers) 0 (next_screen engine.screens)
screen_of engine (submit screen set points L) = screen
screen_of engine (change screen density) = screen

-- a call leaves every other screen's job as it is
abbrev pub OthersStay : Type 0
OthersStay =
    (engine : Engine) (call : Call) (screen : ℕ) → is_screen screen ≡ true → (screen ≡ screen_of engine call → ⊥)
    → (holds_job (engine_by engine call).screens screen ≡ holds_job engine.screens screen)
    × (job_of (engine_by engine call) screen ≡ job_of engine screen)

-- "does nothing and does not count"; "with no jobs a turn does nothing"; "refused and changes nothing"; 12 "leaves the
-- old one": not even the order of service changes
pub record ChangesNothing : Type 0 where
  pub short_turn : (engine : Engine) (n : ℕ) → n < scratch_numbers → (turn_of engine n).answer.engine ≡ engine
  pub idle_turn :
      (engine : Engine) (n : ℕ) → next_screen engine.screens ≡ 0 → (turn_of engine n).answer.engine ≡ engine
  pub refused : (engine : Engine) (screen : ℕ) (set : FinSet) (points : List Float) (L : ℕ)
      → is_taken (submit_of engine screen set points L).reply ≡ false
      → (submit_of engine screen set points L).engine ≡ engine
  pub density_kept : (engine : Engine) (screen : ℕ) (density : Density)
      → is_taken (change_at engine screen density).reply ≡ false → (change_at engine screen density).engine ≡ engine

-- ---- a job on its screen

-- what a call on the engine is to the job of one screen: the turn that serves the screen is a step, a change of its
-- density is a change, and any other call is nothing
abbrev pub own_by : ℕ → Engine → Call → List alone.Call
own_by screen engine (turn scratch) = cond (eqb screen (screen_of engine (turn scratch))) (alone.step scratch ∷ []) []
own_by screen engine (submit other set points L) = []
own_by screen engine (change other density) = cond (eqb screen other) (alone.change density ∷ []) []

-- what is answered to the calls that are a step or a change to the job of one screen
abbrev pub answers_by : ℕ → Engine → Call → List Row
answers_by screen engine (turn scratch) =
    cond (eqb screen (screen_of engine (turn scratch))) (turned_row (turn_of engine (length scratch)).answer ∷ []) []
answers_by screen engine (submit other set points L) = []
answers_by screen engine (change other density) =
    cond (eqb screen other) (reply_row (change_at engine other density).reply ∷ []) []

-- the steps and changes of one screen's job in calls in a row, until the screen is free
unfoldable pub own_over : ℕ → Engine → List Call → List alone.Call
own_over screen engine [] = []
own_over screen engine (call ∷ calls) =
    cond (holds_job engine.screens screen)
    (own_by screen engine call ++ own_over screen (engine_by engine call) calls) []

-- what is answered to them, until the screen is free
unfoldable pub answers_over : ℕ → Engine → List Call → List Row
answers_over screen engine [] = []
answers_over screen engine (call ∷ calls) =
    cond (holds_job engine.screens screen)
    (answers_by screen engine call ++ answers_over screen (engine_by engine call) calls) []

-- the screen holds a job before each of the calls; the last of them may end it
unfoldable pub holds_over : ℕ → Engine → List Call → Bool
holds_over screen engine [] = true
holds_over screen engine (call ∷ calls) =
    holds_job engine.screens screen && holds_over screen (engine_by engine call) calls

-- "A waiting screen gets its strip": one of the calls is a turn that works a strip of the job that the screen held
-- before them
pub record GetsStrip (engine : Engine) (screen : ℕ) (calls : List Call) : Type 0 where
  pub before : List Call
  pub scratch : List Float
  pub after : List Call
  pub calls_are : calls ≡ before ++ turn scratch ∷ after
  -- "within eight turns": fewer than eight turns count before it
  pub within_eight : length (served_over engine before) < 8
  -- the turn serves the screen, which held the job till then, and the step counts
  pub waits : holds_over screen engine (before ++ turn scratch ∷ []) ≡ true
  pub serves : screen ≡ screen_of (after_calls engine before) (turn scratch)
  pub works_strip : alone.counts (job_of (after_calls engine before) screen) (length scratch) ≡ true

-- "A waiting screen gets its strip within eight turns, whatever the others submit": a screen that holds a job, after
-- any calls on an engine that began with none, gets its strip in any further calls of which eight are turns that count
abbrev pub StripWithinEight : Type 0
StripWithinEight = (begun : Engine) → Begins begun → (earlier : List Call) (screen : ℕ)
    → holds_job (after_calls begun earlier).screens screen ≡ true
    → (calls : List Call) → 8 ≤ length (served_over (after_calls begun earlier) calls)
    → GetsStrip (after_calls begun earlier) screen calls

-- what a job answers to calls of its own, without an engine
unfoldable pub answers_alone : Job → List alone.Call → List Row
answers_alone job [] = []
answers_alone job (call ∷ calls) = alone.answer_by job call ∷ answers_alone (alone.job_by job call) calls

-- "a job's answers on its screen equal those it gives stepped alone with the same density changes before each strip";
-- the job itself is equal too
pub record AsAlone (screen : ℕ) (engine : Engine) (calls : List Call) : Type 0 where
  pub answers : answers_over screen engine calls ≡ answers_alone (job_of engine screen) (own_over screen engine calls)
  pub job : holds_over screen engine calls ≡ true
      → job_of (after_calls engine calls) screen
      ≡ alone.after_calls (job_of engine screen) (own_over screen engine calls)

-- ---- samples

-- what a call on the engine answers
abbrev pub answer_by : Engine → Call → Row
answer_by engine (turn scratch) = turned_row (turn_of engine (length scratch)).answer
answer_by engine (submit screen set points L) = reply_row (submit_of engine screen set points L).reply
answer_by engine (change screen density) = reply_row (change_at engine screen density).reply

-- "no more than .. 118,110 samples, and the screen scales its bar by that" (Paper 8): what any call answers, after any
-- calls on an engine that began with no job
abbrev pub SamplesAtMost : Type 0
SamplesAtMost = (begun : Engine) → Begins begun → (calls : List Call) (call : Call)
    → (answer_by (after_calls begun calls) call).figures.samples ≤ most_samples

-- ---- a job that was submitted

-- a job made of a set that was accepted, as these calls left it, and not at its end
pub record RunsBy (set : FinSet) (points : List Float) (L : ℕ) (calls : List alone.Call) (job : Job) : Type 0 where
  pub accepted : making_check set points L ≡ Ok tt
  pub is : job ≡ job_after set points L calls
  pub runs : job.ended ≡ false

-- a screen's job was submitted: it is made of an accepted set, and has not ended
pub record Submitted (screen : ℕ) (engine : Engine) : Type 0 where
  pub set : FinSet
  pub points : List Float
  pub limit : ℕ
  pub calls : List alone.Call
  pub runs : RunsBy set points limit calls (job_of engine screen)

-- every job that the engine holds was submitted: this holds of an engine with no job, and after any calls on it
abbrev pub AllSubmitted : Engine → Type 0
AllSubmitted engine = (screen : ℕ) → holds_job engine.screens screen ≡ true → Submitted screen engine

-- the turn that serves the screen of a submitted job answers that more strips remain, or the job's end, which frees the
-- screen
pub record Serves (screen : ℕ) (set : FinSet) (points : List Float) (L : ℕ) (calls : List alone.Call)
    (turned : EngineTurn) : Type 0 where
  -- "it answers the screen served and the step's answer"
  pub served : served_screen turned.turn ≡ screen
  pub goes_on : holds_job turned.engine.screens screen ≡ true → turned.turn ≡ More screen
  -- "The answer ending the job equals a fresh run's with the last density accepted" (Paper 9), over any scratch that is
  -- long enough
  pub ends_as_fresh : holds_job turned.engine.screens screen ≡ false → (n : ℕ) → scratch_check L n ≡ Ok tt
      → (turned.turn ≡ Ended screen)
      × ((job_of turned.engine screen).outcome ≡ set_figures (set_after set points L calls) points L n)

-- a submission that is taken, and any calls after it; the screen holds its job before each of them, and at their end
module _ (engine : Engine) (screen : ℕ) (set : FinSet) (points : List Float) (L : ℕ) (calls : List Call) where
  -- the steps and changes of the job since the submission
  abbrev pub since_then : List alone.Call
  since_then = own_over screen (engine_by engine (submit screen set points L)) calls

  -- the engine after all these calls
  abbrev pub engine_now : Engine
  engine_now = after_calls engine (submit screen set points L ∷ calls)

  pub record OnScreen : Type 0 where
    -- the job is that of the set submitted, with the calls since: what holds of it alone is `jobs/Calls: OverCalls`
    pub job : RunsBy set points L since_then (job_of engine_now screen)
    -- how far the screen is told that its job is: the strips that its turns worked, of all of its run
    pub progress : progress_at engine_now screen
        ≡ progress_over (set_run set points L) (strips_after set points L since_then)
    -- "gets its strip": the turn that serves the screen works one
    pub gets_strip :
        (scratch : List Float) → screen ≡ screen_of engine_now (turn scratch)
        → alone.counts (job_of engine_now screen) (length scratch) ≡ true
    pub next_turn : (scratch : List Float) → screen ≡ screen_of engine_now (turn scratch)
        → Serves screen set points L since_then (turn_of engine_now (length scratch)).answer

  -- Paper 14 on the screen, which draws the pieces: it holds of the strips that the screen's turns worked so far, and
  -- with them of the strip that its next turn works, whose pieces that turn leaves in the scratch
  pub record DrawnOnScreen : Type 0 where
    pub so_far : Drawable set points L since_then
    pub next_turn : (scratch : List Float) → screen ≡ screen_of engine_now (turn scratch)
        → Drawable set points L (since_then ++ alone.step scratch ∷ [])
    pub written : (scratch : List Float) → screen ≡ screen_of engine_now (turn scratch)
        → (turn_of engine_now (length scratch)).leaves scratch
        ≡ scratch_after (alone.strips_by (job_of engine_now screen) (alone.step scratch)) scratch
