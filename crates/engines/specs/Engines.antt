-- Eight screens, one engine (document 02, Paper 10): what a turn, a submission and a change of density answer, in every
-- state of the engine, and what they leave of it and of the scratch.
use Rattle.std.specs.Prelude.{◌≡◌, Bool, true, false, not, cond, ◌&&◌, List, ℕ, zero, suc, ◌+◌, ◌-◌, ◌%◌, leb, ltb, length, set, get_or, Float, Err}
use Rattle.refusals.specs.declared.Refusal.{Refusal}
use Rattle.refusals.specs.declared.Refusal.TheVariants.{Scratch, Density as not_taken, Screen as not_free}
use Rattle.refusals.specs.Given.{IsAnswer}
use Rattle.materials.specs.declared.Density.{Density}
use Rattle.fins.specs.declared.FinSet.{FinSet}
use Rattle.jobs.specs.declared.Job.{Job}
use Rattle.jobs.specs.declared.Progress.TheVariants.{More as more_remain, Ended as has_ended}
use Rattle.jobs.specs.declared.JobProgress.{JobProgress}
use Rattle.jobs.specs.declared.JobReply.{JobReply}
use Rattle.jobs.specs.declared.Row.{Row}
use Rattle.refusals.specs.Calls.{CallOf, leaves_alone}
use Rattle.limits.specs.Limits.{scratch_numbers}
use Rattle.figures.specs.Figures.{bare_figures}
use Rattle.jobs.specs.Jobs.{figures_row, plain_row, step_row, stepped_on, change_of, made_of, progress_of}
use Rattle.engines.specs.declared.Screens.{Screens}
use Rattle.engines.specs.declared.Engine.{Engine}
use Rattle.engines.specs.declared.Turn.{Turn}
use Rattle.engines.specs.declared.Turn.TheVariants.{Short, Idle, More, Ended}
use Rattle.engines.specs.declared.ScreenTurn.{ScreenTurn}
use Rattle.engines.specs.declared.ScreenReply.{ScreenReply}
use Rattle.engines.specs.declared.EngineTurn.{EngineTurn}
use Rattle.engines.specs.declared.EngineReply.{EngineReply}
use Rattle.engines.specs.NoJob.{no_job}

-- ---- the screens

-- "screen .. 1 to 8"
abbrev pub is_screen : ℕ → Bool
is_screen screen = leb 1 screen && leb screen 8

-- the place of a screen among the eight; a number that is no screen's has the first place
unfoldable pub place_of : ℕ → ℕ
place_of screen = cond (is_screen screen) (screen - 1) 0

-- "Each may hold one job."
unfoldable pub holds_job : Screens → ℕ → Bool
holds_job screens screen = is_screen screen && get_or screens.held (place_of screen) false

-- whether a screen can take a job; else it is 23, "screen not 1 to 8 or already holding a job"
unfoldable pub is_free : Screens → ℕ → Bool
is_free screens screen = is_screen screen && not (get_or screens.held (place_of screen) false)

-- the screen that follows a screen, "the one after .., wrapping round"; after 0, which stands for none, it is screen 1
abbrev pub screen_after : ℕ → ℕ
screen_after screen = screen % 8 + 1

-- the first screen that holds a job, of n in a row; 0 where none does
unfoldable pub first_held : Screens → ℕ → ℕ → ℕ
first_held screens screen zero = 0
first_held screens screen (suc n) = cond (holds_job screens screen) screen (first_held screens (screen_after screen) n)

-- "the next screen with a job, in ascending order from the one after the last served, wrapping round; until one is
-- served it looks from screen 1"
unfoldable pub next_screen : Screens → ℕ
next_screen screens = first_held screens (screen_after screens.last) 8

-- the place among the jobs that a turn works at
unfoldable pub pick_of : Screens → ℕ
pick_of screens = place_of (next_screen screens)

-- the screens with this one holding a job or none, and with the screen served last
unfoldable pub with_held : Screens → ℕ → Bool → ℕ → Screens
with_held screens screen holds last = record { held = set screens.held (place_of screen) holds; last = last }

-- ---- a turn, on the screens and the job at the place that it works at

-- "A turn lent under 1,024 numbers answers 2, jobs or none, .. its samples are 0"; "with no jobs a turn does nothing
-- and says so"; "otherwise it answers the screen served and the step's answer"
abbrev pub turn_row : Turn → Job → Row
turn_row Short job = figures_row (bare_figures (Err Scratch) 0)
turn_row Idle job = plain_row 1001
turn_row (More screen) job = step_row more_remain job
turn_row (Ended screen) job = step_row has_ended job

-- the screen that a turn served, 0 for none
abbrev pub served_screen : Turn → ℕ
served_screen Short = 0
served_screen Idle = 0
served_screen (More screen) = screen
served_screen (Ended screen) = screen

-- the answer of a turn that served a screen, by whether the job there has ended
abbrev pub turn_after : ℕ → Bool → Turn
turn_after screen over = cond over (Ended screen) (More screen)

-- "A job that finishes or is refused frees its screen."
abbrev pub stepped : Screens → ℕ → Job → ScreenTurn
stepped screens screen job =
    record {
      screens = with_held screens screen (not job.ended) screen;
      job = job;
      turn = turn_after screen job.ended;
    }

-- "The scratch serves one strip at a time": a turn leaves in it what its step leaves
abbrev pub stepped_at : Screens → ℕ → CallOf Job → CallOf ScreenTurn
stepped_at screens screen call = record { answer = stepped screens screen call.answer; leaves = call.leaves }

-- a turn: a short one "does nothing", and so does an idle one
unfoldable pub served_of : Screens → Job → ℕ → CallOf ScreenTurn
served_of screens job scratch_length =
    cond (ltb scratch_length scratch_numbers)
    (leaves_alone (record { screens = screens; job = job; turn = Short }))
    (cond (ltb 0 (next_screen screens))
    (stepped_at screens (next_screen screens) (stepped_on job))
    (leaves_alone (record { screens = screens; job = job; turn = Idle })))

-- what a turn promises: the definition's answer, with its number and values, and what that leaves in the scratch
pub record ServesTo (screens : Screens) (job : Job) (entry : List Float) (r : ScreenTurn)
    (exit : List Float) : Type 0 where
  pub answered :
      IsAnswer (λ (s : ScreenTurn). (turn_row s.turn s.job).figures.verdict) r
      (served_of screens job (length entry)).answer
  pub scratch : exit ≡ (served_of screens job (length entry)).leaves entry

-- ---- a submission and a change of density, on the screens and the job at the screen's place

-- what a call leaves and answers is the definition's, with the number and values of its verdict
abbrev pub IsAtScreen : ScreenReply → ScreenReply → Type 0
IsAtScreen r definition = IsAnswer (λ (s : ScreenReply). s.reply.verdict) r definition

-- a call that is refused answers a number with 0 samples, and changes nothing
abbrev pub refused : Screens → Job → Refusal → ScreenReply
refused screens job refusal =
    record { screens = screens; job = job; reply = record { verdict = Err refusal; samples = 0 } }

-- "A submission is answered taken, or refused and changes nothing"; 23 "before anything else in that submission". A job
-- that was refused has ended when it is made.
unfoldable pub submitted_of : Screens → Job → ℕ → JobReply → ScreenReply
submitted_of screens job screen made =
    cond (is_free screens screen)
    (cond made.job.ended
    (record { screens = screens; job = job; reply = made.reply })
    (record { screens = with_held screens screen true screens.last; job = made.job; reply = made.reply }))
    (refused screens job not_free)

-- "A screen's density changes as in Paper 9; with no job there, or no such screen, 12 with 0 samples."
unfoldable pub changed_of : Screens → Job → ℕ → Density → ScreenReply
changed_of screens job screen density =
    cond (holds_job screens screen)
    (record { screens = screens; job = (change_of job density).job; reply = (change_of job density).reply })
    (refused screens job not_taken)

-- ---- how far a screen's job is, on the screens and the job at the screen's place

-- what is told with no job at the screen, or no such screen
abbrev pub no_progress : JobProgress
no_progress = record { worked = 0; strips = 0; intervals = 0; samples = 0 }

unfoldable pub told_of : Screens → Job → ℕ → JobProgress
told_of screens job screen = cond (holds_job screens screen) (progress_of job) no_progress

-- ---- the engine

-- the job at a place
abbrev pub job_at : Engine → ℕ → Job
job_at engine place = get_or engine.jobs place no_job

-- the engine with the screens and the job at a place as a call left them
abbrev pub with_job : Engine → ℕ → Screens → Job → Engine
with_job engine place screens job = record { screens = screens; jobs = set engine.jobs place job }

-- a turn on the engine, from what it does on the screens and the job at its place
abbrev pub turned_at : Engine → ℕ → CallOf ScreenTurn → CallOf EngineTurn
turned_at engine place call =
    record {
      answer =
          record {
            engine = with_job engine place call.answer.screens call.answer.job;
            turn = call.answer.turn;
          };
      leaves = call.leaves;
    }

-- a submission or a change on the engine, from what it does on the screens and the job at its place
abbrev pub called_at : Engine → ℕ → ScreenReply → EngineReply
called_at engine place s = record { engine = with_job engine place s.screens s.job; reply = s.reply }

-- "A turn works one strip for the next screen with a job"
unfoldable pub turn_of : Engine → ℕ → CallOf EngineTurn
turn_of engine scratch_length =
    turned_at engine (pick_of engine.screens)
    (served_of engine.screens (job_at engine (pick_of engine.screens)) scratch_length)

-- what a turn answers, with the outcome of the job served where that has ended
abbrev pub turned_row : EngineTurn → Row
turned_row t = turn_row t.turn (job_at t.engine (place_of (served_screen t.turn)))

-- a submission of a set with its points and L to a screen
unfoldable pub submit_of : Engine → ℕ → FinSet → List Float → ℕ → EngineReply
submit_of engine screen set points L =
    called_at engine (place_of screen)
    (submitted_of engine.screens (job_at engine (place_of screen)) screen (made_of set points L))

-- a change of the density of a screen's job
unfoldable pub change_at : Engine → ℕ → Density → EngineReply
change_at engine screen density =
    called_at engine (place_of screen) (changed_of engine.screens (job_at engine (place_of screen)) screen density)

-- how far the job of a screen is: a question, which leaves the engine as it is
unfoldable pub progress_at : Engine → ℕ → JobProgress
progress_at engine screen = told_of engine.screens (job_at engine (place_of screen)) screen
