-- What the calls on a job in lent memory promise: the answer, the job at exit and what the lists hold, and the scratch
-- at exit.
use Rattle.std.specs.Prelude.{◌≡◌, Bool, true, cond, not, ◌&&◌, List, ◌++◌, ℕ, ◌≤◌, length, drop, Float}
use Rattle.refusals.specs.Order.{is_refused}
use Rattle.materials.specs.declared.Density.{Density}
use Rattle.materials.specs.Materials.{density_check}
use Rattle.fins.specs.declared.FinSet.{FinSet}
use Rattle.jobs.specs.declared.Job.{Job}
use Rattle.jobs.specs.declared.Progress.{Progress}
use Rattle.jobs.specs.declared.Reply.{Reply}
use Rattle.jobs.specs.Jobs.{is_short, step_of, change_of, made_of}
use Rattle.jobs.specs.Calls.{is_taken}
use Rattle.lent_jobs.specs.Memory.{job_numbers_length, job_counts_length, numbers_of, counts_of, job_in}

-- the two lists have room for a job
abbrev pub Room : List Float → List ℕ → Type 0
Room numbers counts = (job_numbers_length ≤ length numbers) × (job_counts_length ≤ length counts)

-- what a call leaves: the lists, with the job over their start where it is written, else as they were; and the job that
-- they then hold
pub record Leaves (written : Bool) (job : Job) (numbers : List Float) (counts : List ℕ) (numbers' : List Float)
    (counts' : List ℕ) : Type 0 where
  pub numbers_are : numbers' ≡ cond written (numbers_of job ++ drop job_numbers_length numbers) numbers
  pub counts_are : counts' ≡ cond written (counts_of job ++ drop job_counts_length counts) counts
  pub held : job_in numbers' counts' ≡ job

-- what a call leaves that writes the job
abbrev pub Holds : Job → List Float → List ℕ → List Float → List ℕ → Type 0
Holds job = Leaves true job

pub record Makes (set : FinSet) (points : List Float) (L : ℕ) (numbers : List Float) (counts : List ℕ) (r : Reply)
    (numbers' : List Float) (counts' : List ℕ) : Type 0 where
  pub answered : r ≡ (made_of set points L).reply
  pub holds : Holds (made_of set points L).job numbers counts numbers' counts'

-- ---- a step and a change of density: the job is written where they change it; any other call "changes nothing", not
-- even in the lists

-- whether a step changes the job: not where it finds the job ended, or is lent too short a scratch
abbrev pub step_writes : Job → ℕ → Bool
step_writes job scratch_length = not job.ended && not (is_short job.ended job.limit scratch_length)

-- whether a density is taken: where the job has not ended and the density passes its check
abbrev pub density_taken : Bool → Density → Bool
density_taken ended density = not ended && not (is_refused (density_check density))

pub record Steps (numbers : List Float) (counts : List ℕ) (scratch : List Float) (r : Progress) (numbers' : List Float)
    (counts' : List ℕ) (scratch' : List Float) : Type 0 where
  pub answered : r ≡ (step_of (job_in numbers counts) (length scratch)).answer.progress
  pub leaves :
      Leaves (step_writes (job_in numbers counts) (length scratch))
      (step_of (job_in numbers counts) (length scratch)).answer.job numbers counts numbers' counts'
  pub lent : scratch' ≡ (step_of (job_in numbers counts) (length scratch)).leaves scratch

pub record Changes (numbers : List Float) (counts : List ℕ) (density : Density) (r : Reply) (numbers' : List Float)
    (counts' : List ℕ) : Type 0 where
  pub answered : r ≡ (change_of (job_in numbers counts) density).reply
  pub leaves :
      Leaves (is_taken (change_of (job_in numbers counts) density).reply)
      (change_of (job_in numbers counts) density).job numbers counts numbers' counts'

-- ---- what private functions do: the job is written, whatever the call did

pub record StepsThere (numbers : List Float) (counts : List ℕ) (scratch : List Float) (r : Progress)
    (numbers' : List Float) (counts' : List ℕ) (scratch' : List Float) : Type 0 where
  pub answered : r ≡ (step_of (job_in numbers counts) (length scratch)).answer.progress
  pub holds : Holds (step_of (job_in numbers counts) (length scratch)).answer.job numbers counts numbers' counts'
  pub lent : scratch' ≡ (step_of (job_in numbers counts) (length scratch)).leaves scratch

pub record ChangesThere (numbers : List Float) (counts : List ℕ) (density : Density) (r : Reply) (numbers' : List Float)
    (counts' : List ℕ) : Type 0 where
  pub answered : r ≡ (change_of (job_in numbers counts) density).reply
  pub holds : Holds (change_of (job_in numbers counts) density).job numbers counts numbers' counts'
