-- The calls on a job in lent memory (include/delvouzh.h; document 02, Paper 9): the reply or the answer of each, and
-- what it changes. specs/Calls says what it then returns and leaves in the lent lists.
use Rattle.std.specs.Prelude.{Bool, true, false, List, ℕ, length, Float, Option}
use Rattle.refusals.specs.Calls.{CallOf}
use Rattle.materials.specs.declared.Density.{Density}
use Rattle.fins.specs.declared.FinSet.{FinSet}
use Rattle.jobs.specs.declared.Job.{Job}
use Rattle.jobs.specs.declared.Row.{Row}
use Rattle.jobs.specs.Jobs.{step_of, change_of, made_of, progress_of}
use Rattle.jobs.specs.Calls.{step, answer_by, is_taken}
use Rattle.lent_jobs.specs.Memory.{job_numbers_length, job_counts_length, job_in}
use Rattle.lent_jobs.specs.Lent.{step_writes, Leaves}
use Rattle.lent_engines.specs.Lent.{Lists}
use Rattle.screen_exports.specs.Calls.{MemoryKind, Effect, asked_of_set, asked_of_density, reply_values, reply_counts}
use Rattle.screen_exports.specs.Calls.{ReplyCall, RowCall, ProgressCall}

abbrev pub job_of : Lists → Job
job_of l = job_in l.numbers l.counts

-- whether a call writes the job over the start of the lists, and the job that they then hold
pub record JobChange : Type 0 where
  pub written : Bool
  pub job : Job

abbrev pub job_leaves : JobChange → Lists → Lists → Type 0
job_leaves change before after =
    Leaves change.written change.job before.numbers before.counts after.numbers after.counts

abbrev pub job_memory : MemoryKind JobChange
job_memory =
    record {
      numbers = job_numbers_length;
      counts = job_counts_length;
      unchanged = λ l. record { written = false; job = job_of l };
      Leaves = job_leaves;
    }

-- the effect of making a job: one that is refused is written too, and has ended with its refusal
abbrev pub making : List Float → ℕ → FinSet → Effect JobChange
making points L set =
    record {
      reply = (made_of set points L).reply;
      change = record { written = true; job = (made_of set points L).job };
    }

-- the effect of a change of density: where it is refused, nothing is written
abbrev pub changing : Job → Density → Effect JobChange
changing job density =
    record {
      reply = (change_of job density).reply;
      change = record { written = is_taken (change_of job density).reply; job = (change_of job density).job };
    }

module _ (before : Lists) where
  abbrev pub MakeCall : Option FinSet → List Float → ℕ → List ℕ → ℕ → Lists → List ℕ → Type 0
  MakeCall set points L values =
      ReplyCall job_memory before (asked_of_set job_memory before set (making points L)) 2 reply_values values

  abbrev pub ChangeCall : Option Density → List ℕ → ℕ → Lists → List ℕ → Type 0
  ChangeCall density told =
      ReplyCall job_memory before (asked_of_density job_memory before density (changing (job_of before))) 4 reply_counts
      told

  -- what a step changes, and the figures and counts of its answer, zeros where it has none
  abbrev pub step_change : List Float → JobChange
  step_change scratch =
      record {
        written = step_writes (job_of before) (length scratch);
        job = (step_of (job_of before) (length scratch)).answer.job;
      }

  abbrev pub step_told : List Float → CallOf Row
  step_told scratch =
      record {
        answer = answer_by (job_of before) (step scratch);
        leaves = (step_of (job_of before) (length scratch)).leaves;
      }

  abbrev pub StepCall : List Float → List Float → List ℕ → ℕ → Lists → List Float → List Float → List ℕ → Type 0
  StepCall scratch body told =
      RowCall job_memory before (step_change scratch) (step_told scratch) 4 (λ counts. counts) scratch body told

  abbrev pub JobProgressCall : List ℕ → ℕ → List ℕ → Type 0
  JobProgressCall told = ProgressCall job_memory before (progress_of (job_of before)) told
