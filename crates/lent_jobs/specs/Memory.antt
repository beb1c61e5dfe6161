-- A job in lent memory, "one record, lent to each step and updated there" (document 02, Paper 9), as C and Rust lend
-- it: a list of numbers and a list of counts. `job_back` (proofs/Laws) says that the job which is written is the job
-- that is read.
use Rattle.std.specs.Prelude.{Bool, cond, not, List, [], ◌∷◌, ◌++◌, ℕ, ◌+◌, eqb, take, drop, get_or, Float}
use Rattle.floats.specs.Operations.{at, tabulate}
use Rattle.refusals.specs.Numbered.{number_in, first_in, second_in, verdict_from}
use Rattle.limits.specs.Limits.{outline_numbers}
use Rattle.fins.specs.declared.FinSet.{FinSet}
use Rattle.fins.specs.Numbered.{set_numbers, set_counts, numbers_of as set_numbers_of, counts_of as set_counts_of}
use Rattle.fins.specs.Numbered.{set_in as numbered_set_in, known_set}
use Rattle.bodies.specs.Layout.{body_numbers, body_of, numbers_of as body_numbers_of}
use Rattle.figures.specs.declared.Figures.{Figures}
use Rattle.jobs.specs.declared.Job.{Job}

-- where the body of the answer and the outline's copy stand after the set's numbers and the seven sums, and how many
-- numbers and counts a job has
abbrev pub body_place : ℕ
body_place = set_numbers + 7

abbrev pub outline_place : ℕ
outline_place = body_place + body_numbers

abbrev pub job_numbers_length : ℕ
job_numbers_length = outline_place + outline_numbers

abbrev pub job_counts_length : ℕ
job_counts_length = set_counts + 11

abbrev pub count_at : List ℕ → ℕ → ℕ
count_at counts i = get_or counts i 0

-- ---- what is written

abbrev pub flag : Bool → ℕ
flag b = cond b 1 0

-- as numbers, the seven sums over the strips worked, then the body of the answer
abbrev pub worked_numbers : Job → List Float
worked_numbers job = tabulate 7 (at job.totals.value) ++ body_numbers_of job.outcome.body

-- a job's numbers: the set's (fins/specs/Numbered), `worked_numbers`, then the copy of the outline
abbrev pub numbers_of : Job → List Float
numbers_of job = set_numbers_of job.set ++ worked_numbers job ++ job.points.numbers

-- as counts, L, the next strip, the totals, 1 where the job has ended; the verdict and the counts of its answer; how
-- many numbers of the copy are the outline's
abbrev pub worked_counts : Job → List ℕ
worked_counts job =
    job.limit ∷ job.next ∷ job.totals.intervals ∷ job.totals.samples ∷ flag job.ended
    ∷ number_in job.outcome.verdict ∷ first_in job.outcome.verdict ∷ second_in job.outcome.verdict
    ∷ job.outcome.intervals ∷ job.outcome.samples ∷ job.points.count ∷ []

-- a job's counts: the set's, then `worked_counts`
abbrev pub counts_of : Job → List ℕ
counts_of job = set_counts_of job.set ++ worked_counts job

-- ---- what is read, whatever the lists hold

-- the set in the lists; a set of no fins where the number of a part is unknown
unfoldable pub set_in : List Float → List ℕ → FinSet
set_in numbers counts = known_set (numbered_set_in numbers counts)

unfoldable pub outcome_in : List Float → List ℕ → Figures
outcome_in numbers counts =
    record {
      verdict =
          verdict_from (count_at counts (set_counts + 5)) (count_at counts (set_counts + 6))
          (count_at counts (set_counts + 7));
      body = body_of (at (take body_numbers (drop body_place numbers)));
      intervals = count_at counts (set_counts + 8);
      samples = count_at counts (set_counts + 9);
    }

unfoldable pub job_in : List Float → List ℕ → Job
job_in numbers counts =
    record {
      set = set_in numbers counts;
      points =
          record {
            numbers = take outline_numbers (drop outline_place numbers);
            count = count_at counts (set_counts + 10);
          };
      limit = count_at counts set_counts;
      next = count_at counts (set_counts + 1);
      totals =
          record {
            value = tabulate 7 (at (take 7 (drop set_numbers numbers)));
            intervals = count_at counts (set_counts + 2);
            samples = count_at counts (set_counts + 3);
          };
      ended = not (eqb (count_at counts (set_counts + 4)) 0);
      outcome = outcome_in numbers counts;
    }
