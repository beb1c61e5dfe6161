-- A set worked one strip a step, its density changed while it works (document 02, Paper 9): what each call answers, in
-- every state of the record, and what it leaves of record and scratch.
use Rattle.std.specs.Prelude.{◌≡◌, Bool, true, false, not, cond, ◌&&◌, List, [], ◌∷◌, ℕ, suc, ◌-◌, leb, length, take, replicate, Float, Ok, Err}
use Rattle.std.specs.Float.Ieee.{lt}
use Rattle.floats.specs.Operations.{bits, at}
use Rattle.sorting.specs.Sorted.{over}
use Rattle.refusals.specs.declared.Refusal.{Refusal}
use Rattle.refusals.specs.declared.Refusal.TheVariants.{Scratch, Density as not_taken}
use Rattle.refusals.specs.Verdict.{Verdict}
use Rattle.refusals.specs.Order.{is_refused, first_refusal}
use Rattle.refusals.specs.Refusals.{number_of}
use Rattle.refusals.specs.Given.{IsAnswer}
use Rattle.refusals.specs.Calls.{CallOf, leaves_alone, by_verdict}
use Rattle.limits.specs.Limits.{outline_numbers, limit_check, scratch_check, count_check}
use Rattle.materials.specs.declared.Density.{Density}
use Rattle.materials.specs.Materials.{density_check}
use Rattle.planforms.specs.declared.Planform.{Planform}
use Rattle.breaks.specs.Breaks.{all_heights, break_heights}
use Rattle.integrands.specs.Integrands.{scale_of}
use Rattle.quadrature.specs.Rule.{zeros}
use Rattle.fins.specs.declared.FinSet.{FinSet}
use Rattle.fins.specs.Fins.{own_check}
use Rattle.halving.specs.declared.Totals.{Totals}
use Rattle.halving.specs.declared.Integral.{Integral}
use Rattle.strips.specs.declared.Advance.{Advance}
use Rattle.strips.specs.Strips.{Run, is_accepted, onward_of}
use Rattle.figures.specs.declared.Figures.{Figures}
use Rattle.figures.specs.Figures.{set_integrand, bare_figures, refused_figures, concluded_at}
use Rattle.jobs.specs.declared.Points.{Points}
use Rattle.jobs.specs.declared.Job.{Job}
use Rattle.jobs.specs.declared.Progress.{Progress}
use Rattle.jobs.specs.declared.Progress.TheVariants.{Short, More, Ended}
use Rattle.jobs.specs.declared.JobProgress.{JobProgress}
use Rattle.jobs.specs.declared.Reply.{Reply}
use Rattle.jobs.specs.declared.Row.{Row}
use Rattle.jobs.specs.declared.JobStep.{JobStep}
use Rattle.jobs.specs.declared.JobReply.{JobReply}

-- the run of a set whose strips are worked one a step: over all heights, not sorted
abbrev pub step_run : FinSet → List Float → ℕ → Run
step_run set points L =
    record {
      width = 7;
      integrand = set_integrand set points;
      limit = L;
      scale = scale_of set.planform points;
      heights = all_heights set.planform points;
    }

-- ---- the record

-- how many numbers of an outline are kept: no more than an outline may have
abbrev pub held_of : ℕ → ℕ
held_of count = cond (leb count outline_numbers) count outline_numbers

-- "It keeps its own copy of the outline", with zeros after it
abbrev pub points_of : List Float → Points
points_of points =
    record {
      numbers = over (take outline_numbers points) (replicate outline_numbers (bits 0));
      count = length (take outline_numbers points);
    }

-- the outline that a job keeps
abbrev pub outline_of : Job → List Float
outline_of job = take (held_of job.points.count) job.points.numbers

-- the run that a job's strips are worked from: its copy of the outline, with all heights as they come, not sorted;
-- `next` is the place of one of them
abbrev pub run_of_job : Job → Run
run_of_job job = step_run job.set (outline_of job) job.limit

-- ---- what is answered

-- figures, or a refusal with the number and values that document 01's table has for it
abbrev pub figures_row : Figures → Row
figures_row figures = record { number = by_verdict figures.verdict 0 number_of; figures = figures }

-- "the plain answers that a paper names": a number above all of the table's, and no figures
abbrev pub plain_row : ℕ → Row
plain_row number = record { number = number; figures = bare_figures (Ok tt) 0 }

-- "A step lent under 16·L numbers answers 2", with "the job's samples so far"; "a step with strips still to come
-- answers only that more remain"; the answer of a job that has ended is its outcome
abbrev pub step_row : Progress → Job → Row
step_row Short job = figures_row (bare_figures (Err Scratch) job.totals.samples)
step_row More job = plain_row 1000
step_row Ended job = figures_row job.outcome

-- what a making, a submission or a change of density answers: taken, or a number with the samples
abbrev pub reply_row : Reply → Row
reply_row reply = figures_row (bare_figures reply.verdict reply.samples)

-- ---- a step

-- the answer of a set whose strips add up to these totals: figures or 8, or what refused the last strip; 3 and 12 are
-- checked again, and no job that was made is given them
unfoldable pub outcome_of : FinSet → List Float → Integral → Figures
outcome_of set points total =
    by_verdict (first_refusal (count_check set.count) (density_check set.density))
    (concluded_at set points total) (λ refusal. refused_figures refusal total.totals.samples)

-- the job with more strips to come, the next at this place
abbrev pub more : Job → Totals → ℕ → Job
more job totals next =
    record {
      set = job.set;
      points = job.points;
      limit = job.limit;
      next = next;
      totals = totals;
      ended = false;
      outcome = job.outcome;
    }

-- the job ended with these figures; no strip begins at this place
abbrev pub ended : Job → Totals → ℕ → Figures → Job
ended job totals next outcome =
    record {
      set = job.set;
      points = job.points;
      limit = job.limit;
      next = next;
      totals = totals;
      ended = true;
      outcome = outcome;
    }

-- "Until the job ends, with its last strip or one refused": the job once its next strip is worked
unfoldable pub after_strip : Job → Advance → Job
after_strip job onward =
    cond (is_accepted onward.total.ending && onward.more)
    (more job onward.total.totals onward.next)
    (ended job onward.total.totals onward.next (outcome_of job.set (outline_of job) onward.total))

-- "A step writes its own strip's pieces from the start of the scratch lent to it and leaves the rest"
abbrev pub next_strip : Job → CallOf Advance
next_strip job = onward_of (run_of_job job) job.next job.totals

-- the job once its next strip is worked, and what that leaves in the scratch
abbrev pub worked_strip : Job → CallOf Job
worked_strip job = record { answer = after_strip job (next_strip job).answer; leaves = (next_strip job).leaves }

-- the job ended by a refusal, with the samples so far: by 1, which no job that was made is given
abbrev pub ended_by : Job → Refusal → Job
ended_by job refusal = ended job job.totals job.next (bare_figures (Err refusal) job.totals.samples)

-- a step that is lent enough scratch: "one that repeats an answer writes nothing"
unfoldable pub stepped_on : Job → CallOf Job
stepped_on job =
    cond job.ended (leaves_alone job)
    (by_verdict (limit_check job.limit) (worked_strip job) (λ refusal. leaves_alone (ended_by job refusal)))

abbrev pub step_after : Bool → Progress
step_after over = cond over Ended More

-- a step by the job that it leaves: its answer is that more strips remain or that the job has ended
abbrev pub stepped_by : CallOf Job → CallOf JobStep
stepped_by call =
    record { answer = record { job = call.answer; progress = step_after call.answer.ended }; leaves = call.leaves }

-- "number 2 at each step", where the job has not ended
abbrev pub is_short : Bool → ℕ → ℕ → Bool
is_short over L scratch_length =
    not over && (not (is_refused (limit_check L)) && is_refused (scratch_check L scratch_length))

-- a step that is short "changes nothing"; a step on an ended job "repeats its answer, with any scratch"
unfoldable pub step_of : Job → ℕ → CallOf JobStep
step_of job scratch_length =
    cond (is_short job.ended job.limit scratch_length)
    (leaves_alone (record { job = job; progress = Short }))
    (stepped_by (stepped_on job))

-- the verdict of what a step answers
abbrev pub verdict_of : JobStep → Verdict
verdict_of s = (step_row s.progress s.job).figures.verdict

-- what a step promises: the definition's answer, with its number and values, and what that leaves in the scratch
pub record StepsTo (job : Job) (entry : List Float) (r : JobStep) (exit : List Float) : Type 0 where
  pub answered : IsAnswer verdict_of r (step_of job (length entry)).answer
  pub scratch : exit ≡ (step_of job (length entry)).leaves entry

-- ---- a change of density

-- "the plate's density may be changed"
abbrev pub with_density : FinSet → Density → FinSet
with_density set density =
    record {
      count = set.count;
      planform = set.planform;
      thickness_m = set.thickness_m;
      cross_section = set.cross_section;
      tab = set.tab;
      fillet = set.fillet;
      cant_rad = set.cant_rad;
      base_angle_rad = set.base_angle_rad;
      body_radius_m = set.body_radius_m;
      density = density;
    }

-- "answered only as taken"
abbrev pub taken : Job → Density → JobReply
taken job density =
    record {
      job =
          record {
            set = with_density job.set density;
            points = job.points;
            limit = job.limit;
            next = job.next;
            totals = job.totals;
            ended = false;
            outcome = job.outcome;
          };
      reply = record { verdict = (Ok tt); samples = 0 };
    }

-- "leaves the old one"; "that 12" carries "the job's samples so far"
abbrev pub kept : Job → Refusal → JobReply
kept job refusal = record { job = job; reply = record { verdict = Err refusal; samples = job.totals.samples } }

-- what a call leaves and answers is the definition's, with the number and values of its verdict
abbrev pub IsReplied : JobReply → JobReply → Type 0
IsReplied r definition = IsAnswer (λ (s : JobReply). s.reply.verdict) r definition

-- "a density not bulk or outside the limits, or any change after the end, answers 12 and leaves the old one"
unfoldable pub change_of : Job → Density → JobReply
change_of job density =
    cond job.ended (kept job not_taken) (by_verdict (density_check density) (taken job density) (kept job))

-- ---- making a job

-- "Every check before the strips runs when the job is made, number 2 at each step"
unfoldable pub making_check : FinSet → List Float → ℕ → Verdict
making_check set points L = first_refusal (limit_check L) (own_check set points)

-- a job made with this verdict: taken, or refused, and then the record has ended with that
abbrev pub made_with : Verdict → FinSet → List Float → ℕ → JobReply
made_with verdict set points L =
    record {
      job =
          record {
            set = set;
            points = points_of points;
            limit = L;
            next = 0;
            totals = record { value = zeros; intervals = 0; samples = 0 };
            ended = is_refused verdict;
            outcome = bare_figures verdict 0;
          };
      reply = record { verdict = verdict; samples = 0 };
    }

unfoldable pub made_of : FinSet → List Float → ℕ → JobReply
made_of set points L = made_with (making_check set points L) set points L

-- ---- how far a job is

-- how many of some heights lie below h
unfoldable pub count_below : Float → List Float → ℕ
count_below h [] = 0
count_below h (x ∷ l) = cond (lt x h) (suc (count_below h l)) (count_below h l)

-- how many strips lie below the height at a place: as many as break heights, which bound them, lie below it
abbrev pub strips_below : Planform → List Float → ℕ → ℕ
strips_below planform points place =
    count_below (at (all_heights planform points) place) (break_heights planform points)

-- how many strips of how many are worked, and the intervals and samples so far. Worked are the strips that lie below
-- the next one, or below where the last one worked ended: all strips of a job that has ended with figures, and where a
-- strip was refused, that one too.
unfoldable pub progress_of : Job → JobProgress
progress_of job =
    record {
      worked = strips_below job.set.planform (outline_of job) job.next;
      strips = length (break_heights job.set.planform (outline_of job)) - 1;
      intervals = job.totals.intervals;
      samples = job.totals.samples;
    }
