-- `jobs::step_by_value` meets its contract: 2, or a step that is lent enough. Assumes nothing.
use mathlib.Core.Path.{◌≡◌, refl, sym, ap, ap₂, ◌∙◌}
use mathlib.Core.List.{List}
use lib.ListN.{length}
use lib.Ieee.{Float}
use Rattle.refusals.proofs.Given.{is_answer}
use Rattle.jobs.specs.declared.Job.{Job}
use Rattle.jobs.specs.declared.Progress.{Progress}
use Rattle.jobs.specs.declared.JobStep.{JobStep}
use Rattle.refusals.specs.Calls.{CallOf, Does}
use Rattle.jobs.specs.Jobs.{step_after, step_of, StepsTo}
use Rattle.jobs.proofs.Laws.{step_short, step_on}
use Rattle.jobs.proofs.step_by_value.Goals as goal

steps_to : {job : Job} {call : CallOf JobStep} {entry exit : List Float} {r : JobStep} → step_of job (length entry) ≡ call
    → Does call r entry exit → StepsTo job entry r exit
steps_to {job} {call} {entry} e does =
    record {
      answered = is_answer (does.0 ∙ sym (ap (λ (c : CallOf JobStep). c.answer) e));
      scratch = does.1 ∙ sym (ap (λ (c : CallOf JobStep). c.leaves entry) e);
    }

pub returns-then-is_short : goal.returns-then-is_short
returns-then-is_short c = steps_to (step_short _ _ (sym c.is_short.ensures ∙ c.if-is_short.true)) (refl, refl)

pub step_in_room-job-requires : goal.step_in_room-job-requires
step_in_room-job-requires c = sym c.is_short.ensures ∙ c.if-is_short.false

pub returns : goal.returns
returns c =
    let does = c.step_in_room-job.ensures in
    steps_to (step_on _ _ (sym c.is_short.ensures ∙ c.if-is_short.false)) (
      ap₂ (λ (j : Job) (p : Progress). record { job = j; progress = p }) does.0
          (c.step_after-progress.ensures ∙ ap (λ (j : Job). step_after j.ended) does.0),
      does.1,
    )
