-- `engines::serve` meets its contract: 2, a step of the next screen's job, or idle. Assumes nothing.
use mathlib.Core.Path.{◌≡◌, refl, sym, ap, ◌∙◌}
use mathlib.Core.List.{List}
use lib.ListN.{length}
use lib.Ieee.{Float}
use Rattle.refusals.proofs.Given.{is_answer}
use Rattle.jobs.specs.declared.Job.{Job}
use Rattle.refusals.specs.Calls.{CallOf, Does}
use Rattle.engines.specs.declared.Screens.{Screens}
use Rattle.engines.specs.declared.ScreenTurn.{ScreenTurn}
use Rattle.engines.specs.Engines.{stepped, served_of, ServesTo}
use Rattle.engines.proofs.Laws.{long_enough, served_short, served_step, served_idle}
use Rattle.engines.proofs.serve.Goals as goal

serves_to : {screens : Screens} {job : Job} {call : CallOf ScreenTurn} {entry exit : List Float} {r : ScreenTurn}
    → served_of screens job (length entry) ≡ call
    → Does call r entry exit → ServesTo screens job entry r exit
serves_to {screens} {job} {call} {entry} e does =
    record {
      answered = is_answer (does.0 ∙ sym (ap (λ (c : CallOf ScreenTurn). c.answer) e));
      scratch = does.1 ∙ sym (ap (λ (c : CallOf ScreenTurn). c.leaves entry) e);
    }

pub returns-then-scratch-lt-SCRATCH_NUMBERS : goal.returns-then-scratch-lt-SCRATCH_NUMBERS
returns-then-scratch-lt-SCRATCH_NUMBERS c = serves_to (served_short _ _ _ c.if-scratch-lt-SCRATCH_NUMBERS.true) (refl, refl)

pub step_in_room-job-requires : goal.step_in_room-job-requires
step_in_room-job-requires c =
    let a = c.args in
    long_enough a.job.ended a.job.limit _ c.if-scratch-lt-SCRATCH_NUMBERS.false

pub returns-then-screen-gt0 : goal.returns-then-screen-gt0
returns-then-screen-gt0 c =
    let does = c.step_in_room-job.ensures in
    serves_to (served_step _ _ _ _ c.next_screen-screen.ensures c.if-scratch-lt-SCRATCH_NUMBERS.false c.if-screen-gt0.true)
    (c.after_step.ensures ∙ ap (stepped _ _) does.0, does.1)

pub returns : goal.returns
returns c =
    serves_to (served_idle _ _ _ _ c.next_screen-screen.ensures c.if-scratch-lt-SCRATCH_NUMBERS.false c.if-screen-gt0.false) (refl, refl)
