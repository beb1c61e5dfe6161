-- `jobs::step_in_room` meets its contract: an ended job again, the next strip, or 1. Assumes nothing.
use mathlib.Core.Path.{refl, sym, ap, ◌∙◌}
use Rattle.strips.proofs.Reported.{run_within}
use Rattle.jobs.specs.Jobs.{after_strip}
use Rattle.jobs.proofs.Laws.{does_by, on_ended, on_refused, on_works, in_room}
use Rattle.jobs.proofs.step_in_room.Goals as goal

pub returns-then-job : goal.returns-then-job
returns-then-job c = does_by (on_ended _ c.if-job.true) (refl, refl)

pub work_next-onward-requires : goal.work_next-onward-requires
work_next-onward-requires c =
    run_within _ _
    (in_room c.args.job _ c.if-job.false (sym c.check_limit-verdict.ensures ∙ c.in-Ok.is)
    c.requires)

pub returns-in-Ok : goal.returns-in-Ok
returns-in-Ok c =
    let job = c.args.job in
    does_by (on_works job c.if-job.false (sym c.check_limit-verdict.ensures ∙ c.in-Ok.is))
    (c.after_strip.ensures ∙ ap (after_strip job) c.work_next-onward.ensures.0, c.work_next-onward.ensures.1)

pub returns-in-Err : goal.returns-in-Err
returns-in-Err c =
    does_by (on_refused c.args.job _ c.if-job.false (sym c.check_limit-verdict.ensures ∙ c.in-Err.is))
    (c.end_refused.ensures, refl)
