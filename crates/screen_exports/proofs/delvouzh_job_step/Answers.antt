-- `screen_exports::delvouzh_job_step` meets its contract: there is no room, or the job answers. Assumes nothing.
use mathlib.Core.Path.{refl, ◌∙◌}
use Prim.Native.Nat.{◌≤◌}
use lib.ListN.{length}
use Rattle.lent_jobs.specs.Memory.{job_numbers_length, job_counts_length}
use Rattle.lent_jobs.proofs.Unchanged.{step_told_lem}
use Rattle.screen_exports.specs.JobCalls.{job_memory}
use Rattle.screen_exports.proofs.Laws.{enough, fits_not, fits, memory_fits, told_fits, job_stays, row_refused, row_told}
use borrow.Author.Rules.{rules}
use Rattle.screen_exports.proofs.delvouzh_job_step.Goals as goal

pub returns-then-not-fits : goal.returns-then-not-fits
returns-then-not-fits c =
    row_refused job_memory job_stays _
    (fits_not c.job_fits.ensures c.has_room.ensures c.if-not-fits.true-raw)

pub step-progress-requires : goal.step-progress-requires
step-progress-requires c =
    enough (memory_fits c.job_fits.ensures c.has_room.ensures c.if-not-fits.false-raw)

pub step_row-row-requires : goal.step_row-row-requires
step_row-row-requires c =
    let a = c.args in
    let h : (job_numbers_length ≤ length a.job_numbers.now) × (job_counts_length ≤ length a.job_counts.now) =
    enough (memory_fits c.job_fits.ensures c.has_room.ensures c.if-not-fits.false-raw) in
    search (rules, h.0, h.1)

pub tell_row-requires : goal.tell_row-requires
tell_row-requires c =
    enough (told_fits c.job_fits.ensures c.has_room.ensures c.if-not-fits.false-raw)

pub returns : goal.returns
returns c =
    row_told job_memory job_stays _
    (fits c.job_fits.ensures c.has_room.ensures c.if-not-fits.false-raw)
    (c.step_row-row.ensures ∙ step_told_lem _ _ _ c.step-progress.result _ _ _ c.step-progress.ensures) c.tell_row.ensures refl
    c.step-progress.ensures.lent c.step-progress.ensures.leaves
