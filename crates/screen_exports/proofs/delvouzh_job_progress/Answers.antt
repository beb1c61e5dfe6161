-- `screen_exports::delvouzh_job_progress` meets its contract: there is no room, or it is told how far the job is. Assumes nothing.
use mathlib.Core.Path.{refl}
use borrow.Author.Tests.{leb-true}
use Rattle.screen_exports.specs.JobCalls.{job_memory}
use Rattle.screen_exports.proofs.Laws.{enough, fits_not, fits, memory_fits, told_fits, job_stays, progress_refused, progress_told}
use Rattle.screen_exports.proofs.delvouzh_job_progress.Goals as goal

pub returns-then-not-fits : goal.returns-then-not-fits
returns-then-not-fits c =
    progress_refused job_memory job_stays _ (fits_not c.job_fits.ensures refl c.if-not-fits.true-raw)

pub progress_of-p-requires : goal.progress_of-p-requires
progress_of-p-requires c =
    enough (memory_fits c.job_fits.ensures refl c.if-not-fits.false-raw)

pub tell_progress-requires : goal.tell_progress-requires
tell_progress-requires c =
    leb-true _ _ (told_fits c.job_fits.ensures refl c.if-not-fits.false-raw)

pub returns : goal.returns
returns c =
    progress_told job_memory job_stays _ (fits c.job_fits.ensures refl c.if-not-fits.false-raw)
    c.progress_of-p.ensures c.tell_progress.ensures
