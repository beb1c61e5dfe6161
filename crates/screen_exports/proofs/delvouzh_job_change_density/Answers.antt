-- `screen_exports::delvouzh_job_change_density` meets its contract: no room, or no such density, or the job answers. Assumes nothing.
use mathlib.Core.Path.{refl}
use borrow.Author.Tests.{leb-true}
use Rattle.screen_exports.specs.JobCalls.{job_memory}
use Rattle.screen_exports.proofs.Laws.{enough, fits_not, fits, memory_fits, told_fits}
use Rattle.screen_exports.proofs.Laws.{job_stays, reply_refused, density_told, no_density_told}
use Rattle.screen_exports.proofs.delvouzh_job_change_density.Goals as goal

pub returns-then-not-fits : goal.returns-then-not-fits
returns-then-not-fits c =
    reply_refused job_memory job_stays _ (fits_not c.job_fits.ensures refl c.if-not-fits.true-raw)

pub tell_counts-requires : goal.tell_counts-requires
tell_counts-requires c =
    leb-true _ _ (told_fits c.job_fits.ensures refl c.if-not-fits.false-raw)

pub returns-in_default : goal.returns-in_default
returns-in_default c =
    no_density_told job_memory job_stays _ _ (fits c.job_fits.ensures refl c.if-not-fits.false-raw)
    c.numbered_density-asked.ensures c.in_default.is c.no_form.ensures c.tell_counts.ensures

pub change_density-reply-requires : goal.change_density-reply-requires
change_density-reply-requires c =
    enough (memory_fits c.job_fits.ensures refl c.if-not-fits.false-raw)

pub tell_counts-requires-2 : goal.tell_counts-requires-2
tell_counts-requires-2 c =
    leb-true _ _ (told_fits c.job_fits.ensures refl c.if-not-fits.false-raw)

pub returns : goal.returns
returns c =
    density_told job_memory job_stays _ _ _ (fits c.job_fits.ensures refl c.if-not-fits.false-raw)
    c.numbered_density-asked.ensures c.in-Some.is
    c.change_density-reply.ensures.answered c.change_density-reply.ensures.leaves c.tell_counts-2.ensures
