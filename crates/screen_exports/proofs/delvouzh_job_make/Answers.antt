-- `screen_exports::delvouzh_job_make` meets its contract: there is no room, or no such set, or the job is made. Assumes nothing.
use mathlib.Core.Path.{refl}
use borrow.Author.Tests.{leb-true}
use Rattle.screen_exports.specs.JobCalls.{job_memory}
use Rattle.screen_exports.proofs.Laws.{enough, fits_not, fits, memory_fits, told_fits}
use Rattle.screen_exports.proofs.Laws.{job_stays, reply_refused, set_told, no_set_told}
use Rattle.screen_exports.proofs.delvouzh_job_make.Goals as goal

pub returns-then-not-fits : goal.returns-then-not-fits
returns-then-not-fits c =
    reply_refused job_memory job_stays _ (fits_not c.job_fits.ensures refl c.if-not-fits.true-raw)

pub tell_values-requires : goal.tell_values-requires
tell_values-requires c =
    leb-true _ _ (told_fits c.job_fits.ensures refl c.if-not-fits.false-raw)

pub returns-in_default : goal.returns-in_default
returns-in_default c =
    no_set_told job_memory job_stays _ _ (fits c.job_fits.ensures refl c.if-not-fits.false-raw)
    c.listed_set-asked.ensures c.in_default.is c.no_form.ensures c.tell_values.ensures

pub make-reply-requires : goal.make-reply-requires
make-reply-requires c =
    enough (memory_fits c.job_fits.ensures refl c.if-not-fits.false-raw)

pub tell_values-requires-2 : goal.tell_values-requires-2
tell_values-requires-2 c =
    leb-true _ _ (told_fits c.job_fits.ensures refl c.if-not-fits.false-raw)

pub returns : goal.returns
returns c =
    set_told job_memory job_stays _ _ _ (fits c.job_fits.ensures refl c.if-not-fits.false-raw)
    c.listed_set-asked.ensures c.in-Some.is
    c.make-reply.ensures.answered c.make-reply.ensures.holds c.tell_values-2.ensures
