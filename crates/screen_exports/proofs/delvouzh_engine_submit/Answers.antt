-- `screen_exports::delvouzh_engine_submit` meets its contract: there is no room, or no such set, or the engine answers. Assumes nothing.
use mathlib.Core.Path.{refl}
use borrow.Author.Tests.{leb-true}
use Rattle.screen_exports.specs.EngineCalls.{engine_memory}
use Rattle.screen_exports.proofs.Laws.{enough, fits_not, fits, memory_fits, told_fits}
use Rattle.screen_exports.proofs.Laws.{engine_stays, reply_refused, set_told, no_set_told}
use Rattle.screen_exports.proofs.delvouzh_engine_submit.Goals as goal

pub returns-then-not-fits : goal.returns-then-not-fits
returns-then-not-fits c =
    reply_refused engine_memory engine_stays _ (fits_not c.engine_fits.ensures refl c.if-not-fits.true-raw)

pub tell_values-requires : goal.tell_values-requires
tell_values-requires c =
    leb-true _ _ (told_fits c.engine_fits.ensures refl c.if-not-fits.false-raw)

pub returns-in_default : goal.returns-in_default
returns-in_default c =
    no_set_told engine_memory engine_stays _ _ (fits c.engine_fits.ensures refl c.if-not-fits.false-raw)
    c.listed_set-asked.ensures c.in_default.is c.no_form.ensures c.tell_values.ensures

pub submit-reply-requires : goal.submit-reply-requires
submit-reply-requires c =
    enough (memory_fits c.engine_fits.ensures refl c.if-not-fits.false-raw)

pub tell_values-requires-2 : goal.tell_values-requires-2
tell_values-requires-2 c =
    leb-true _ _ (told_fits c.engine_fits.ensures refl c.if-not-fits.false-raw)

pub returns : goal.returns
returns c =
    set_told engine_memory engine_stays _ _ _ (fits c.engine_fits.ensures refl c.if-not-fits.false-raw)
    c.listed_set-asked.ensures c.in-Some.is
    c.submit-reply.ensures.answered c.submit-reply.ensures.leaves c.tell_values-2.ensures
