-- `screen_exports::delvouzh_engine_progress` meets its contract: no room, or it is told how far the screen's job is. Assumes nothing.
use mathlib.Core.Path.{refl}
use borrow.Author.Tests.{leb-true}
use Rattle.screen_exports.specs.EngineCalls.{engine_memory}
use Rattle.screen_exports.proofs.Laws.{enough, fits_not, fits, memory_fits, told_fits, engine_stays, progress_refused, progress_told}
use Rattle.screen_exports.proofs.delvouzh_engine_progress.Goals as goal

pub returns-then-not-fits : goal.returns-then-not-fits
returns-then-not-fits c =
    progress_refused engine_memory engine_stays _ (fits_not c.engine_fits.ensures refl c.if-not-fits.true-raw)

pub progress_at-p-requires : goal.progress_at-p-requires
progress_at-p-requires c =
    enough (memory_fits c.engine_fits.ensures refl c.if-not-fits.false-raw)

pub tell_progress-requires : goal.tell_progress-requires
tell_progress-requires c =
    leb-true _ _ (told_fits c.engine_fits.ensures refl c.if-not-fits.false-raw)

pub returns : goal.returns
returns c =
    progress_told engine_memory engine_stays _ (fits c.engine_fits.ensures refl c.if-not-fits.false-raw)
    c.progress_at-p.ensures c.tell_progress.ensures
