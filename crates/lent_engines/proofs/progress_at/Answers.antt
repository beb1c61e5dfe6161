-- `lent_engines::progress_at` meets its contract: of the screens and the job that the lists hold. Assumes nothing.
use Rattle.lent_engines.proofs.Calls.{told_there}
use Rattle.lent_engines.proofs.progress_at.Goals as goal

pub returns : goal.returns
returns c =
    told_there _ _ _ c.read_screens-screens.ensures _ _ _ c.place_of-place.ensures.0 c.read_at-job.ensures _
    c.progress_at.ensures
