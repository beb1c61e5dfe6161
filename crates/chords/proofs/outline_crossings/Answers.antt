-- `chords::outline_crossings` meets its contract: of the edges that h alone can cross the crossings are listed. Assumes nothing.
use Rattle.chords.proofs.Near.{at_one_height}
use Rattle.chords.proofs.outline_crossings.Goals as goal

pub crossings_of-requires : goal.crossings_of-requires
crossings_of-requires c = at_one_height c.edges_near-n.ensures
