-- `integrands::sample` meets its contract: the chords are found among the edges that the height alone can cross, and
-- the values worked over them. Assumes nothing.
use mathlib.Core.Path.{sym}
use lib.Seq.{length-take-le}
use Rattle.chords.proofs.Near.{at_one_height}
use Rattle.integrands.proofs.Sampled.{sampled}
use Rattle.integrands.proofs.sample.Goals as goal

pub returns : goal.returns
returns c =
    let a = c.args in
    sampled a.integrand a.points.now a.h c.chords_at-found.result _ c.chords_at-found.ensures c.values_over.ensures
