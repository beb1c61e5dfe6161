-- `planform_chords::write_several` meets its contract: the whole pairs of the crossings are written. Assumes nothing.
use native.Mathlib.Omega.{arith}
use Rattle.sorting.proofs.Over.{written_length}
use Rattle.chords.proofs.Listed.{most_crossings}
use Rattle.planform_chords.proofs.Answer.{several_listed}
use Rattle.planform_chords.proofs.write_several.Goals as goal

pub returns : goal.returns
returns c =
    let wrote = c.before.before in
    several_listed _ _ _ _ _ _ c.outline_crossings-count.ensures c.write_first.ensures
