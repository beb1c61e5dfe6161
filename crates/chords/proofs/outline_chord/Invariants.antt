-- `chords::outline_chord` meets its contract: after k edges of the list they are met. Assumes nothing.
use Rattle.planforms.specs.Planforms.{pair_count}
use Rattle.chords.proofs.Twice.{Met}
use Rattle.chords.proofs.outline_chord.Given as goal

abbrev pub invariant-loop-edge : goal.invariant-loop-edge
invariant-loop-edge l = Met l.points (pair_count l.points) l.h l.edges l.edge-index l.few
