-- `chords::crossings_of` meets its contract: after k edges of the list their crossings stand sorted. Assumes nothing.
use Rattle.planforms.specs.Planforms.{pair_count}
use Rattle.chords.proofs.Listed.{After}
use Rattle.chords.proofs.crossings_of.Given as goal

abbrev pub invariant-loop-edge : goal.invariant-loop-edge
invariant-loop-edge l = After l.points (pair_count l.points) l.h l.edges l.edge-index l.initial.xs l.xs l.count
