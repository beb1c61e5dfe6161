-- The edges that h alone can cross are listed, and the crossings are written over an array's start.
use Rattle.std.proofs.Common.{sym, arith, length-take-le}
use Rattle.sorting.proofs.Over.{written_length}
use Rattle.chords.proofs.Near.{at_one_height}
use Rattle.chords.proofs.Listed.{most_crossings}
use Rattle.test_questions.proofs.planform_lines.ends_agree.Goals as goal

pub slice_bounds-chords_at-end : goal.slice_bounds-chords_at-end
slice_bounds-chords_at-end c = sym (length-take-le _ _ c.edges_near-count.ensures.room)

pub chords_at-requires : goal.chords_at-requires
chords_at-requires c = λ e. at_one_height c.edges_near-count.ensures

pub slice_bounds-agree-end-in-Several : goal.slice_bounds-agree-end-in-Several
slice_bounds-agree-end-in-Several c = omega (arith, written_length c.outline_crossings-n.ensures (most_crossings _ _))
