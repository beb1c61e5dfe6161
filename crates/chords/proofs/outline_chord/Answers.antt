-- `chords::outline_chord` meets its contract: after k edges of the list they are met. Assumes nothing.
use Prim.Native.Nat.{◌+◌}
use native.Mathlib.Omega.{arith}
use Rattle.planforms.specs.Planforms.{pair_count}
use Rattle.chords.proofs.Twice.{none_yet, one_more, a_third}
use Rattle.chords.proofs.outline_chord.Goals as goal

pub loop-edge-init : goal.loop-edge-init
loop-edge-init c = let a = c.args in
    none_yet a.points.now (pair_count a.points.now) a.h a.edges.now

pub returns-in-More : goal.returns-in-More
returns-in-More c =
    let a = c.args in
    a_third a.points.now a.h a.edges.now (c.loop-edge.edge-index + 1) c.meet_edge-few.result c.requires (omega arith)
    (one_more a.points.now (pair_count a.points.now) a.h a.edges.now c.loop-edge.edge-index c.loop-edge.few _ c.loop-edge.invariant
    c.meet_edge-few.ensures)
    c.in-More.is

pub loop-edge-preserved : goal.loop-edge-preserved
loop-edge-preserved c =
    let a = c.args in
    one_more a.points.now (pair_count a.points.now) a.h a.edges.now c.loop-edge.edge-index c.loop-edge.few _
    c.loop-edge.invariant c.meet_edge-few.ensures
