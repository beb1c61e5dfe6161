-- `chords::crossings_of` meets its contract: after k edges of the list their crossings stand sorted. Assumes nothing.
use mathlib.Core.Path.{refl}
use native.Mathlib.Omega.{arith}
use Rattle.planforms.specs.Planforms.{pair_count}
use Rattle.chords.proofs.Listed.{none_yet, within, one_more}
use Rattle.chords.proofs.crossings_of.Goals as goal

pub loop-edge-init : goal.loop-edge-init
loop-edge-init c = let a = c.args in
    none_yet a.points.now (pair_count a.points.now) a.h a.edges.now a.xs.now

pub cross_edge-count-requires : goal.cross_edge-count-requires
cross_edge-count-requires c =
    let a = c.args in
    let few = c.requires.few in
    let so_far = within a.points.now (pair_count a.points.now) a.h a.edges.now _ _ _ _ c.loop-edge.invariant in
    (c.requires.each c.loop-edge.edge-index (omega arith), refl, omega arith)

pub loop-edge-preserved : goal.loop-edge-preserved
loop-edge-preserved c =
    let a = c.args in
    one_more a.points.now (pair_count a.points.now) a.h a.edges.now c.loop-edge.edge-index _ c.loop-edge.xs _ _ _
    c.loop-edge.invariant c.cross_edge-count.ensures
