-- `integrands::chord_sums` meets its contract: what is left to add, with the sums so far, is the whole. Assumes nothing.
use native.Mathlib.Omega.{arith}
use Rattle.integrands.proofs.Pairs.{one_more, all}
use Rattle.integrands.proofs.chord_sums.Goals as goal

pub loop-k-preserved : goal.loop-k-preserved
loop-k-preserved c =
    let a = c.args in
    one_more a.kind a.scale a.h a.ends.now c.loop-k.sums _ c.loop-k.k (omega arith) c.loop-k.invariant
    c.add_chord-more.ensures

pub returns : goal.returns
returns c =
    let a = c.args in
    all a.kind a.scale a.h a.ends.now c.loop-k.sums c.loop-k.k (omega arith) c.loop-k.invariant
