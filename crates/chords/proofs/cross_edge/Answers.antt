-- `chords::cross_edge` meets its contract: with no crossing nothing is written, and one is inserted. Assumes nothing.
use mathlib.Core.Path.{sym, ◌∙◌}
use native.Mathlib.Omega.{arith}
use borrow.Author.Tests.{not-false}
use Rattle.chords.proofs.Listed.{is_crossed_lem}
use Rattle.chords.proofs.cross_edge.Goals as goal

pub returns : goal.returns
returns c =
    let a = c.args in
    is_crossed_lem a.points.now a.n a.h a.i _ a.xs.now a.count c.next_point-j.ensures.0
    (sym c.edge_crossed.ensures ∙ not-false _ c.if-not-edge_crossed.false-raw)
    (omega (arith, c.requires))
    _
    (rw (← c.edge_crossing.ensures) c.insert.ensures)
