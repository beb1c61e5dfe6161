-- `halving::halve` meets its contract: both halves are measured and stored, and their samples counted. Assumes nothing.
use mathlib.Core.List.{List}
use mathlib.Core.Path.{◌≡◌, ap, ◌∙◌}
use native.Mathlib.Omega.{arith}
use lib.Ieee.{Float}
use Rattle.quadrature.specs.declared.Measurement.{Measurement}
use Rattle.quadrature.specs.declared.Piece.{Piece}
use Rattle.pieces.specs.Stored.{written, pieces_in, put_at}
use Rattle.pieces.proofs.Storage.{halves_stored}
use Rattle.quadrature.proofs.Heights.{fifteen}
use Rattle.halving.proofs.Halvings.{halves_are, halves_counted}
use Rattle.halving.proofs.halve.Goals as goal

pub overflow_add-result : goal.overflow_add-result
overflow_add-result c =
    let l = ap (λ (x : Measurement). x.samples) c.rule-left.ensures ∙ fifteen _ _ in
    let r = ap (λ (x : Measurement). x.samples) c.rule-right.ensures ∙ fifteen _ _ in
    omega (arith, l, r)

pub returns : goal.returns
returns c =
    let s = c.args.scratch.now in
    let place = c.args.place in
    let n = c.args.n in
    let stored : c.write-2.new.scratch ≡ put_at (put_at s place c.rule-left.result.piece) n c.rule-right.result.piece =
    c.write-2.ensures ∙ ap (λ (x : List Float). put_at x n c.rule-right.result.piece) c.write.ensures in (
      stored ∙ halves_stored n place s _ _ c.requires.0 (omega (arith, c.requires))
          ∙ ap (λ (l : List Piece). written l s)
          (halves_are _ _ _ c.read-p.ensures _ c.middle-m.ensures _ _ c.rule-left.ensures c.rule-right.ensures
          (pieces_in n s) place),
      halves_counted _ _ _ c.read-p.ensures _ c.middle-m.ensures _ _ c.rule-left.ensures c.rule-right.ensures,
    )
