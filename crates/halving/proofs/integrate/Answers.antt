-- `halving::integrate` meets its contract, each way of a strip. Assumes nothing.
use mathlib.Core.Path.{◌≡◌, ap, ◌∙◌}
use native.Mathlib.Omega.{arith}
use Rattle.limits.specs.Limits.{piece_samples}
use Rattle.quadrature.specs.declared.Measurement.{Measurement}
use Rattle.quadrature.proofs.Heights.{fifteen}
use Rattle.halving.proofs.Strip.{equal_ends, goes_on}
use Rattle.halving.proofs.integrate.Goals as goal

pub returns-then-lower-upper : goal.returns-then-lower-upper
returns-then-lower-upper c = equal_ends _ _ _ _ _ c.if-lower-upper.true

pub repeat-requires : goal.repeat-requires
repeat-requires c =
    let taken : c.rule-whole.result.samples ≡ piece_samples = ap (λ (x : Measurement). x.samples) c.rule-whole.ensures ∙ fifteen _ _ in
    omega (arith, c.write.auto.scratch, c.requires)

pub returns : goal.returns
returns c =
    goes_on _ _ _ _ _ c.if-lower-upper.false _ (ap (λ (x : Measurement). x.piece) c.rule-whole.ensures) _
    (ap (λ (x : Measurement). x.samples) c.rule-whole.ensures) _ _
    (rw c.write.ensures at c.repeat.ensures)
