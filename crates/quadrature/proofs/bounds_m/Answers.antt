-- `quadrature::bounds_m` meets its contract: of the first i heights none is below lo or above hi. Assumes nothing.
use mathlib.Core.Path.{◌≡◌, ◌∙◌}
use mathlib.Core.Bool.{cond}
use native.Mathlib.Omega.{arith}
use lib.Ieee.{lt}
use Rattle.floats.specs.Operations.{◌⊗◌, at}
use Rattle.quadrature.proofs.Within.{first_within, one_within}
use Rattle.quadrature.proofs.bounds_m.Goals as goal
use Rattle.quadrature.proofs.bounds_m.Goals.{then-h-lo, else-h-lo, then-hi-h, else-hi-h}

pub loop-i-init : goal.loop-i-init
loop-i-init c = first_within c.args.scale c.args.heights

pub loop-i-preserved : goal.loop-i-preserved
loop-i-preserved c =
    let a = c.args in
    let h = at a.heights c.loop-i.i ⊗ a.scale in
    let lo = c.loop-i.lo in
    let hi = c.loop-i.hi in
    let lower : c.if-h-lo.lo ≡ cond (lt h lo) h lo =
    elim c.if-h-lo.branch [ then-h-lo w ↦ w.lo-is ∙ rw w.if-h-lo.true | else-h-lo w ↦ w.lo-is ∙ rw w.if-h-lo.false ] in
    let upper : c.if-hi-h.hi ≡ cond (lt hi h) h hi =
    elim c.if-hi-h.branch [ then-hi-h w ↦ w.hi-is ∙ rw w.if-hi-h.true | else-hi-h w ↦ w.hi-is ∙ rw w.if-hi-h.false ] in
    one_within a.scale a.heights c.loop-i.i lo hi _ _ c.loop-i.invariant lower upper

pub returns : goal.returns
returns c j l = c.loop-i.invariant j (omega arith)
