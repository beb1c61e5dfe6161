-- `tolerance::total` meets its contract: what is left to add up from here is the whole sum. Assumes nothing.
use mathlib.Core.Path.{◌≡◌, ◌∙◌}
use Prim.Native.Nat.{◌-◌, ◌<◌}
use native.Mathlib.Nat.{sub-zero}
use native.Mathlib.Omega.{arith}
use Rattle.pieces.proofs.Storage.{pieces_step}
use Rattle.tolerance.proofs.Added.{sums_are}
use Rattle.tolerance.proofs.total.Goals as goal

pub loop-i-preserved : goal.loop-i-preserved
loop-i-preserved c =
    let inside : c.loop-i.i < c.args.n = omega arith in
    rw (c.add_piece-sums.ensures, c.read.ensures) (rw (pieces_step _ _ _ inside) at c.loop-i.invariant)

pub returns : goal.returns
returns c =
    let e : c.args.n - c.loop-i.i ≡ 0 = omega arith in
    (rw e at c.loop-i.invariant) ∙ sums_are _
