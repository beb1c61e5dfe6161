-- `breaks::put_outline_heights` meets its contract: after i points their heights stand sorted. Assumes nothing.
use native.Mathlib.Omega.{arith}
use Rattle.breaks.proofs.Kept.{no_heights, one_height, all_heights_lem, too_many}
use Rattle.breaks.proofs.put_outline_heights.Goals as goal

pub returns-then-n-gt-MOST_POINTS : goal.returns-then-n-gt-MOST_POINTS
returns-then-n-gt-MOST_POINTS c = too_many c.args.points.now c.args.xs.now c.if-n-gt-MOST_POINTS.true

pub loop-i-init : goal.loop-i-init
loop-i-init c = no_heights c.args.points.now c.args.xs.now

pub loop-i-preserved : goal.loop-i-preserved
loop-i-preserved c =
    let a = c.args in
    one_height a.points.now c.loop-i.i a.xs.now c.loop-i.xs _ c.loop-i.invariant c.insert.ensures

pub returns : goal.returns
returns c =
    let a = c.args in
    all_heights_lem a.points.now a.xs.now _ c.loop-i.i (omega arith) (omega arith) c.loop-i.invariant
