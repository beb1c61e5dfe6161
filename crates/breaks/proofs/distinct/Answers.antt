-- `breaks::distinct` meets its contract: those kept so far, with what is kept of the rest, are the whole. Assumes nothing.
use mathlib.Core.Path.{◌≡◌}
use Prim.Native.Nat.{◌-◌}
use native.Mathlib.Omega.{arith}
use lib.ListN.{take}
use Rattle.floats.specs.Operations.{at}
use Rattle.sorting.proofs.Over.{written_take, written_put}
use Rattle.breaks.proofs.Kept.{zeros, kept_on, last_kept, keep_length, turn, answer}
use Rattle.breaks.proofs.distinct.Goals as goal

pub loop-i-preserved : goal.loop-i-preserved
loop-i-preserved c =
    let a = c.args in
    let w = c.loop-i.invariant.1 in
    let v = c.keep_unless_equal-count.ensures in
    let kept = take c.loop-i.count c.loop-i.heights in
    let longer = keep_length kept (at a.xs.now (c.loop-i.i - 1)) (at a.xs.now c.loop-i.i) in (
      omega (arith, longer, w.count, v.count),
      turn zeros c.loop-i.heights _ c.loop-i.count _ _ _ w v,
      rw (written_take v) (kept_on a.xs.now a.n c.loop-i.i kept (omega arith) (omega arith) (omega arith) c.loop-i.invariant.2),
    )

pub returns : goal.returns
returns c =
    let a = c.args in
    let w = c.loop-i.invariant.1 in
    let e : c.loop-i.i ≡ a.n = omega arith in
    answer (written_put _ w (omega (arith, w.count)))
    (last_kept a.xs.now a.n (take c.loop-i.count c.loop-i.heights) (omega arith) (omega arith)
    (rw e at c.loop-i.invariant.2))
