-- `chords::edges_near` meets its contract: at point i the edges before it are asked. Assumes nothing.
use mathlib.Core.Path.{◌≡◌, refl}
use Prim.Native.Nat.{◌+◌, ◌-◌}
use native.Mathlib.Omega.{arith}
use Rattle.planforms.specs.Planforms.{pair_count}
use Rattle.chords.proofs.Near.{none_yet, one_more, closed, all_near, no_points, too_many}
use Rattle.chords.proofs.edges_near.Goals as goal

pub returns-then-n-eq0 : goal.returns-then-n-eq0
returns-then-n-eq0 c = no_points _ _ _ _ c.if-n-eq0.true

pub returns-then-n-gt-MOST_POINTS : goal.returns-then-n-gt-MOST_POINTS
returns-then-n-gt-MOST_POINTS c = too_many _ _ _ _ c.if-n-gt-MOST_POINTS.true

pub loop-i-init : goal.loop-i-init
loop-i-init c = let a = c.args in
    (refl, refl, none_yet a.points.now (pair_count a.points.now) a.lo a.hi a.edges.now)

pub loop-i-preserved : goal.loop-i-preserved
loop-i-preserved c =
    let a = c.args in
    let i = c.loop-i.i in
    let v = c.loop-i.invariant in
    let fewer = v.2.fewer in
    let e : i + 1 - 1 ≡ i = omega arith in (
      rw e,
      rw e,
      one_more a.points.now (pair_count a.points.now) a.lo a.hi i c.loop-i.edges _ c.loop-i.count _
          c.loop-i.below c.loop-i.above (omega arith) (omega arith) (omega arith) v.0 v.1 v.2 c.keep_edge-count.ensures,
    )

pub returns : goal.returns
returns c =
    let a = c.args in
    let n = pair_count a.points.now in
    let v = c.loop-i.invariant in
    let fewer = v.2.fewer in
    all_near a.points.now a.lo a.hi _ _ (omega arith) (omega arith)
    (closed a.points.now n a.lo a.hi c.loop-i.i c.loop-i.edges _ c.loop-i.count _ c.loop-i.below
    c.loop-i.above (omega arith) (omega arith) (omega arith) v.0 v.1 v.2 c.keep_edge.ensures)
