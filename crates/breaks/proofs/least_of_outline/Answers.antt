-- `breaks::least_of_outline` meets its contract: after i points, what is found is the least of theirs. Assumes nothing.
use mathlib.Core.Path.{◌≡◌, refl}
use Prim.Native.Nat.{◌≤◌}
use native.Mathlib.Omega.{arith}
use borrow.Author.Tests.{le-leb, lt-leb}
use Rattle.limits.specs.Limits.{most_points}
use Rattle.planforms.specs.Planforms.{pair_count}
use Rattle.breaks.proofs.Above.{none_found, begins, one_point, place_few}
use Rattle.breaks.proofs.least_of_outline.Goals as goal

pub returns-then-n-gt-MOST_POINTS : goal.returns-then-n-gt-MOST_POINTS
returns-then-n-gt-MOST_POINTS c =
    let a = c.args in
    (rw (lt-leb (pair_count a.points.now) most_points c.if-n-gt-MOST_POINTS.true) (none_found a.h), omega arith)

pub loop-i-init : goal.loop-i-init
loop-i-init c = begins _ _ _ refl

pub nearer-found-requires : goal.nearer-found-requires
nearer-found-requires c =
    let a = c.args in
    let few = place_few a.points.now a.h c.loop-i.i c.loop-i.found c.loop-i.invariant in
    omega arith

pub loop-i-preserved : goal.loop-i-preserved
loop-i-preserved c =
    let a = c.args in
    one_point a.points.now a.h c.loop-i.i c.loop-i.found _ c.loop-i.invariant c.nearer-found.ensures

pub returns : goal.returns
returns c =
    let a = c.args in
    let n = pair_count a.points.now in
    let few = place_few a.points.now a.h c.loop-i.i c.loop-i.found c.loop-i.invariant in
    let most : n ≤ most_points = omega arith in
    let all : c.loop-i.i ≡ n = omega arith in
    (rw (le-leb n most_points most) (rw all at c.loop-i.invariant), omega arith)
