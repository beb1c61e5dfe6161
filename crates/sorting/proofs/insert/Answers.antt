-- `sorting::insert` meets its contract: what is left to do at k, with what stands behind it, is the whole. Assumes nothing.
use mathlib.Core.Path.{◌≡◌, ◌∙◌}
use Prim.Native.Nat.{◌+◌, ◌-◌}
use native.Mathlib.Omega.{arith}
use Rattle.sorting.proofs.Insertion.{start, moved, put_behind, put_first}
use Rattle.sorting.proofs.insert.Goals as goal

pub loop-k-init : goal.loop-k-init
loop-k-init c = let a = c.args in start a.x a.xs.now a.n (omega arith)

pub returns-then-not-x-y : goal.returns-then-not-x-y
returns-then-not-x-y c =
    let head = c.loop-k in
    let e : head.k - 1 + 1 ≡ head.k = omega arith in
    rw e (put_behind c.args.x head.xs head.k (omega arith) (omega arith) c.if-not-x-y.true ∙ head.invariant)

pub loop-k-preserved : goal.loop-k-preserved
loop-k-preserved c =
    let head = c.loop-k in
    let e : head.k - 1 + 1 ≡ head.k = omega arith in
    rw e (moved _ head.xs head.k (omega arith) (omega arith) c.if-not-x-y.false ∙ head.invariant)

pub returns : goal.returns
returns c =
    let head = c.loop-k in
    let e : head.k ≡ 0 = omega arith in
    rw e at (put_first c.args.x head.xs head.k (omega arith) (omega arith) ∙ head.invariant)
