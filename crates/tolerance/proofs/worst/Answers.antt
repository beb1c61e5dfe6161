-- `tolerance::worst` meets its contract: before place i, the best of the pieces from it on is in hand. Assumes nothing.
use mathlib.Core.Path.{◌≡◌, sym, subst}
use mathlib.Core.List.{List}
use Prim.Native.Nat.{ℕ, suc, ◌-◌}
use native.Mathlib.Omega.{arith}
use lib.Ieee.{Float}
use Rattle.floats.specs.Operations.{at}
use Rattle.pieces.specs.Stored.{read_at}
use Rattle.tolerance.specs.Bounds.{score_of}
use Rattle.tolerance.proofs.Places.{highest_below}
use Rattle.tolerance.proofs.Downward.{Sees, sees_last, sees_more}
use Rattle.tolerance.proofs.worst.Goals as goal

abbrev Score : List Float → List Float → ℕ → Float
Score scratch b i = score_of 7 (at b) (read_at scratch i)

pub loop-i-init : goal.loop-i-init
loop-i-init c = sees_last _ _ _ _ _ c.read-last.ensures c.score.ensures

pub loop-i-preserved : goal.loop-i-preserved
loop-i-preserved c =
    let a = c.args in
    let e : suc (c.loop-i.i - 1) ≡ c.loop-i.i = omega arith in
    let z = subst (λ (i : ℕ). Sees (read_at a.scratch.now) a.b (a.n - 1) i c.loop-i.seen) (sym e) c.loop-i.invariant in
    sees_more _ _ _ _ _ z _ _ _ c.read.ensures c.keep_order-ordered.ensures c.seen_with-seen.ensures

pub returns : goal.returns
returns c =
    let a = c.args in
    let e : c.loop-i.i ≡ 0 = omega arith in
    let place = rw e at c.loop-i.invariant.place in
    (place, omega (arith, place, highest_below (Score a.scratch.now a.b) (a.n - 1)))
