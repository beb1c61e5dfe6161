-- `tolerance::component` meets its contract: place by place. Assumes nothing.
use mathlib.Core.Path.{ap}
use Prim.Native.Nat.{ℕ}
use lib.Ieee.{Float}
use Rattle.floats.specs.Operations.{◌⊘◌, at}
use Rattle.tolerance.specs.declared.Highest.{Highest}
use Rattle.tolerance.proofs.Places.{highest_first, highest_next}
use Rattle.tolerance.proofs.component.Goals as goal

pub returns : goal.returns
returns c =
    let g : ℕ → Float = λ k. at c.args.e k ⊘ at c.args.b k in
    let e1 = highest_next g 0 _ _ (highest_first g) c.higher-h1.ensures in
    let e2 = highest_next g 1 _ _ (e1) c.higher-h2.ensures in
    let e3 = highest_next g 2 _ _ (e2) c.higher-h3.ensures in
    let e4 = highest_next g 3 _ _ (e3) c.higher-h4.ensures in
    let e5 = highest_next g 4 _ _ (e4) c.higher-h5.ensures in
    let e6 = highest_next g 5 _ _ (e5) c.higher-h6.ensures in
    ap (λ (h : Highest). h.place) e6
