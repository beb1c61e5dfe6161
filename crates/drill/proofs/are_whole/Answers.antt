-- `drill::are_whole` meets its contract: after i turns the first i coordinates are looked at. Assumes nothing.
use mathlib.Core.Bool.{Bool, ◌&&◌}
use mathlib.Core.Path.{◌≡◌, refl, sym, ap, ◌∙◌}
use Prim.Native.Nat.{ℕ, ◌+◌}
use native.Mathlib.Numerals.{add-one}
use native.Mathlib.Omega.{arith}
use lib.ListN.{length, length-map, get_or-map}
use lib.Ieee.{nan}
use Rattle.floats.specs.Operations.{every}
use Rattle.steps.specs.Steps.{exact_of, is_whole}
use Rattle.drill.specs.Drill.{are_whole}
use Rattle.drill.proofs.are_whole.Goals as goal
use Rattle.drill.proofs.are_whole.Invariants.{at_place}

one_more : (p : ℕ → Bool) (i : ℕ) (a t : Bool) → a ≡ every i p → t ≡ p i → (a && t) ≡ every (i + 1) p
unfolding every
one_more p i a t e f = rw (e, f) (sym (ap (λ (n : ℕ). every n p) (add-one i)))

pub loop-point-init : goal.loop-point-init
unfolding every
loop-point-init c = refl

pub loop-point-preserved : goal.loop-point-preserved
loop-point-preserved c =
    let i = c.loop-point.point-index in
    one_more _ i _ _ c.loop-point.invariant
    (c.is_whole-whole.ensures
    ∙ ap is_whole (sym (get_or-map exact_of c.args.points.now i nan)))

pub returns : goal.returns
unfolding are_whole
returns c =
    let points = c.args.points.now in
    let all : c.loop-point.point-index ≡ length points = omega arith in
    c.loop-point.invariant ∙ ap (λ (n : ℕ). every n (at_place points)) (all ∙ sym (length-map points exact_of))
