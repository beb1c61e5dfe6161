-- `drill::steps_of` meets its contract: after i turns the first i places hold the first i coordinates in steps. Assumes nothing.
use mathlib.Core.List.{map}
use mathlib.Core.Path.{sym, ◌∙◌}
use Prim.Native.Nat.{◌≤◌, ◌<◌}
use native.Mathlib.Omega.{arith}
use lib.IntN.{pos}
use lib.ListN.{length, get_or, take, length-map, length-set}
use lib.Seq.{ext_get_or, get_or-take, length-take-le}
use Rattle.floats.proofs.Filled.{one_filled}
use Rattle.polygons.proofs.Sizes.{result_back}
use Rattle.steps.specs.Steps.{exact_of, steps_of}
use Rattle.drill.proofs.Reach.{steps_at}
use Rattle.drill.proofs.steps_of.Goals as goal
use Rattle.drill.proofs.steps_of.Invariants.{in_steps_lem}

pub loop-i-preserved : goal.loop-i-preserved
loop-i-preserved c =
    let points = c.args.points.now in
    let i = c.loop-i.i in
    let inv = c.loop-i.invariant in
    let room : i < length c.loop-i.corners = omega (arith, c.requires.1) in (
      simp length-set inv.0,
      one_filled (pos 0) (λ k. get_or (in_steps_lem points) k (pos 0)) c.loop-i.corners i _ room inv.1
          (result_back c.steps.result c.steps.type_inv ∙ c.steps.ensures ∙ sym (steps_at points i)),
    )

pub returns : goal.returns
returns c =
    let points = c.args.points.now in
    let n = length points in
    let corners = c.loop-i.corners in
    let inv = c.loop-i.invariant in
    let fits : n ≤ length corners = omega (arith, c.requires.1) in
    let taken = length-take-le n corners fits in
    ext_get_or (pos 0) (take n corners) (in_steps_lem points)
    (taken ∙ sym (length-map (map exact_of points) steps_of ∙ length-map points exact_of))
    (λ k h. let l : k < n = omega arith in get_or-take n corners k (pos 0) l ∙ inv.1 k (omega arith))
