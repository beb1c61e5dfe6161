-- `drill::drill_outline` meets its contract: the corners in steps are the array's first numbers. Assumes nothing.
use mathlib.Core.List.{map}
use mathlib.Core.Path.{ap, ◌∙◌}
use Prim.Native.Nat.{suc}
use native.Mathlib.Omega.{arith}
use lib.ListN.{length-map}
use Rattle.steps.specs.Steps.{exact_of, steps_of}
use Rattle.std.specs.Prelude.{Ok}
use Rattle.drill.specs.declared.Place.{Place}
use Rattle.drill.proofs.Reach.{all_reach, steps_back, steps_reach}
use Rattle.drill.proofs.Wholes.{outline_tested, refused, placed}
use Rattle.drill.proofs.drill_outline.Goals as goal

pub is_whole-requires-2 : goal.is_whole-requires-2
is_whole-requires-2 c = c.requires.0 1 (omega arith)

pub are_whole-requires : goal.are_whole-requires
are_whole-requires c = λ k h. c.requires.0 (suc (suc k)) (omega arith)

pub returns-then-not-is_whole-are_whole : goal.returns-then-not-is_whole-are_whole
returns-then-not-is_whole-are_whole c =
    refused _ _ _ (outline_tested _ _ _ c.is_whole.ensures c.is_whole-2.ensures c.are_whole.ensures) c.if-not-is_whole-are_whole.true-raw

pub steps_of-corners-requires : goal.steps_of-corners-requires
steps_of-corners-requires c = (λ k h. c.requires.0 (suc (suc k)) (omega arith), c.requires.1)

pub steps-requires-2 : goal.steps-requires-2
steps-requires-2 c = c.requires.0 1 (omega arith)

pub located-requires : goal.located-requires
located-requires c =
    let points = c.args.points.now in
    let corners = c.steps_of-corners.ensures in
    let x = c.steps in
    let height = c.steps-2 in (
      rw (corners, length-map (map exact_of points) steps_of, length-map points exact_of) c.requires.2,
      record {
        all = rw corners (all_reach points (λ k h. c.requires.0 (suc (suc k)) (omega arith)));
        across = steps_reach _ x.type_inv x.ensures (c.requires.0 0 (omega arith));
        up = steps_reach _ height.type_inv height.ensures (c.requires.0 1 (omega arith));
      },
    )

pub returns : goal.returns
returns c =
    let x = c.steps in
    let height = c.steps-2 in
    ap (λ (place : Place). Ok place) c.located.ensures
    ∙ placed _ _ _ (outline_tested _ _ _ c.is_whole.ensures c.is_whole-2.ensures c.are_whole.ensures)
    c.if-not-is_whole-are_whole.false-raw c.steps_of-corners.ensures (steps_back x.type_inv x.ensures)
    (steps_back height.type_inv height.ensures)
