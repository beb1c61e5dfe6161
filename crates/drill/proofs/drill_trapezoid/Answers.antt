-- `drill::drill_trapezoid` meets its contract: the corners are whole where the four lengths are. Assumes nothing.
use mathlib.Core.List.{◌∷◌, []}
use mathlib.Core.Path.{ap, ◌∙◌}
use native.Mathlib.Omega.{arith}
use Rattle.std.specs.Prelude.{Ok}
use Rattle.drill.specs.declared.Place.{Place}
use Rattle.drill.proofs.Reach.{four, trapezoid_reach, steps_back, steps_reach}
use Rattle.drill.proofs.Wholes.{trapezoid_tested, tip_whole, refused, placed}
use Rattle.drill.proofs.drill_trapezoid.Goals as goal

pub returns-then-not-point-tip : goal.returns-then-not-point-tip
returns-then-not-point-tip c =
    refused _ _ _
    (trapezoid_tested _ _ _ _ _ _ c.is_whole.ensures c.is_whole-2.ensures c.is_whole-3.ensures c.is_whole-4.ensures c.is_whole-5.ensures
    c.is_whole-6.ensures)
    c.if-not-point-tip.true-raw

pub trapezoid_corners-corners-requires : goal.trapezoid_corners-corners-requires
trapezoid_corners-corners-requires c =
    let a = c.args in
    let w = tip_whole _ _ _ _ _ _ c.is_whole.ensures c.is_whole-2.ensures c.is_whole-3.ensures c.is_whole-4.ensures c.is_whole-5.ensures
    c.is_whole-6.ensures c.if-not-point-tip.false-raw in (
      four a.root_chord_m a.tip_chord_m a.span_m a.sweep_m a.x_m a.height_m c.requires,
      w.0,
      w.1,
    )

pub located-requires : goal.located-requires
located-requires c =
    let a = c.args in
    let corners = c.trapezoid_corners-corners in
    let x = c.steps in
    let height = c.steps-2 in
    let w = tip_whole _ _ _ _ _ _ c.is_whole.ensures c.is_whole-2.ensures c.is_whole-3.ensures c.is_whole-4.ensures c.is_whole-5.ensures
    c.is_whole-6.ensures c.if-not-point-tip.false-raw in (
      rw corners.ensures (omega arith),
      record {
        all = rw corners.ensures
            (trapezoid_reach a.root_chord_m a.tip_chord_m a.span_m a.sweep_m (a.x_m ∷ a.height_m ∷ []) c.requires w.0
            w.1);
        across = steps_reach _ x.type_inv x.ensures (c.requires 4 (omega arith));
        up = steps_reach _ height.type_inv height.ensures (c.requires 5 (omega arith));
      },
    )

pub returns : goal.returns
returns c =
    let x = c.steps in
    let height = c.steps-2 in
    ap (λ (place : Place). Ok place) c.located.ensures
    ∙ placed _ _ _
    (trapezoid_tested _ _ _ _ _ _ c.is_whole.ensures c.is_whole-2.ensures c.is_whole-3.ensures c.is_whole-4.ensures c.is_whole-5.ensures
    c.is_whole-6.ensures)
    c.if-not-point-tip.false-raw c.trapezoid_corners-corners.ensures (steps_back x.type_inv x.ensures)
    (steps_back height.type_inv height.ensures)
