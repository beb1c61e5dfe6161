-- `breaks::break_heights` meets its contract: the heights stand sorted, the span and 0 go in, and equal ones are kept
-- once. Assumes nothing.
use mathlib.Core.Path.{refl, ◌∙◌}
use native.Mathlib.Omega.{arith}
use Rattle.breaks.proofs.Kept.{within, both}
use Rattle.breaks.proofs.break_heights.Goals as goal

pub insert-requires : goal.insert-requires
insert-requires c =
    let a = c.args in
    let b = within a.planform a.points.now _ _ c.put_heights-n.ensures in
    omega arith

pub insert-requires-2 : goal.insert-requires-2
insert-requires-2 c =
    let a = c.args in
    let b = within a.planform a.points.now _ _ c.put_heights-n.ensures in
    omega arith

pub distinct-requires : goal.distinct-requires
distinct-requires c =
    let a = c.args in
    let b = within a.planform a.points.now _ _ c.put_heights-n.ensures in
    (omega arith, omega arith, omega arith)

pub returns : goal.returns
returns c =
    let in-0 = c.before.before.before in
    let in_span = in-0.before.before.before in
    let put = in_span.before.before in
    let a = c.args in
    c.distinct.ensures
    ∙ both a.planform a.points.now _ _ _ _ _ c.span_m-span.result c.span_m-span.ensures refl c.put_heights-n.ensures
    c.insert.ensures c.insert-2.ensures
