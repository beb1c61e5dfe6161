-- `strips::work_strips` meets its contract: the heights handed on are the planform's break heights, two or a list of them. Assumes nothing.
use Rattle.std.proofs.Common.{List, ◌∷◌, length, sym, ap, ◌∙◌, arith, []}
use lib.Ieee.{Float}
use Rattle.floats.specs.Operations.{bits}
use Rattle.strips.proofs.Upward.{same_heights}
use Rattle.breaks.proofs.Listed.{most_breaks, two_heights, heights_taken, heights_count, heights_room}
use Rattle.strips.proofs.work_strips.Goals as goal

pub returns-then-is_one_strip : goal.returns-then-is_one_strip
returns-then-is_one_strip c =
    let a = c.args in
    let two = ap (λ (x : Float). bits 0 ∷ x ∷ []) c.span_m.ensures
    ∙ sym (two_heights a.integrand.planform a.points.now (sym c.is_one_strip.ensures ∙ c.if-is_one_strip.true)) in
    same_heights _ _ _ _ _ _ two c.work_upward.ensures

pub slice_bounds-heights-end : goal.slice_bounds-heights-end
slice_bounds-heights-end c =
    let a = c.args in
    omega (
      arith,
      heights_count a.integrand.planform a.points.now c.break_heights-breaks.result c.break_heights-breaks.ensures,
      heights_room a.integrand.planform a.points.now c.break_heights-breaks.result c.break_heights-breaks.ensures,
      most_breaks
          a.integrand.planform a.points.now,
    )

pub slice_bounds-work_upward-end-2 : goal.slice_bounds-work_upward-end-2
slice_bounds-work_upward-end-2 c =
    let a = c.args in
    heights_count a.integrand.planform a.points.now c.break_heights-breaks.result c.break_heights-breaks.ensures
    ∙ sym (ap (λ (l : List Float). length l)
    (heights_taken a.integrand.planform a.points.now c.break_heights-breaks.result c.break_heights-breaks.ensures))

pub work_upward-requires-2 : goal.work_upward-requires-2
work_upward-requires-2 c =
    let a = c.args in
    let few = most_breaks a.integrand.planform a.points.now in
    let taken = heights_taken a.integrand.planform a.points.now c.break_heights-breaks.result c.break_heights-breaks.ensures in
    (c.requires, rw taken (omega (arith, few)))

pub returns : goal.returns
returns c =
    let a = c.args in
    same_heights _ _ _ _ _ _
    (heights_taken a.integrand.planform a.points.now c.break_heights-breaks.result c.break_heights-breaks.ensures)
    c.work_upward-2.ensures
