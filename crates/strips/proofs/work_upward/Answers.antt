-- `strips::work_upward` meets its contract: the strips left from each break height on make up the run. Assumes nothing.
use Rattle.std.proofs.Common.{◌≡◌, ℕ, ◌+◌, ◌-◌, ◌<◌, ◌≤◌, length, sym, subst, ◌∙◌, arith}
use borrow.Author.Tests.{not-true, not-false}
use Rattle.integrands.specs.Integrands.{sample_of}
use Rattle.strips.proofs.Upward.{State, begin, end, goes_on, ends_here}
use Rattle.strips.proofs.work_upward.Goals as goal

pub loop-i-init : goal.loop-i-init
loop-i-init c = begin _ _ _ _ _

pub work_strip-total-requires : goal.work_strip-total-requires
work_strip-total-requires c =
    let pre = c.requires in
    (rw c.loop-i.invariant.long pre.0, omega arith, pre.1)

pub shape_of-scratch-then-not-is_accepted : goal.shape_of-scratch-then-not-is_accepted
shape_of-scratch-then-not-is_accepted c =
    c.work_strip-total.auto.scratch ∙ c.loop-i.invariant.long

pub returns-then-not-is_accepted : goal.returns-then-not-is_accepted
returns-then-not-is_accepted c =
    let pre = c.requires in
    let strip : c.loop-i.i - 1 + 1 < length c.args.heights.now = omega arith in
    ends_here _ _ _ _ _ _ _ _ _ c.loop-i.invariant pre.0.0 pre.0.1 strip pre.1
    c.work_strip-total.auto.scratch _ c.work_strip-total.ensures
    (sym c.is_accepted.ensures ∙ not-true _ c.if-not-is_accepted.true-raw)

pub loop-i-preserved : goal.loop-i-preserved
loop-i-preserved c =
    let pre = c.requires in
    let a = c.args in
    let strip : c.loop-i.i - 1 + 1 < length a.heights.now = omega arith in
    let next : c.loop-i.i - 1 + 1 ≡ c.loop-i.i + 1 - 1 = omega arith in
    let total = c.work_strip-total in
    subst (λ (i : ℕ). State (sample_of a.integrand a.points.now) a.limit a.integrand.scale a.heights.now a.scratch.now
    total.new.scratch total.result i) next
    (goes_on _ _ _ _ _ _ _ _ _ c.loop-i.invariant pre.0.0 pre.0.1 strip pre.1
    c.work_strip-total.auto.scratch _ c.work_strip-total.ensures
    (sym c.is_accepted.ensures ∙ not-false _ c.if-not-is_accepted.false-raw))

pub shape_of-scratch : goal.shape_of-scratch
shape_of-scratch c = c.loop-i.invariant.long

pub returns : goal.returns
returns c =
    let none : length c.args.heights.now ≤ c.loop-i.i - 1 + 1 = omega arith in
    end _ _ _ _ _ _ _ _ c.loop-i.invariant none
