-- `jobs::after_strip` meets its contract: it goes on, or ends. Assumes nothing.
use mathlib.Core.Path.{sym, ◌∙◌}
use native.Mathlib.Omega.{arith}
use lib.Seq.{length-take-le}
use Rattle.jobs.proofs.Laws.{both_told, after_more, ends_so}
use Rattle.jobs.proofs.Lengths.{outline_length}
use Rattle.jobs.proofs.Copies.{held_most}
use Rattle.jobs.proofs.after_strip.Goals as goal

pub returns-then-accepted-onward : goal.returns-then-accepted-onward
returns-then-accepted-onward c = c.go_on.ensures
    ∙ sym (after_more _ _ (both_told _ _ _ c.is_accepted-accepted.ensures c.if-accepted-onward.true))

pub slice_bounds-numbers-end : goal.slice_bounds-numbers-end
slice_bounds-numbers-end c =
    let job = c.args.job in
    omega (arith, c.held-n.ensures, outline_length job _ c.well_formed.0, held_most job.points.count)

pub slice_bounds-conclude-end : goal.slice_bounds-conclude-end
slice_bounds-conclude-end c = sym
    (length-take-le _ _ (omega (arith, c.held-n.ensures, outline_length c.args.job _ c.well_formed.0, held_most c.args.job.points.count)))

pub returns : goal.returns
returns c =
    let a = c.args in
    ends_so a.job a.onward c.held-n.result c.held-n.ensures c.conclude-figures.result c.conclude-figures.ensures _
    c.end.ensures
    (both_told _ _ _ c.is_accepted-accepted.ensures c.if-accepted-onward.false)
