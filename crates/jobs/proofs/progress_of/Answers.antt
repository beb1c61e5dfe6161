-- `jobs::progress_of` meets its contract: the strips below the next one's lower end, of the break heights of the
-- record's own copy. Assumes nothing.
use mathlib.Core.Path.{sym}
use native.Mathlib.Omega.{arith}
use lib.Seq.{length-take-le}
use Rattle.jobs.proofs.Lengths.{outline_length}
use Rattle.jobs.proofs.Copies.{held_most}
use Rattle.jobs.proofs.Below.{some_break, few_breaks, progress_read_lem}
use Rattle.jobs.proofs.progress_of.Goals as goal

pub slice_bounds-numbers-end : goal.slice_bounds-numbers-end
slice_bounds-numbers-end c =
    let job = c.args.job in
    omega (arith, c.held-n.ensures, outline_length job _ c.well_formed.0, held_most job.points.count)

pub slice_bounds-height_at-end : goal.slice_bounds-height_at-end
slice_bounds-height_at-end c = sym
    (length-take-le _ _ (omega (arith, c.held-n.ensures, outline_length c.args.job _ c.well_formed.0, held_most c.args.job.points.count)))

pub slice_bounds-numbers-end-2 : goal.slice_bounds-numbers-end-2
slice_bounds-numbers-end-2 c =
    omega (arith, c.held-n.ensures, outline_length c.args.job _ c.well_formed.0, held_most c.args.job.points.count)

pub slice_bounds-break_heights-end : goal.slice_bounds-break_heights-end
slice_bounds-break_heights-end c = sym
    (length-take-le _ _ (omega (arith, c.held-n.ensures, outline_length c.args.job _ c.well_formed.0, held_most c.args.job.points.count)))

pub slice_bounds-heights-end : goal.slice_bounds-heights-end
slice_bounds-heights-end c = (few_breaks _ _ _ c.break_heights-breaks.ensures).0

pub slice_bounds-count_below-end : goal.slice_bounds-count_below-end
slice_bounds-count_below-end c = sym (length-take-le _ _ (few_breaks _ _ _ c.break_heights-breaks.ensures).0)

pub count_below-worked-requires : goal.count_below-worked-requires
count_below-worked-requires c =
    let breaks = c.break_heights-breaks in
    let few = few_breaks _ _ _ breaks.ensures in
    omega (arith, length-take-le breaks.result.count breaks.result.heights few.0, few.1)

pub overflow_sub-result : goal.overflow_sub-result
overflow_sub-result c = some_break _ _ _ c.break_heights-breaks.ensures

pub returns : goal.returns
returns c =
    let job = c.args.job in
    progress_read_lem job c.held-n.result c.held-n.ensures c.height_at-next.result c.break_heights-breaks.result
    c.count_below-worked.result
    c.height_at-next.ensures c.break_heights-breaks.ensures c.count_below-worked.ensures
