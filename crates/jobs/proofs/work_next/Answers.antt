-- `jobs::work_next` meets its contract: the points are those of the record. Assumes nothing.
use mathlib.Core.Path.{sym}
use native.Mathlib.Omega.{arith}
use lib.Seq.{length-take-le}
use Rattle.jobs.proofs.Lengths.{outline_length}
use Rattle.jobs.proofs.Copies.{held_most}
use Rattle.jobs.proofs.Laws.{same_copy}
use Rattle.jobs.proofs.work_next.Goals as goal

pub slice_bounds-numbers-end : goal.slice_bounds-numbers-end
slice_bounds-numbers-end c =
    let job = c.args.job in
    omega (arith, c.held-n.ensures, outline_length job _ c.well_formed.0, held_most job.points.count)

pub slice_bounds-work_from-end : goal.slice_bounds-work_from-end
slice_bounds-work_from-end c = sym
    (length-take-le _ _ (omega (arith, c.held-n.ensures, outline_length c.args.job _ c.well_formed.0, held_most c.args.job.points.count)))

pub returns : goal.returns
returns c =
    let job = c.args.job in
    same_copy job c.held-n.result c.held-n.ensures _ _ _ c.work_from.ensures
