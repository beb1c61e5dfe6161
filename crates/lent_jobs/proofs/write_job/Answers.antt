-- `lent_jobs::write_job` meets its contract: three lists over the numbers and one over the counts. Assumes nothing.
use mathlib.Core.Path.{sym}
use native.Mathlib.Omega.{arith}
use Rattle.lent_jobs.proofs.Laws.{job_written}
use Rattle.lent_jobs.proofs.Sized.{sized}
use Rattle.lent_jobs.proofs.write_job.Goals as goal

pub slice_bounds-write_over-end-3 : goal.slice_bounds-write_over-end-3
slice_bounds-write_over-end-3 c =
    sym (sized c.args.job _ c.well_formed.1.1.0).outline

pub write_over-requires-3 : goal.write_over-requires-3
write_over-requires-3 c =
    let outline = (sized c.args.job _ c.well_formed.1.1.0).outline in
    omega (arith, outline, c.write_over.auto.list, c.write_over-2.auto.list, c.requires.0)

pub returns : goal.returns
returns c =
    job_written c.args.job (sized c.args.job _ c.well_formed.1.1.0) _ _ _ _ _ _ _ _ _
    c.numbers_of-of_set.ensures c.write_over.ensures c.worked_numbers-worked.ensures c.write_over-2.ensures
    c.write_over-3.ensures
    c.counts_of-of_job.ensures c.write_over-4.ensures
