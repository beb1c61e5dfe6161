-- `lent_jobs::counts_of` meets its contract. Assumes nothing.
use Rattle.lent_jobs.proofs.counts_of.Goals as goal

pub returns : goal.returns
returns c =
    rw (c.verdict_number.ensures, c.flag_of.ensures, c.verdict_values-values.ensures, c.counts_of-s.ensures)
