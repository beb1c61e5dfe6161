-- `lent_jobs::worked_numbers` meets its contract. Assumes nothing.
use Rattle.lent_jobs.proofs.worked_numbers.Goals as goal

pub returns : goal.returns
returns c = rw c.numbers-b.ensures
