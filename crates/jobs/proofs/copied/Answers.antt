-- `jobs::copied` meets its contract: the outline's numbers over zeros. Assumes nothing.
use Rattle.jobs.proofs.Copies.{copied_points}
use Rattle.jobs.proofs.copied.Goals as goal

pub returns : goal.returns
returns c = copied_points _ _ _ c.held-n.ensures c.copy_from_slice.ensures.after
