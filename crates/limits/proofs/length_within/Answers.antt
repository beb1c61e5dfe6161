-- `limits::length_within` meets its contract, by what `abs` ensures. Assumes nothing.
use Rattle.limits.specs.Limits.{length_within}
use Rattle.limits.proofs.length_within.Goals as goal

pub returns : goal.returns
unfolding length_within
returns c = rw c.abs-magnitude_m.ensures
