-- `tolerance::larger` meets its contract: a score is never a NaN, so one test decides. Assumes nothing.
use Rattle.tolerance.proofs.Numbers.{larger_above, larger_not}
use Rattle.tolerance.proofs.larger.Goals as goal

pub returns-then-score-ratio : goal.returns-then-score-ratio
returns-then-score-ratio c = larger_above _ _ c.requires c.if-score-ratio.true
