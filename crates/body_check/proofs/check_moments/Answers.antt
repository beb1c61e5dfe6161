-- `body_check::check_moments` meets its contract, which goes by the same tests. Assumes nothing.
use Rattle.body_check.proofs.check_moments.Goals as goal

pub returns-then-moments-tolerance : goal.returns-then-moments-tolerance
returns-then-moments-tolerance c = rw c.if-moments-tolerance.true c.refused.ensures

pub returns-then-moments-tolerance-2 : goal.returns-then-moments-tolerance-2
returns-then-moments-tolerance-2 c =
    rw (c.if-moments-tolerance.false, c.if-moments-tolerance-2.true) c.refused-then-moments-tolerance-2.ensures

pub returns : goal.returns
returns c = rw (c.if-moments-tolerance.false, c.if-moments-tolerance-2.false)
