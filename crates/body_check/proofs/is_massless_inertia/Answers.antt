-- `body_check::is_massless_inertia` meets its contract: past the first test the second decides. Assumes nothing.
use Rattle.body_check.proofs.is_massless_inertia.Goals as goal

pub returns-then-mass : goal.returns-then-mass
returns-then-mass c = rw c.if-mass.true

pub returns-else-mass : goal.returns-else-mass
returns-else-mass c = rw c.if-mass.false
