-- `placements::turned_copy` meets its contract, which goes by the same test. Assumes nothing.
use Rattle.placements.specs.Copies.{turned_copy}
use Rattle.placements.proofs.turned_copy.Goals as goal

pub returns-then-roll_rad : goal.returns-then-roll_rad
unfolding turned_copy
returns-then-roll_rad c = rw c.if-roll_rad.true

pub returns : goal.returns
unfolding turned_copy
returns c = rw c.if-roll_rad.false c.rolled.ensures
