-- `placements::count_places` meets its contract, which goes by the same test. Assumes nothing.
use Rattle.placements.proofs.count_places.Goals as goal

pub returns-then-rolled : goal.returns-then-rolled
returns-then-rolled c = rw c.if-rolled.true

pub returns : goal.returns
returns c = rw c.if-rolled.false
