-- `placements::is_whole_list` meets its contract, which goes by the same test. Assumes nothing.
use Rattle.placements.proofs.is_whole_list.Goals as goal

pub returns-then-rolled : goal.returns-then-rolled
returns-then-rolled c = rw c.if-rolled.true

pub returns : goal.returns
returns c = rw c.if-rolled.false
