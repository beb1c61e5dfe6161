-- `outlines::check_twice_area` meets its contract, by what the calls ensure. Assumes nothing.
use Rattle.outlines.proofs.check_twice_area.Goals as goal

pub returns : goal.returns
returns c = rw (c.refuse_when.ensures, c.twice_area.ensures)
