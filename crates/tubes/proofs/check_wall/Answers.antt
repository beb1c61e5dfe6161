-- `tubes::check_wall` meets its contract, by what the calls ensure. Assumes nothing.
use Rattle.tubes.proofs.check_wall.Goals as goal

pub returns : goal.returns
returns c = rw (c.refuse_unless.ensures, c.length_within.ensures)
