-- `tubes::tube_at` meets its contract, by what the calls ensure. Assumes nothing.
use Rattle.tubes.specs.Tubes.{tube_at}
use Rattle.tubes.proofs.tube_at.Goals as goal

pub returns : goal.returns
unfolding tube_at
returns c = rw (c.translated.ensures, c.hollow_cylinder.ensures, c.figure_of-kg_m3.ensures)
