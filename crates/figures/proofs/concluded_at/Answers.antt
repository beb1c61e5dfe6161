-- `figures::concluded_at` meets its contract, by what the calls ensure. Assumes nothing.
use Rattle.figures.proofs.concluded_at.Goals as goal

pub returns : goal.returns
returns c = rw (c.concluded.ensures, c.root_chord_m-root_chord_m.ensures, c.scale_m-scale_m.ensures)
