-- `fins::numbers_of` meets its contract: each part is written. Assumes nothing.
use Rattle.fins.proofs.numbers_of.Goals as goal

pub returns : goal.returns
returns c =
    rw (c.figures_of-f.ensures, c.tab_figures-t.ensures, c.figure_of-plate.ensures, c.lengths_of-l.ensures)
