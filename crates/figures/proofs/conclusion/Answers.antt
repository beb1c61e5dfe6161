-- `figures::conclusion` meets its contract, by what the calls ensure. Assumes nothing.
use Rattle.figures.proofs.conclusion.Goals as goal

pub returns : goal.returns
returns c = rw (c.first_refusal.ensures, c.check_size.ensures, c.verdict_of.ensures)
