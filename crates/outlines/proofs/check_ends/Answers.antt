-- `outlines::check_ends` meets its contract, by what the calls ensure. Assumes nothing.
use Rattle.outlines.proofs.check_ends.Goals as goal

pub returns : goal.returns
returns c =
    rw (c.refuse_unless.ensures, c.point_at-last.ensures, c.point_at-first.ensures)
