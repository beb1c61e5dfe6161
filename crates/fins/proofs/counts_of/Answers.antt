-- `fins::counts_of` meets its contract: each part has its number. Assumes nothing.
use Rattle.fins.proofs.counts_of.Goals as goal

pub returns : goal.returns
returns c =
    rw (
      c.number_of-3.ensures,
      c.number_of-2.ensures,
      c.tab_number.ensures,
      c.from.ensures,
      c.number_of.ensures,
    )
