-- `lent_engines::counts_of` meets its contract. Assumes nothing.
use Rattle.lent_engines.proofs.counts_of.Goals as goal

pub returns : goal.returns
returns c = rw (
  c.flag_of-8.ensures,
  c.flag_of-7.ensures,
  c.flag_of-6.ensures,
  c.flag_of-5.ensures,
  c.flag_of-4.ensures,
  c.flag_of-3.ensures,
  c.flag_of-2.ensures,
  c.flag_of.ensures,
)
