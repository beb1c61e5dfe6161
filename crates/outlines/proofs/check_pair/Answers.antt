-- `outlines::check_pair` meets its contract, which goes by the same test first. Assumes nothing.
use Rattle.outlines.proofs.check_pair.Goals as goal

pub returns-then-j-i : goal.returns-then-j-i
returns-then-j-i c = rw c.if-j-i.true

pub returns : goal.returns
returns c = rw (
  c.refuse_when.ensures,
  c.segments_touch-touch.ensures,
  c.edge_at-2.ensures,
  c.edge_at.ensures,
  c.if-j-i.false,
)
