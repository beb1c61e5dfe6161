-- `blocks::filling::largest_from` meets its contract: each magnitude is the definition's. Assumes nothing.
use Rattle.blocks.proofs.filling.largest_from.Goals as goal

pub returns : goal.returns
returns c =
    rw (
      c.max-2.ensures,
      c.max.ensures,
      c.abs-z.ensures,
      c.figure_at-3.ensures,
      c.abs-y.ensures,
      c.figure_at-2.ensures,
      c.abs-x.ensures,
      c.figure_at.ensures,
    )
