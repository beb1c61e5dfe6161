-- `shown_lines::put_made` meets its contract: each arm knows its maker. Assumes nothing.
use native.Mathlib.Omega.{arith}
use Rattle.shown_lines.proofs.put_made.Goals as goal

pub put_numbered-requires : goal.put_numbered-requires
put_numbered-requires c =
    let h = c.requires in omega (arith, h)

pub returns-in-Blocks : goal.returns-in-Blocks
returns-in-Blocks c =
    rw c.in-Blocks.is c.put_numbered.ensures

pub returns-in-Explanations : goal.returns-in-Explanations
returns-in-Explanations c =
    rw c.in-Explanations.is
    (c.put_numbered-in-Explanations.ensures
    (let h = c.requires in omega (arith, h)))
