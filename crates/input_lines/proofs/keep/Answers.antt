-- `input_lines::keep` meets its contract: it copies the bytes that there is room for. Assumes nothing.
use Rattle.input_lines.proofs.Keeping.{more_kept}
use Rattle.input_lines.proofs.keep.Goals as goal

pub returns : goal.returns
returns c =
    rw c.copy_from_slice.ensures.after
    (more_kept c.args.buffer.now _ c.args.line.now c.args.s _ c.requires.0 c.requires.1 c.min-n.ensures)
