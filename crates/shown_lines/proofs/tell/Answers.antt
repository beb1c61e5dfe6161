-- `shown_lines::tell` meets its contract: nothing, or the one line. Assumes nothing.
use Rattle.tokens.specs.Text.{text, codes}
use Rattle.texts.proofs.Appending.{nothing}
use Rattle.shown_lines.specs.Program.{told}
use Rattle.shown_lines.proofs.tell.Goals as goal

pub returns-then-shown : goal.returns-then-shown
unfolding told
returns-then-shown c =
    rw c.if-shown.true (nothing c.args.out.now 0)

pub returns-in-Blocks : goal.returns-in-Blocks
unfolding told text codes
returns-in-Blocks c =
    rw (
      c.if-shown.false,
      c.in-Blocks.is,
    ) c.put_bytes.ensures

pub returns-in-Explanations : goal.returns-in-Explanations
unfolding told text codes
returns-in-Explanations c =
    rw (
      c.if-shown.false,
      c.in-Explanations.is,
    ) c.put_bytes-in-Explanations.ensures
