-- `explanations::put_kept` meets its contract: by whether there were more bytes, and by the length of what is kept. Assumes nothing.
use borrow.Author.Tests.{lt-ltb, le-ltb}
use lib.ListN.{length}
use Rattle.tokens.specs.Tokens.{line_bytes}
use Rattle.explanations.specs.Faults.{fault_of}
use Rattle.explanations.specs.Explanations.{explained, too_long, explanation_of}
use Rattle.explanations.proofs.Wanting.{by_true, by_false}
use Rattle.explanations.proofs.put_kept.Goals as goal

pub returns-then-line-gt-LINE_BYTES : goal.returns-then-line-gt-LINE_BYTES
unfolding explanation_of
returns-then-line-gt-LINE_BYTES c =
    let line = c.args.line.now in
    by_false too_long c.if-over.false
    (by_true (explained line (fault_of line)) (lt-ltb line_bytes (length line) c.if-line-gt-LINE_BYTES.true)
    c.put_long-then-line-gt-LINE_BYTES.ensures)

pub returns : goal.returns
unfolding explanation_of
returns c =
    let line = c.args.line.now in
    by_false too_long c.if-over.false
    (by_false too_long (le-ltb line_bytes (length line) c.if-line-gt-LINE_BYTES.false)
    c.put_explained.ensures)
