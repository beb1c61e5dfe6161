-- `inputs::answer_kept` meets its contract: the test is the definition's. Assumes nothing.
use Rattle.lines.specs.Lines.{Fits, lent_in}
use Rattle.inputs.proofs.answer_kept.Goals as goal

pub returns-else-s : goal.returns-else-s
returns-else-s c =
    let e = c.if-s.false in
    let lent = lent_in c.args.scratch.now c.args.engine_numbers.now c.args.engine_counts.now in
    let fits : Fits lent c.args.out.now c.args.n =
    record { answer = c.requires.1; engine = c.requires.0.engine } in
    let p = c.answer_line.ensures in
    record { appended = rw e (p.answer fits); leaves = rw e (p.left fits).memory_left }
