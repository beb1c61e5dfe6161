-- `blocks::put_block` meets its contract: shape, figures and counts are the line's. Assumes nothing.
use mathlib.Core.Path.{sym}
use native.Mathlib.Omega.{arith}
use lib.Seq.{length-take-le}
use Rattle.tokens.specs.Text.{text, codes}
use Rattle.blocks.proofs.Said.{long_line, answer_line}
use Rattle.blocks.proofs.put_block.Goals as goal

pub returns-then-line-gt-LONGEST : goal.returns-then-line-gt-LONGEST
unfolding text codes
returns-then-line-gt-LONGEST c =
    long_line c.args.line.now _ _ _ _ c.if-line-gt-LONGEST.true c.put_bytes.ensures

pub slice_bounds-put_shown-end : goal.slice_bounds-put_shown-end
slice_bounds-put_shown-end c =
    let h = c.if-line-gt-LONGEST.false in
    let b = c.read_answer-r.ensures.bytes_fit in
    let l = c.read_answer-r.auto.shape in
    sym (length-take-le c.read_answer-r.result.bytes c.read_answer-r.new.shape (omega (arith, h, b, l)))

pub slice_bounds-put_shown-end-2 : goal.slice_bounds-put_shown-end-2
slice_bounds-put_shown-end-2 c =
    let h = c.if-line-gt-LONGEST.false in
    let b = c.read_answer-r.ensures.figures_fit in
    let l = c.read_answer-r.auto.figures in
    sym (length-take-le c.read_answer-r.result.figures c.read_answer-r.new.figures (omega (arith, h, b, l)))

pub slice_bounds-put_shown-end-3 : goal.slice_bounds-put_shown-end-3
slice_bounds-put_shown-end-3 c =
    let h = c.if-line-gt-LONGEST.false in
    let b = c.read_answer-r.ensures.counts_fit in
    let l = c.read_answer-r.auto.counts in
    sym (length-take-le c.read_answer-r.result.counts c.read_answer-r.new.counts (omega (arith, h, b, l)))

pub returns : goal.returns
returns c =
    answer_line c.args.line.now c.read_answer-r.result _ _ _ _ _ _ _ c.if-line-gt-LONGEST.false
    c.read_answer-r.ensures c.put_shown.ensures
