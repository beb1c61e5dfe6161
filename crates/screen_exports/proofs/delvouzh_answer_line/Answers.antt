-- `screen_exports::delvouzh_answer_line` meets its contract: there is no room, or the answer and its length are written. Assumes nothing.
use Prim.Native.Nat.{◌≤◌}
use lib.ListN.{length}
use Rattle.answers.specs.Answers.{answer_bytes}
use Rattle.lines.specs.Lines.{lent_in}
use Rattle.refusals.proofs.Lists.{one_written}
use Rattle.screen_exports.proofs.Laws.{enough, fits_not, fits, told_fits}
use Rattle.screen_exports.proofs.LineLaws.{line_refused, line_written}
use borrow.Author.Rules.{rules}
use Rattle.screen_exports.proofs.delvouzh_answer_line.Goals as goal

pub returns-then-not-fits : goal.returns-then-not-fits
returns-then-not-fits c =
    line_refused _ _ _ _ (fits_not c.engine_fits.ensures c.has_room.ensures c.if-not-fits.true-raw)

pub bounds-written-0 : goal.bounds-written-0
bounds-written-0 c =
    let a = c.args in
    let h : (answer_bytes ≤ length a.answer.now) × (1 ≤ length a.written.now) =
    enough (told_fits c.engine_fits.ensures c.has_room.ensures c.if-not-fits.false-raw) in
    search (rules, h.1)

pub returns : goal.returns
returns c =
    let a = c.args in
    let h : (answer_bytes ≤ length a.answer.now) × (1 ≤ length a.written.now) =
    enough (told_fits c.engine_fits.ensures c.has_room.ensures c.if-not-fits.false-raw) in
    let text = c.answer_line in
    line_written _ _ _ _
    (fits c.engine_fits.ensures c.has_room.ensures c.if-not-fits.false-raw) text.result
    (lent_in text.new.scratch text.new.numbers text.new.counts) _ _ text.ensures
    (one_written a.written.now text.result h.1)
