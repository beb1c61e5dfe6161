-- `explanations::put_place` meets its contract: the byte of the place that was found, and then by the number. Assumes nothing.
use mathlib.Core.Path.{ap}
use borrow.Author.Tests.{eq-eqb, ne_eqb}
use Rattle.explanations.specs.Explanations.{expected_text, shown_text, at_place}
use Rattle.explanations.proofs.Wanting.{also, by_true, by_false, same_put}
use Rattle.explanations.proofs.put_place.Goals as goal

pub returns-then-fault-eq18 : goal.returns-then-fault-eq18
returns-then-fault-eq18 c =
    let s = c.args in
    same_put (ap (at_place s.endings.now s.table.now s.line.now s.fault) c.find_fault-f.ensures.is)
    (also c.put_byte-byte.ensures.appended
    (by_true (shown_text s.line.now c.find_fault-f.result) (eq-eqb _ _ c.if-fault-eq18.true)
    c.put_expected.ensures))

pub returns : goal.returns
returns c =
    let s = c.args in
    same_put (ap (at_place s.endings.now s.table.now s.line.now s.fault) c.find_fault-f.ensures.is)
    (also c.put_byte-byte.ensures.appended
    (by_false (expected_text s.endings.now s.table.now s.line.now s.fault c.find_fault-f.result.from)
    (ne_eqb _ _ c.if-fault-eq18.false) c.put_shown.ensures))
