-- `lines::answer_line` meets its contract: where there is room the line is answered, with room for as many figures as it has bytes. Assumes
-- nothing.
use mathlib.Core.Bool.{◌&&◌}
use mathlib.Core.Path.{refl}
use borrow.Author.Tests.{not-true, not-false}
use Rattle.lines.specs.Lines.{lent_in, Fits}
use Rattle.lines.proofs.Fitting.{fitting, not_fitting, answered}
use Rattle.lines.proofs.answer_line.Goals as goal

pub returns-then-not-room-engine : goal.returns-then-not-room-engine
returns-then-not-room-engine c =
    let lent = lent_in c.args.scratch.now c.args.numbers.now c.args.counts.now in
    let none =
    not_fitting lent c.args.out.now c.args.n c.has_room-room.result c.has_engine-engine.result
    c.has_room-room.ensures
    c.has_engine-engine.ensures (not-true (c.has_room-room.result && c.has_engine-engine.result) c.if-not-room-engine.true-raw) in
    record { answer = λ g. absurd (none g); left = λ g. absurd (none g); no_room = λ g. (refl, refl, refl) }

pub answer_read-requires : goal.answer_read-requires
answer_read-requires c =
    let lent = lent_in c.args.scratch.now c.args.numbers.now c.args.counts.now in
    let f : Fits lent c.args.out.now c.args.n =
    fitting lent c.args.out.now c.args.n c.has_room-room.result c.has_engine-engine.result
    c.has_room-room.ensures c.has_engine-engine.ensures
    (not-false (c.has_room-room.result && c.has_engine-engine.result) c.if-not-room-engine.false-raw) in
    (f.answer, f.engine, λ _. c.if-line-le-SHORT_LINE.true)

pub returns-then-line-le-SHORT_LINE : goal.returns-then-line-le-SHORT_LINE
returns-then-line-le-SHORT_LINE c =
    let lent = lent_in c.args.scratch.now c.args.numbers.now c.args.counts.now in
    let f : Fits lent c.args.out.now c.args.n =
    fitting lent c.args.out.now c.args.n c.has_room-room.result c.has_engine-engine.result
    c.has_room-room.ensures c.has_engine-engine.ensures
    (not-false (c.has_room-room.result && c.has_engine-engine.result) c.if-not-room-engine.false-raw) in
    answered _ _ _ _ _ _ _ f (c.answer_read.ensures.appended, c.answer_read.ensures.leaves_lent)

pub answer_read-requires-then-line-le-SET_LINE : goal.answer_read-requires-then-line-le-SET_LINE
answer_read-requires-then-line-le-SET_LINE c =
    let lent = lent_in c.args.scratch.now c.args.numbers.now c.args.counts.now in
    let f : Fits lent c.args.out.now c.args.n =
    fitting lent c.args.out.now c.args.n c.has_room-room.result c.has_engine-engine.result
    c.has_room-room.ensures c.has_engine-engine.ensures
    (not-false (c.has_room-room.result && c.has_engine-engine.result) c.if-not-room-engine.false-raw) in
    (f.answer, f.engine, λ _. c.if-line-le-SET_LINE.true)

pub returns-then-line-le-SET_LINE : goal.returns-then-line-le-SET_LINE
returns-then-line-le-SET_LINE c =
    let lent = lent_in c.args.scratch.now c.args.numbers.now c.args.counts.now in
    let f : Fits lent c.args.out.now c.args.n =
    fitting lent c.args.out.now c.args.n c.has_room-room.result c.has_engine-engine.result
    c.has_room-room.ensures c.has_engine-engine.ensures
    (not-false (c.has_room-room.result && c.has_engine-engine.result) c.if-not-room-engine.false-raw) in
    answered _ _ _ _ _ _ _ f (c.answer_read-then-line-le-SET_LINE.ensures.appended, c.answer_read-then-line-le-SET_LINE.ensures.leaves_lent)

pub answer_read-requires-then-line-le-MIDDLE_LINE : goal.answer_read-requires-then-line-le-MIDDLE_LINE
answer_read-requires-then-line-le-MIDDLE_LINE c =
    let lent = lent_in c.args.scratch.now c.args.numbers.now c.args.counts.now in
    let f : Fits lent c.args.out.now c.args.n =
    fitting lent c.args.out.now c.args.n c.has_room-room.result c.has_engine-engine.result
    c.has_room-room.ensures c.has_engine-engine.ensures
    (not-false (c.has_room-room.result && c.has_engine-engine.result) c.if-not-room-engine.false-raw) in
    (f.answer, f.engine, λ _. c.if-line-le-MIDDLE_LINE.true)

pub returns-then-line-le-MIDDLE_LINE : goal.returns-then-line-le-MIDDLE_LINE
returns-then-line-le-MIDDLE_LINE c =
    let lent = lent_in c.args.scratch.now c.args.numbers.now c.args.counts.now in
    let f : Fits lent c.args.out.now c.args.n =
    fitting lent c.args.out.now c.args.n c.has_room-room.result c.has_engine-engine.result
    c.has_room-room.ensures c.has_engine-engine.ensures
    (not-false (c.has_room-room.result && c.has_engine-engine.result) c.if-not-room-engine.false-raw) in
    answered _ _ _ _ _ _ _ f
    (c.answer_read-then-line-le-MIDDLE_LINE.ensures.appended, c.answer_read-then-line-le-MIDDLE_LINE.ensures.leaves_lent)

pub answer_read-requires-2 : goal.answer_read-requires-2
answer_read-requires-2 c =
    let lent = lent_in c.args.scratch.now c.args.numbers.now c.args.counts.now in
    let f : Fits lent c.args.out.now c.args.n =
    fitting lent c.args.out.now c.args.n c.has_room-room.result c.has_engine-engine.result
    c.has_room-room.ensures c.has_engine-engine.ensures
    (not-false (c.has_room-room.result && c.has_engine-engine.result) c.if-not-room-engine.false-raw) in
    (f.answer, f.engine, λ h. h)

pub returns : goal.returns
returns c =
    let lent = lent_in c.args.scratch.now c.args.numbers.now c.args.counts.now in
    let f : Fits lent c.args.out.now c.args.n =
    fitting lent c.args.out.now c.args.n c.has_room-room.result c.has_engine-engine.result
    c.has_room-room.ensures c.has_engine-engine.ensures
    (not-false (c.has_room-room.result && c.has_engine-engine.result) c.if-not-room-engine.false-raw) in
    answered _ _ _ _ _ _ _ f (c.answer_read-2.ensures.appended, c.answer_read-2.ensures.leaves_lent)
