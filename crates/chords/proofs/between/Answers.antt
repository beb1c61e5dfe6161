-- `chords::between` meets its contract: by which end is at most h. Assumes nothing.
use Rattle.chords.proofs.Crossed.{from_first, from_second, from_neither}
use Rattle.chords.proofs.between.Goals as goal

pub returns-then-p-h : goal.returns-then-p-h
returns-then-p-h c = from_first _ _ _ c.if-p-h.true

pub returns-then-q-h : goal.returns-then-q-h
returns-then-q-h c = from_second _ _ _ c.if-p-h.false c.if-q-h.true

pub returns : goal.returns
returns c = from_neither _ _ _ c.if-p-h.false c.if-q-h.false
