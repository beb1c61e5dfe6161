-- `counts::read_count` meets its contract: after i digits, what is left to read from the number in hand is the whole. Assumes nothing.
use mathlib.Core.Path.{ap}
use native.Mathlib.Omega.{arith}
use Rattle.counts.specs.Counts.{capped_count}
use Rattle.counts.proofs.Reading.{none, some, bad_digit, good_digit, all_read}
use Rattle.counts.proofs.read_count.Goals as goal

pub returns-then-word-eq0 : goal.returns-then-word-eq0
returns-then-word-eq0 c = none _ c.if-word-eq0.true

pub loop-b-init : goal.loop-b-init
loop-b-init c = (omega arith, ap capped_count (some _ (omega arith)))

pub returns-then-d-ge10 : goal.returns-then-d-ge10
returns-then-d-ge10 c =
    bad_digit c.args.word.now c.loop-b.b-index c.loop-b.n c.digit_value-d.result (omega arith) c.loop-b.invariant.1
    c.digit_value-d.ensures c.if-d-ge10.true

pub loop-b-preserved : goal.loop-b-preserved
loop-b-preserved c =
    let e = c.cap-n.ensures in (
      omega arith,
      good_digit c.args.word.now c.loop-b.b-index c.loop-b.n c.digit_value-d.result (omega arith) c.loop-b.invariant.1
          c.digit_value-d.ensures c.cap-n.result c.if-d-ge10.false e,
    )

pub returns : goal.returns
returns c = all_read c.args.word.now c.loop-b.b-index c.loop-b.n (omega arith) (omega arith) c.loop-b.invariant.1
