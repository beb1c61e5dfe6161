-- `blocks::lookup::find` meets its contract: the text for the key is among those still to come. Assumes nothing.
use mathlib.Core.Path.{sym, ◌∙◌}
use native.Mathlib.Omega.{arith}
use Rattle.blocks.proofs.Bars.{ends_here, key_alone, found, passed, passed_last}
use Rattle.blocks.proofs.lookup.find.Goals as goal

pub returns-then-table-end : goal.returns-then-table-end
returns-then-table-end c =
    let t = c.args.table.now in
    let k = c.args.key.now in
    let v = c.loop-at.invariant in
    key_alone t k c.loop-at.at c.bar_end-end.result c.bar_end-end.ensures v.1 c.if-table-end.true

pub returns-then-same_bytes : goal.returns-then-same_bytes
returns-then-same_bytes c =
    let t = c.args.table.now in
    let k = c.args.key.now in
    let v = c.loop-at.invariant in
    found t k c.loop-at.at c.bar_end-end.result c.bar_end-end.ensures c.bar_end-to.result c.if-table-end.false c.bar_end-to.ensures
    v.1 (sym c.same_bytes.ensures ∙ c.if-same_bytes.true)

pub returns-then-table-to : goal.returns-then-table-to
returns-then-table-to c =
    let t = c.args.table.now in
    let k = c.args.key.now in
    let v = c.loop-at.invariant in
    passed_last t k c.loop-at.at c.bar_end-end.result c.bar_end-end.ensures c.bar_end-to.result c.if-table-end.false
    c.bar_end-to.ensures v.1 (sym c.same_bytes.ensures ∙ c.if-same_bytes.false) c.if-table-to.true

pub loop-at-smaller : goal.loop-at-smaller
loop-at-smaller c =
    let a = c.bar_end-end.ensures.behind in
    let b = c.bar_end-to.ensures.behind in
    let l = c.loop-at-test.true in
    omega (arith, a, b, l)

pub loop-at-preserved : goal.loop-at-preserved
loop-at-preserved c =
    let t = c.args.table.now in
    let k = c.args.key.now in
    let v = c.loop-at.invariant in (
      omega arith,
      passed t k c.loop-at.at c.bar_end-end.result c.bar_end-end.ensures c.bar_end-to.result c.if-table-end.false
          c.bar_end-to.ensures v.1 (sym c.same_bytes.ensures ∙ c.if-same_bytes.false) c.if-table-to.false,
    )

pub returns : goal.returns
returns c =
    let t = c.args.table.now in
    let k = c.args.key.now in
    let v = c.loop-at.invariant in
    ends_here t k c.loop-at.at v.1 c.loop-at-test.false
