-- `explanations::put_words` meets its contract: the words put so far and those that are left are the whole. Assumes nothing.
use mathlib.Core.Path.{◌∙◌}
use native.Mathlib.Omega.{arith}
use Rattle.explanations.proofs.Wanting.{part_length, was_last, next}
use Rattle.explanations.proofs.put_words.Goals as goal

pub put_word-at-requires : goal.put_word-at-requires
put_word-at-requires c =
    let e = part_length c.args.table.now c.loop-fault.i c.bar_end-end.result c.bar_end-end.ensures.behind c.bar_end-end.ensures.within
    in
    let o = c.bar_end-end.ensures.behind in let w = c.bar_end-end.ensures.within in
    let f = c.loop-fault.invariant.few_bytes in let p = c.loop-fault.invariant.same_out in let t = c.loop-fault.invariant.same_trial in
    let g = c.requires.0 in let h = c.requires.1 in
    (omega (arith, e, o, w, f, p, g), omega (arith, e, w, t, h))

pub returns-then-table-end : goal.returns-then-table-end
returns-then-table-end c =
    record {
      appended = was_last _ _ _ _ _ _ _ _ _ _ _ _ c.loop-fault.invariant c.bar_end-end.ensures _ c.put_word-at.new.trial _
          c.put_word-at.ensures.appended c.if-table-end.true;
      trial_unchanged = c.put_word-at.ensures.trial_unchanged ∙ c.loop-fault.invariant.kept;
    }

pub loop-fault-preserved : goal.loop-fault-preserved
loop-fault-preserved c =
    next _ _ _ _ _ _ _ _ _ _ _ _ c.loop-fault.invariant c.bar_end-end.ensures _ _ _ c.put_word-at.ensures.appended c.if-table-end.false
    c.put_word-at.auto.out c.put_word-at.auto.trial c.put_word-at.ensures.trial_unchanged
