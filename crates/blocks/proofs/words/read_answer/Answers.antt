-- `blocks::words::read_answer` meets its contract: what was read with what is still to come is the whole. Assumes nothing.
use mathlib.Core.Path.{◌∙◌}
use native.Mathlib.Omega.{arith}
use Rattle.tokens.specs.Found.{part}
use Rattle.blocks.proofs.Reading.{is_end, one_word, all_read, part_length, shape_short}
use Rattle.blocks.proofs.words.read_answer.Goals as goal

pub put_word-w-requires : goal.put_word-w-requires
put_word-w-requires c =
    let v = c.loop-i.invariant in
    let vb = v.0.bytes_behind in
    let vf = v.0.figures_behind in
    let vc = v.0.counts_behind in
    let behind = c.word_end-to.ensures.behind in
    let within = c.word_end-to.ensures.within in
    let l = part_length c.args.line.now c.loop-i.i c.word_end-to.result behind within in
    let ps = c.requires.line_in_bounds.0 in
    let pf = c.requires.line_in_bounds.1 in
    let pc = c.requires.line_in_bounds_2.0 in
    record {
      word_in_bounds = (omega (arith, l, vb, behind, within, ps, v.1), omega (arith, l, vf, behind, within, pf, v.2));
      word_in_bounds_2 = omega (arith, l, vc, behind, within, pc, v.3);
    }

pub put_end-r-requires : goal.put_end-r-requires
put_end-r-requires c =
    λ h.
    let v = c.loop-i.invariant in
    let vb = v.0.bytes_behind in
    let behind = c.word_end-to.ensures.behind in
    let within = c.word_end-to.ensures.within in
    let l = part_length c.args.line.now c.loop-i.i c.word_end-to.result behind within in
    let short = shape_short (part c.args.line.now c.loop-i.i c.word_end-to.result) in
    let ends = c.put_word-w.ensures.of_shape.ends in
    let kept = c.put_word-w.auto.shape in
    let ps = c.requires.line_in_bounds.0 in
    omega (arith, h, l, vb, behind, within, short, ends, kept, ps, v.1)

pub loop-i-preserved : goal.loop-i-preserved
loop-i-preserved c =
    let v = c.loop-i.invariant in (
      one_word c.args.line.now c.loop-i.r c.put_word-w.result c.put_end-r.result c.loop-i.i c.word_end-to.result
          c.loop-i.shape c.put_word-w.new.shape c.put_end-r.new.shape c.loop-i.figures c.put_word-w.new.figures c.loop-i.counts
          c.put_word-w.new.counts v.0 (is_end _ _ _ (omega arith) c.word_end-to.ensures) c.put_word-w.ensures c.put_end-r.ensures,
      c.put_end-r.auto.shape
          ∙ c.put_word-w.auto.shape ∙ v.1,
      c.put_word-w.auto.figures ∙ v.2,
      c.put_word-w.auto.counts ∙ v.3,
    )

pub returns : goal.returns
returns c =
    all_read c.args.line.now c.loop-i.r c.loop-i.i c.loop-i.shape c.loop-i.figures c.loop-i.counts c.loop-i.invariant.0
    c.loop-i-test.false
