-- `explanations::put_fault` meets its contract: a word, number and sentence, what goes with it, and the place. Assumes nothing.
use native.Mathlib.Omega.{arith}
use Rattle.tokens.specs.Text.{text, codes}
use Rattle.blocks.proofs.Said.{refusal_fits}
use Rattle.explanations.proofs.Wanting.{also}
use Rattle.explanations.proofs.put_fault.Goals as goal

pub put_detail-detail-requires : goal.put_detail-detail-requires
put_detail-detail-requires c =
    let h = c.requires.0 in let e = c.put_bytes-heading.ensures.ends in let k = c.put_bytes-heading.auto.out in
    let f = c.put_refusal-sentence.ensures.ends in let l = c.put_refusal-sentence.auto.out in let t = refusal_fits c.args.fault.number in
    omega (arith, h, e, k, f, l, t)

pub put_where-requires : goal.put_where-requires
put_where-requires c =
    let h = c.requires.0 in let e = c.put_bytes-heading.ensures.ends in
    let k = c.put_bytes-heading.auto.out in
    let f = c.put_refusal-sentence.ensures.ends in let l = c.put_refusal-sentence.auto.out in let t = refusal_fits c.args.fault.number in
    let g = c.put_detail-detail.ensures.upper_bound in let m = c.put_detail-detail.auto.out in
    (omega (arith, h, e, k, f, l, t, g, m), c.requires.1, omega arith)

pub returns : goal.returns
unfolding text codes
returns c =
    also c.put_bytes-heading.ensures
    (also c.put_refusal-sentence.ensures
    (also c.put_detail-detail.ensures.appended c.put_where.ensures))
