-- `explanations::put_edges` meets its contract: four texts behind one another. Assumes nothing.
use native.Mathlib.Omega.{arith}
use Rattle.tokens.specs.Text.{text, codes}
use Rattle.counts.proofs.Printing.{twenty}
use Rattle.explanations.proofs.Wanting.{also}
use Rattle.explanations.proofs.put_edges.Goals as goal

pub put_bytes-between-requires : goal.put_bytes-between-requires
put_bytes-between-requires c =
    let h = c.requires in let e = c.put_bytes-heading.ensures.ends in
    let k = c.put_bytes-heading.auto.out in
    let f = c.put_count-first.ensures.ends in let l = c.put_count-first.auto.out in let t = twenty c.args.fault.first in
    omega (arith, h, e, k, f, l, t)

pub put_count-requires : goal.put_count-requires
put_count-requires c =
    let h = c.requires in let e = c.put_bytes-heading.ensures.ends in
    let k = c.put_bytes-heading.auto.out in
    let f = c.put_count-first.ensures.ends in let l = c.put_count-first.auto.out in let t = twenty c.args.fault.first in
    let g = c.put_bytes-between.ensures.ends in let m = c.put_bytes-between.auto.out in
    omega (arith, h, e, k, f, l, t, g, m)

pub returns : goal.returns
unfolding text codes
returns c =
    also c.put_bytes-heading.ensures
    (also c.put_count-first.ensures
    (also c.put_bytes-between.ensures c.put_count.ensures))
