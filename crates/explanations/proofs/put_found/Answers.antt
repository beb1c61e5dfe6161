-- `explanations::put_found` meets its contract: the key is written, and what the table has for it. Assumes nothing.
use mathlib.Core.List.{List}
use mathlib.Core.Path.{sym, ap, ◌∙◌}
use Prim.Native.Nat.{ℕ}
use native.Mathlib.Omega.{arith}
use lib.ListN.{length}
use lib.Seq.{length-take-le}
use Rattle.tokens.specs.Text.{text, codes}
use Rattle.counts.proofs.Printing.{twenty}
use Rattle.templates.specs.Matching.{cut_at_bars}
use Rattle.blocks.specs.Tables.{text_for}
use Rattle.texts.proofs.Appending.{nothing}
use Rattle.explanations.proofs.Wanting.{also, same_put, part_length}
use Rattle.explanations.proofs.put_found.Goals as goal

pub put_bytes-space-requires : goal.put_bytes-space-requires
put_bytes-space-requires c =
    let e = c.put_count-number.ensures.ends in
    let k = c.put_count-number.auto.out in let t = twenty c.args.fault.number in
    omega (arith, e, k, t)

pub put_count-k-requires : goal.put_count-k-requires
put_count-k-requires c =
    let e = c.put_count-number.ensures.ends in
    let k = c.put_count-number.auto.out in let t = twenty c.args.fault.number in
    let f = c.put_bytes-space.ensures.ends in let l = c.put_bytes-space.auto.out in
    omega (arith, e, k, t, f, l)

pub slice_bounds-key-end : goal.slice_bounds-key-end
slice_bounds-key-end c =
    let e = c.put_count-number.ensures.ends in let k = c.put_count-number.auto.out in let t = twenty c.args.fault.number in
    let f = c.put_bytes-space.ensures.ends in let l = c.put_bytes-space.auto.out in
    let g = c.put_count-k.ensures.ends in let m = c.put_count-k.auto.out in let u = twenty c.args.fault.first in
    omega (arith, e, k, t, f, l, g, m, u)

pub slice_bounds-find-end : goal.slice_bounds-find-end
slice_bounds-find-end c =
    let e = c.put_count-number.ensures.ends in let k = c.put_count-number.auto.out in let t = twenty c.args.fault.number in
    let f = c.put_bytes-space.ensures.ends in let l = c.put_bytes-space.auto.out in
    let g = c.put_count-k.ensures.ends in let m = c.put_count-k.auto.out in let u = twenty c.args.fault.first in
    sym (length-take-le c.put_count-k.result c.put_count-k.new.out (omega (arith, e, k, t, f, l, g, m, u)))

pub put_bytes-requires : goal.put_bytes-requires
unfolding text codes
put_bytes-requires c =
    let p = c.in-Some.p in
    let l = part_length c.args.table.now p.from p.to c.in-Some.ensures.ordered c.in-Some.ensures.within in
    let e = ap length (c.in-Some.ensures.is ∙ ap (λ (k : List ℕ). text_for k (cut_at_bars c.args.table.now))
    (also c.put_count-number.ensures (also c.put_bytes-space.ensures c.put_count-k.ensures)).holds)
    in
    let h = c.requires.0 in let g = c.requires.2 in
    omega (arith, l, e, h, g)

pub returns-in-Some : goal.returns-in-Some
unfolding text codes
returns-in-Some c =
    same_put (c.in-Some.ensures.is ∙ ap (λ (k : List ℕ). text_for k (cut_at_bars c.args.table.now))
    (also c.put_count-number.ensures (also c.put_bytes-space.ensures c.put_count-k.ensures)).holds) c.put_bytes.ensures

pub returns-in-None : goal.returns-in-None
unfolding text codes
returns-in-None c =
    same_put (c.in-None.ensures ∙ ap (λ (k : List ℕ). text_for k (cut_at_bars c.args.table.now))
    (also c.put_count-number.ensures (also c.put_bytes-space.ensures c.put_count-k.ensures)).holds) (nothing _ _)
