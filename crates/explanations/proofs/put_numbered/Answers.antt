-- `explanations::put_numbered` meets its contract: a word, the number, a colon, the explanation and a newline. Assumes nothing.
use native.Mathlib.Omega.{arith}
use Rattle.tokens.specs.Text.{text, codes}
use Rattle.counts.proofs.Printing.{twenty}
use Rattle.explanations.proofs.Ends.{kept_few}
use Rattle.explanations.proofs.Wanting.{also}
use Rattle.explanations.proofs.put_numbered.Goals as goal

pub put_bytes-heading-requires : goal.put_bytes-heading-requires
put_bytes-heading-requires c =
    let h = c.if-out-lt1050.false in
    let e = c.put_bytes-word.ensures.ends in let k = c.put_bytes-word.auto.out in let f = c.put_count-digits.ensures.ends in
    let l = c.put_count-digits.auto.out in
    let t = twenty c.args.number in
    omega (arith, h, e, k, f, l, t)

pub put_kept-end-requires : goal.put_kept-end-requires
put_kept-end-requires c =
    let h = c.if-out-lt1050.false in
    let e = c.put_bytes-word.ensures.ends in let k = c.put_bytes-word.auto.out in let f = c.put_count-digits.ensures.ends in
    let l = c.put_count-digits.auto.out in
    let g = c.put_bytes-heading.ensures.ends in let m = c.put_bytes-heading.auto.out in let t = twenty c.args.number in
    omega (arith, h, e, k, f, l, g, m, t)

pub put_bytes-requires : goal.put_bytes-requires
put_bytes-requires c =
    let h = c.if-out-lt1050.false in
    let e = c.put_bytes-word.ensures.ends in let k = c.put_bytes-word.auto.out in let f = c.put_count-digits.ensures.ends in
    let l = c.put_count-digits.auto.out in
    let g = c.put_bytes-heading.ensures.ends in let m = c.put_bytes-heading.auto.out in let t = twenty c.args.number in
    let i = c.put_kept-end.ensures.ends in let j = c.put_kept-end.auto.out in let w = kept_few c.args.line.now c.args.over in
    omega (arith, h, e, k, f, l, g, m, t, i, j, w)

pub returns : goal.returns
unfolding text codes
returns c =
    λ _. also c.put_bytes-word.ensures
    (also c.put_count-digits.ensures (also c.put_bytes-heading.ensures
    (also c.put_kept-end.ensures c.put_bytes.ensures)))
