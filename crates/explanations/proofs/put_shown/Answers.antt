-- `explanations::put_shown` meets its contract: a colon, and the word up to its fortieth byte. Assumes nothing.
use mathlib.Core.Path.{ap}
use native.Mathlib.Omega.{arith}
use Rattle.tokens.specs.Text.{text, codes}
use Rattle.tokens.specs.Found.{part}
use Rattle.explanations.proofs.Wanting.{also, same_put, part_length}
use Rattle.explanations.proofs.Ends.{short_order, short_within, short_few}
use Rattle.explanations.proofs.put_shown.Goals as goal

pub put_bytes-requires : goal.put_bytes-requires
put_bytes-requires c =
    let e = c.short_end-end.ensures in
    let a = short_order c.args.f.from c.args.f.to c.requires.1 in
    let o = short_within c.args.f.from c.args.f.to c.requires.1 in
    let w = short_few c.args.f.from c.args.f.to in let h = c.requires.2 in let g = c.requires.0 in
    let l = part_length c.args.line.now c.args.f.from c.short_end-end.result (omega (arith, e, a)) (omega (arith, e, o, h)) in
    let i = c.put_bytes-colon.ensures.ends in let k = c.put_bytes-colon.auto.out in
    omega (arith, e, w, g, l, i, k)

pub returns : goal.returns
unfolding text codes
returns c =
    let s = c.args in
    also c.put_bytes-colon.ensures
    (same_put (ap (part s.line.now s.f.from) c.short_end-end.ensures)
    c.put_bytes.ensures)
