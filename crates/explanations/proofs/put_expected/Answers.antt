-- `explanations::put_expected` meets its contract: the start of the line stands in `trial`, with a space behind it. Assumes nothing.
use mathlib.Core.List.{List, ◌∷◌, ◌++◌, []}
use mathlib.Core.Path.{ap, ◌∙◌}
use Prim.Native.Nat.{ℕ}
use native.Mathlib.Omega.{arith}
use lib.ListN.{length-take}
use Rattle.tokens.specs.Text.{text, codes}
use Rattle.explanations.specs.Endings.{wanted_text}
use Rattle.explanations.proofs.Wanting.{also, same_put}
use Rattle.explanations.proofs.put_expected.Goals as goal

pub put_wanted-requires : goal.put_wanted-requires
put_wanted-requires c =
    let s = c.args in
    let l = length-take s.from s.line.now in let h = c.requires.2 in let g = c.requires.0 in
    let e = c.put_bytes-m.ensures.ends in let k = c.put_bytes-m.auto.out in
    let f = c.put_bytes-k.ensures.ends in let m = c.put_bytes-k.auto.out in
    let i = c.put_bytes-heading.ensures.ends in let j = c.put_bytes-heading.auto.out in
    (omega (arith, g, i, j), omega (arith, l, h, e, k, f, m))

pub returns : goal.returns
unfolding text codes
returns c =
    let s = c.args in
    also c.put_bytes-heading.ensures
    (same_put (ap (wanted_text s.fault s.endings.now s.table.now)
    (c.put_bytes-k.ensures.holds ∙ ap (λ (t : List ℕ). t ++ (32 ∷ [])) c.put_bytes-m.ensures.holds))
    c.put_wanted.ensures)
