-- `blocks::put_numbered` meets its contract: a word, the number, a newline and the block, one behind the other. Assumes nothing.
use native.Mathlib.Omega.{arith}
use mathlib.Core.List.{List}
use Prim.Native.Nat.{ℕ}
use Rattle.tokens.specs.Text.{text, codes}
use Rattle.texts.specs.Appended.{Appended}
use Rattle.texts.proofs.Appending.{then}
use Rattle.counts.specs.Counts.{count_text}
use Rattle.counts.proofs.Printing.{twenty}
use Rattle.blocks.specs.Cards.{newline, block_of, numbered_block}
use Rattle.blocks.proofs.put_numbered.Goals as goal

-- four texts behind one another
numbered : {out a b c d : List ℕ} {i j k r : ℕ} (number : ℕ) (line : List ℕ) → Appended out 0 (text "line ") a i
    → Appended a i (count_text number) b j
    → Appended b j newline c k → Appended c k (block_of line) d r → Appended out 0 (numbered_block number line) d r
unfolding numbered_block
numbered {out} {a} {b} {c} {d} {i} {j} {k} {r} number line p q s t =
    then out a d 0 i r (text "line ") _ p (then a b d i j r (count_text number) _ q (then b c d j k r newline (block_of line) s t))

-- the first call and the function's own, from the second call

pub put_bytes-heading-requires : goal.put_bytes-heading-requires
put_bytes-heading-requires c =
    let e = c.put_count-digits.ensures.ends in let f = c.put_bytes-word.ensures.ends in let t = twenty c.args.number in
    let l = c.put_count-digits.auto.out in let m = c.put_bytes-word.auto.out in let n = c.requires in
    omega (arith, e, f, t, l, m, n)

pub put_block-requires : goal.put_block-requires
put_block-requires c =
    let d = c.put_bytes-heading.ensures.ends in let e = c.put_count-digits.ensures.ends in let f = c.put_bytes-word.ensures.ends in
    let t = twenty c.args.number in
    let g = c.put_bytes-heading.auto.out in let l = c.put_count-digits.auto.out in let m = c.put_bytes-word.auto.out in
    let n = c.requires in
    omega (arith, d, e, f, t, g, l, m, n)

pub returns : goal.returns
unfolding text codes
returns c =
    numbered c.args.number c.args.line.now c.put_bytes-word.ensures c.put_count-digits.ensures c.put_bytes-heading.ensures
    c.put_block.ensures
