-- `blocks::sentences::put_refusal` meets its contract: the number, a colon, and the sentence of the number's text. Assumes nothing.
use mathlib.Core.List.{List}
use mathlib.Core.Path.{sym, subst}
use Prim.Native.Nat.{ℕ}
use native.Mathlib.Omega.{arith}
use lib.Seq.{length-take-le}
use Rattle.texts.specs.Appended.{Appended}
use Rattle.texts.proofs.Appending.{then}
use Rattle.tokens.specs.Text.{text, codes}
use Rattle.counts.specs.Counts.{count_text}
use Rattle.counts.proofs.Printing.{twenty}
use Rattle.blocks.specs.Tables.{text_for}
use Rattle.blocks.specs.Cards.{or_else, sentences}
use Rattle.blocks.proofs.sentences.put_refusal.Goals as goal

pub slice_bounds-key-end : goal.slice_bounds-key-end
slice_bounds-key-end c =
    let e = c.put_count-k.ensures.ends in
    let t = twenty c.args.number in
    let l = c.put_count-k.auto.out in
    omega (arith, e, t, l)

pub slice_bounds-put_sentence-end : goal.slice_bounds-put_sentence-end
slice_bounds-put_sentence-end c =
    let e = c.put_count-k.ensures.ends in
    let t = twenty c.args.number in
    let l = c.put_count-k.auto.out in
    sym (length-take-le c.put_count-k.result c.put_count-k.new.out (omega (arith, e, t, l)))

pub put_sentence-requires : goal.put_sentence-requires
put_sentence-requires c =
    let e = c.put_count-colon.ensures.ends in
    let f = c.put_bytes-end.ensures.ends in
    let t = twenty c.args.number in
    let l = c.put_count-colon.auto.out in
    let k = c.put_bytes-end.auto.out in
    omega (arith, e, f, t, l, k, c.requires)

pub returns : goal.returns
unfolding text codes
returns c =
    then _ _ _ _ _ _ (count_text c.args.number) _ c.put_count-colon.ensures
    (then _ _ _ _ _ _ (text ": ") _ c.put_bytes-end.ensures
    (subst (λ (key : List ℕ). Appended c.put_bytes-end.new.out c.put_bytes-end.result
    (or_else (text_for key sentences) (text "no number of the table")) c.put_sentence.new.out c.put_sentence.result)
    c.put_count-k.ensures.holds c.put_sentence.ensures))
