-- `blocks::put_from` meets its contract: the block of the text that is found, or that there is none. Assumes nothing.
use mathlib.Core.Path.{refl}
use native.Mathlib.Omega.{arith}
use Rattle.tokens.specs.Text.{text, codes}
use Rattle.blocks.specs.Cards.{no_answer}
use Rattle.blocks.proofs.Said.{card_short, none_put}
use Rattle.blocks.proofs.put_from.Goals as goal

pub put_bytes-requires : goal.put_bytes-requires
put_bytes-requires c =
    let k = card_short _ _ _ _ _ _ _ _ refl c.requires.2 c.put_found-end.ensures in
    let l = c.put_found-end.auto.out in
    omega (arith, k, l, c.requires.0)

pub returns : goal.returns
unfolding text codes
returns c = none_put _ _ _ _ no_answer _ _ _ c.put_found-end.ensures c.if-n-end.false c.put_bytes-2.ensures
