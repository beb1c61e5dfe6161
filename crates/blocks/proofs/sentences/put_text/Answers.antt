-- `blocks::sentences::put_text` meets its contract: the text that is found, or another. Assumes nothing.
use mathlib.Core.Path.{refl}
use native.Mathlib.Omega.{arith}
use Rattle.tokens.specs.Text.{text, codes}
use Rattle.blocks.proofs.Reading.{part_length}
use Rattle.blocks.proofs.Said.{text_none}
use Rattle.blocks.proofs.sentences.put_text.Goals as goal
use Rattle.blocks.proofs.sentences.put_text.Goals.{in-Some+else-p, in_default}

pub returns : goal.returns
unfolding text codes
returns c = elim c.match-find.branch [
  | in-Some+else-p w ↦ let l = part_length c.args.table.now w.in-Some.p.from w.in-Some.p.to w.in-Some.ensures.ordered
      w.in-Some.ensures.within in
      let g = w.if-p.false in
      text_none _ _ _ _ _ _ _ w.in-Some.ensures.is (omega (arith, l, g)) c.put_bytes-2.ensures
  | in_default w ↦ text_none _ _ _ _ _ _ _ w.in_default.ensures refl c.put_bytes-2.ensures
]
