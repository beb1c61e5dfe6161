-- `blocks::sentences::put_sentence` meets its contract: the code's table is the definition's with bars between its texts. Assumes nothing.
use mathlib.Core.Path.{refl}
use lib.Dec.{lit≤}
use Rattle.tokens.specs.Text.{text, codes}
use Rattle.blocks.specs.Tables.{with_bars}
use Rattle.blocks.specs.Cards.{sentences}
use Rattle.blocks.proofs.Said.{short_in_table, said}
use Rattle.blocks.proofs.sentences.put_sentence.Goals as goal

pub put_text-requires : goal.put_text-requires
unfolding with_bars sentences text codes
put_text-requires c =
    (c.requires, lit≤ tt, short_in_table _ c.args.key.now refl)

pub returns : goal.returns
unfolding with_bars sentences text codes
returns c =
    said _ c.args.key.now refl _ _ _ _ _ c.put_text.ensures
