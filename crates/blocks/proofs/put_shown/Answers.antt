-- `blocks::put_shown` meets its contract: the code's table is the definition's with bars between its texts. Assumes nothing.
use mathlib.Core.Path.{refl}
use lib.Dec.{lit≤}
use Rattle.tokens.specs.Text.{text, codes}
use Rattle.blocks.specs.Tables.{with_bars}
use Rattle.blocks.specs.Cards.{cards}
use Rattle.blocks.proofs.Said.{room_in_table, shown_from}
use Rattle.blocks.proofs.put_shown.Goals as goal

pub put_from-requires : goal.put_from-requires
unfolding with_bars cards text codes
put_from-requires c =
    (c.requires, lit≤ tt, room_in_table _ c.args.shape.now refl)

pub returns : goal.returns
unfolding with_bars cards text codes
returns c =
    shown_from _ c.args.shape.now refl _ _ _ _ _ _ c.put_from.ensures
