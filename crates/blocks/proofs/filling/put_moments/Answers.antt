-- `blocks::filling::put_moments` meets its contract: the code's text is the definition's. Assumes nothing.
use Rattle.tokens.specs.Text.{text, codes}
use Rattle.blocks.specs.Cards.{moment_line}
use Rattle.blocks.proofs.Said.{line_asked, line_said, moment_line_room}
use Rattle.blocks.proofs.filling.put_moments.Goals as goal

pub put_plain-requires : goal.put_plain-requires
unfolding moment_line text codes
put_plain-requires c =
    line_asked moment_line 330 moment_line_room _ _ c.requires

pub returns : goal.returns
unfolding moment_line text codes
returns c =
    line_said _ _ moment_line _ _ _ _ c.moment_figures-shown.ensures c.put_plain.ensures
