-- `blocks::filling::put_mass` meets its contract: the code's text is the definition's. Assumes nothing.
use Rattle.tokens.specs.Text.{text, codes}
use Rattle.blocks.specs.Cards.{mass_line}
use Rattle.blocks.proofs.Said.{line_asked, line_said, mass_line_room}
use Rattle.blocks.proofs.filling.put_mass.Goals as goal

pub put_plain-requires : goal.put_plain-requires
unfolding mass_line text codes
put_plain-requires c =
    line_asked mass_line 130 mass_line_room _ _ c.requires

pub returns : goal.returns
unfolding mass_line text codes
returns c =
    line_said _ _ mass_line _ _ _ _ c.mass_figures-shown.ensures c.put_plain.ensures
