-- `reading::take_planform` meets its contract: its alternatives stand in one text. Assumes nothing.
use Rattle.tokens.specs.Text.{text, codes}
use Rattle.templates.specs.Matching.{cut_after}
use Rattle.reading.specs.Parts.{take_planform}
use Rattle.reading.proofs.take_planform.Goals as goal

pub returns : goal.returns
unfolding take_planform text codes cut_after
returns c = c.take_one_of.ensures
