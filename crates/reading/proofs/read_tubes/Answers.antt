-- `reading::read_tubes` meets its contract: its parts are read to the end. Assumes nothing.
use mathlib.Core.List.{List}
use Prim.Native.Nat.{ℕ}
use lib.Ieee.{Float}
use Rattle.floats.specs.Operations.{at}
use Rattle.materials.specs.Numbered.{numbered_density}
use Rattle.reading.specs.Lines.{tubes_asked, tubes_read}
use Rattle.tokens.specs.Text.{text, codes}
use Rattle.reading.specs.Parts.{take_density}
use Rattle.reading.proofs.Stands.{density_strict, start_room, parted_ends}
use Rattle.reading.proofs.read_tubes.Goals as goal

pub returns : goal.returns
unfolding tubes_read text codes
returns c =
    parted_ends _ _ _ take_density density_strict c.line_start.ensures
    (start_room _ _ _ c.line_start.ensures c.requires.0 c.requires.1)
    c.take_text-count.ensures c.take_density-density.ensures c.take_text-all.ensures
    (λ (count density _ : ℕ) (figures : List Float). tubes_asked count (numbered_density density (at figures 5)) figures)
    c.tubes_asked.ensures c.end_form.ensures
