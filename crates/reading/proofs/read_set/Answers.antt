-- `reading::read_set` meets its contract: its parts are read to the end. Assumes nothing.
use mathlib.Core.List.{List}
use lib.Ieee.{Float}
use Rattle.reading.specs.declared.SetParts.{SetParts}
use Rattle.reading.specs.Parts.{take_set, set_parts_of, set_of}
use Rattle.reading.specs.Lines.{set_asked, set_read}
use Rattle.reading.proofs.Stands.{start_room, alone_ends}
use Rattle.reading.proofs.read_set.Goals as goal

pub returns : goal.returns
unfolding set_read
returns c =
    let m = start_room _ _ _ c.line_start.ensures c.requires.0 c.requires.1 in
    alone_ends _ take_set c.line_start.ensures m c.take_set-set.ensures.takes _ set_parts_of c.take_set-set.ensures.parts_value
    (λ (parts : SetParts) (figures : List Float). set_asked parts.limit parts.points (set_of parts figures))
    c.set_asked.ensures c.end_form.ensures
