-- `reading::read_submit` meets its contract: its parts are read to the end. Assumes nothing.
use mathlib.Core.List.{List}
use Prim.Native.Nat.{ℕ}
use lib.Ieee.{Float}
use Rattle.tokens.specs.Text.{text, codes}
use Rattle.reading.specs.declared.SetParts.{SetParts}
use Rattle.reading.specs.Parts.{take_set, set_parts_of, set_of}
use Rattle.reading.specs.Lines.{submit_asked, submit_read}
use Rattle.reading.proofs.Stands.{start_room, kept_ends}
use Rattle.reading.proofs.Sets.{set_strict}
use Rattle.reading.proofs.read_submit.Goals as goal

pub returns : goal.returns
unfolding submit_read text codes
returns c =
    kept_ends _ _ _ take_set set_strict c.line_start.ensures (start_room _ _ _ c.line_start.ensures c.requires.0 c.requires.1)
    c.take_text-screen.ensures c.take_set-set.ensures.takes c.take_text-all.ensures _ set_parts_of c.take_set-set.ensures.parts_value
    (λ (screen : ℕ) (parts : SetParts) (figures : List Float). submit_asked screen parts.limit parts.points (set_of parts figures))
    c.submit_asked.ensures c.end_form.ensures
