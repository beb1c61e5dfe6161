-- `reading::read_drill` meets its contract: its parts are read to the end. Assumes nothing.
use mathlib.Core.List.{List}
use Prim.Native.Nat.{ℕ}
use lib.Ieee.{Float}
use Rattle.planforms.specs.Numbered.{planform_of}
use Rattle.reading.specs.Lines.{drill_asked, drill_read}
use Rattle.tokens.specs.Text.{text, codes}
use Rattle.reading.specs.Parts.{take_planform}
use Rattle.reading.proofs.Stands.{planform_strict, start_room, parted_ends}
use Rattle.reading.proofs.read_drill.Goals as goal

pub returns : goal.returns
unfolding drill_read text codes
returns c =
    parted_ends _ _ _ take_planform planform_strict c.line_start.ensures
    (start_room _ _ _ c.line_start.ensures c.requires.0 c.requires.1)
    c.take_text-head.ensures c.take_planform-planform.ensures c.take_text-all.ensures
    (λ (_ planform points : ℕ) (figures : List Float). drill_asked points (planform_of planform figures) figures)
    c.drill_asked.ensures c.end_form.ensures
