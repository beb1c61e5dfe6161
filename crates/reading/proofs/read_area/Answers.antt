-- `reading::read_area` meets its contract: its parts are read to the end. Assumes nothing.
use mathlib.Core.List.{List}
use Prim.Native.Nat.{ℕ}
use lib.Ieee.{Float}
use Rattle.planforms.specs.Numbered.{planform_of}
use Rattle.reading.specs.Lines.{area_asked, area_read}
use Rattle.tokens.specs.Text.{text, codes}
use Rattle.reading.specs.Parts.{take_planform}
use Rattle.reading.proofs.Stands.{planform_strict, start_room, parted_ends}
use Rattle.reading.proofs.read_area.Goals as goal

pub returns : goal.returns
unfolding area_read text codes
returns c =
    parted_ends _ _ _ take_planform planform_strict c.line_start.ensures
    (start_room _ _ _ c.line_start.ensures c.requires.0 c.requires.1)
    c.take_text-limit.ensures c.take_planform-planform.ensures c.take_text-all.ensures
    (λ (limit planform points : ℕ) (figures : List Float). area_asked limit points (planform_of planform figures))
    c.area_asked.ensures c.end_form.ensures
