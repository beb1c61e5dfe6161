-- `reading::read_closing` meets its contract: its text is read to the end. Assumes nothing.
use mathlib.Core.List.{List}
use mathlib.Core.Path.{ap}
use Prim.Native.Nat.{ℕ}
use lib.Ieee.{Float}
use Rattle.floats.specs.Operations.{at}
use Rattle.tokens.specs.Text.{text, codes}
use Rattle.reading.specs.declared.Asked.TheVariants.{Closing}
use Rattle.reading.specs.Lines.{closing_read}
use Rattle.reading.proofs.Stands.{start_room, whole_ends}
use Rattle.reading.proofs.read_closing.Goals as goal

pub returns : goal.returns
unfolding closing_read text codes
returns c =
    whole_ends _ _ c.line_start.ensures (start_room _ _ _ c.line_start.ensures c.requires.0 c.requires.1) c.take_text-all.ensures
    (λ (count : ℕ) (figures : List Float). Closing count (at figures 0))
    (ap (Closing c.take_text-all.result.number) c.figure-body_radius_m.ensures) c.end_form.ensures
