-- `reading::read_progress` meets its contract: its text is read to the end. Assumes nothing.
use mathlib.Core.List.{List}
use mathlib.Core.Path.{refl}
use Prim.Native.Nat.{ℕ}
use lib.Ieee.{Float}
use Rattle.tokens.specs.Text.{text, codes}
use Rattle.reading.specs.declared.Asked.TheVariants.{Progress}
use Rattle.reading.specs.Lines.{progress_read}
use Rattle.reading.proofs.Stands.{start_room, whole_ends}
use Rattle.reading.proofs.read_progress.Goals as goal

pub returns : goal.returns
unfolding progress_read text codes
returns c =
    whole_ends _ _ c.line_start.ensures (start_room _ _ _ c.line_start.ensures c.requires.0 c.requires.1) c.take_text-all.ensures
    (λ (screen : ℕ) (figures : List Float). Progress screen) refl c.end_form.ensures
