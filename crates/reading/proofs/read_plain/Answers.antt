-- `reading::read_plain` meets its contract: its text is read to the end. Assumes nothing.
use mathlib.Core.Path.{refl}
use Rattle.reading.specs.Lines.{plain_read}
use Rattle.reading.proofs.Stands.{start_room, whole_ends}
use Rattle.reading.proofs.read_plain.Goals as goal

pub returns : goal.returns
unfolding plain_read
returns c =
    whole_ends _ _ c.line_start.ensures (start_room _ _ _ c.line_start.ensures c.requires.0 c.requires.1) c.take_text-all.ensures
    (λ _ _. c.args.asked) refl c.end_form.ensures
