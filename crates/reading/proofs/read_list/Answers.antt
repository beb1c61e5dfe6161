-- `reading::read_list` meets its contract: its parts are read to the end. Assumes nothing.
use mathlib.Core.Path.{refl}
use Rattle.tokens.specs.Text.{text, codes}
use Rattle.templates.specs.Matching.{take_text, take_each}
use Rattle.reading.specs.Lines.{list_read}
use Rattle.reading.proofs.Stands.{each_strict, start_room, parted_ends}
use Rattle.reading.proofs.read_list.Goals as goal

pub returns : goal.returns
unfolding list_read text codes
returns c =
    parted_ends _ _ _ (take_each (take_text c.args.each.now)) (each_strict _) c.line_start.ensures
    (start_room _ _ _ c.line_start.ensures c.requires.0 c.requires.1)
    c.take_text-first.ensures c.take_each-parts.ensures c.take_text-all.ensures (λ _ _ _ _. c.args.asked) refl c.end_form.ensures
