-- `templates::take_optional` meets its contract: one of the alternatives, or nothing taken. Assumes nothing.
use mathlib.Core.Path.{refl}
use Rattle.templates.specs.Matching.{numbered}
use Rattle.templates.proofs.Steps.{as_is}
use Rattle.templates.proofs.Choices.{here, room_again, note, next_tried}
use Rattle.templates.proofs.take_optional.Goals as goal

pub returns : goal.returns
returns c =
    as_is _ _ _ _ c.with_number.ensures refl
    (next_tried _ _ _ _ _ _ c.take_one_of-r.ensures _ _ (numbered 0) c.if-r.false
    (note _ _ _ _ _ _
    (here _ _ _ (room_again _ _ _ _ _ _ c.take_one_of-r.ensures c.requires.0)) 0))
