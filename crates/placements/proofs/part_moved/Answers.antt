-- `placements::part_moved` meets its contract: its calls, put together. Assumes nothing.
use Rattle.placements.specs.Parts.{part_moved_of}
use Rattle.placements.proofs.part_moved.Goals as goal

pub returns : goal.returns
unfolding part_moved_of
returns c =
    let about = c.before in
    let scaled = about.before in
    let difference = scaled.before in
    let after = difference.before in
    let to = after.before in
    let moved = to.before in
    let before = moved.before in
    let from = before.before in
    rw (
      c.add-inertia_kg_m2.ensures,
      c.inertia_about.ensures,
      c.scale-moved.ensures,
      c.subtract-3.ensures,
      c.offset_tensor-after.ensures,
      c.subtract-2.ensures,
      c.add.ensures,
      c.offset_tensor-before.ensures,
      c.subtract.ensures,
      c.add-centre_m.ensures,
      c.scale-share.ensures,
    )
