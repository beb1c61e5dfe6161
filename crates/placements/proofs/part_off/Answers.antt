-- `placements::part_off` meets its contract: its calls, put together. Assumes nothing.
use Rattle.placements.specs.Parts.{part_off_of}
use Rattle.placements.proofs.part_off.Goals as goal

pub returns : goal.returns
unfolding part_off_of
returns c =
    let whole = c.before in
    let part = whole.before in
    let centre = part.before in
    let left = centre.before in
    rw (
      c.subtract-inertia_kg_m2.ensures,
      c.inertia_about.ensures,
      c.inertia_about-part_inertia.ensures,
      c.divide-centre_m.ensures,
      c.subtract-left.ensures,
      c.scale.ensures,
      c.scale-of_part.ensures,
    )
