-- `polygons::lies_on` meets its contract: its parts are the definition's. Assumes nothing.
use Rattle.polygons.specs.Polygons.{lies_on}
use Rattle.polygons.proofs.Sizes.{offset_back, result_back}
use Rattle.polygons.proofs.lies_on.Goals as goal

pub returns : goal.returns
unfolding lies_on
returns c =
    let second = c.product-2 in
    let first = c.product in
    let a = c.args.a in
    let b = c.args.b in
    let small = c.requires in
    rw (
      c.is_zero_between-2.ensures,
      c.is_zero_between.ensures,
      c.is_same-in_line.ensures,
      result_back first.result first.type_inv,
      result_back second.result second.type_inv,
      first.ensures.0,
      second.ensures.0,
      offset_back a.across small.0.0,
      offset_back a.up small.0.1,
      offset_back b.across small.1.0,
      offset_back b.up small.1.1,
    )
