-- `joins::join` meets its contract: the steps over all bodies make the join (joins/proofs/InOrder). Assumes nothing.
use Rattle.std.proofs.Common.{length}
use Rattle.joins.specs.Joins.{add_body, add_inertia}
use Rattle.joins.specs.Lists.{body_in}
use Rattle.joins.proofs.InList.{added}
use Rattle.joins.proofs.InOrder.{all_added}
use Rattle.joins.proofs.join.Goals as goal

pub returns : goal.returns
returns c =
    let bodies = c.args.bodies.now in
    all_added (body_in bodies) (length bodies) c.no_sums.ensures (added add_body _ bodies c.add_bodies-sums.ensures) c.at_centre.ensures
    (added add_inertia _ bodies c.add_inertias.ensures)
