-- `joins::join_two` meets its contract: the steps over two bodies, in order. Assumes nothing.
use Rattle.joins.proofs.InOrder.{two_added}
use Rattle.joins.proofs.join_two.Goals as goal

pub returns : goal.returns
returns c =
    let joined = c.before.before in
    two_added _ _ c.no_sums.ensures c.add_body.ensures c.add_body-sums.ensures
    c.at_centre.ensures c.add_inertia.ensures c.add_inertia-2.ensures
