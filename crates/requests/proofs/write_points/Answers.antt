-- `requests::write_points` meets its contract: after k turns the first k points stand in the list. Assumes nothing.
use native.Mathlib.Omega.{arith}
use Rattle.joins.proofs.Listed.{none_written, one_written, length_written}
use Rattle.requests.proofs.write_points.Goals as goal

pub loop-k-init : goal.loop-k-init
loop-k-init c = none_written _ _

pub write_body-requires : goal.write_body-requires
write_body-requires c =
    let e = length_written _ _ c.loop-k.k c.loop-k.invariant (omega arith) in
    omega arith

pub loop-k-preserved : goal.loop-k-preserved
loop-k-preserved c = one_written _ _ c.loop-k.k c.loop-k.invariant c.point_body.ensures c.write_body.ensures
