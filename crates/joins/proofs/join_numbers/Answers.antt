-- `joins::join_numbers` meets its contract: after k turns the tensors of the first k bodies are added. Assumes nothing.
use Rattle.std.proofs.Common.{rules}
use Rattle.joins.specs.Joins.{join_of}
use Rattle.joins.proofs.InOrder.{none_joined, join_next}
use Rattle.joins.proofs.join_numbers.Goals as goal

pub loop-k-init : goal.loop-k-init
loop-k-init c = none_joined _ _ c.sum_numbers.ensures c.at_centre-joined.ensures

pub loop-k-preserved : goal.loop-k-preserved
loop-k-preserved c = join_next _ _ _ c.loop-k.invariant c.body_at.ensures c.add_inertia-joined.ensures

pub returns : goal.returns
unfolding join_of
returns c = search rules
