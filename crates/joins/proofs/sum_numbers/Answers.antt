-- `joins::sum_numbers` meets its contract: after k turns the first k bodies are in the sums. Assumes nothing.
use mathlib.Core.Path.{◌∙◌}
use Rattle.joins.proofs.InOrder.{no_sums_lem, sums_next}
use Rattle.joins.proofs.sum_numbers.Goals as goal

pub loop-k-init : goal.loop-k-init
loop-k-init c = c.no_sums-sums.ensures ∙ no_sums_lem _

pub loop-k-preserved : goal.loop-k-preserved
loop-k-preserved c = sums_next _ _ c.loop-k.invariant c.body_at.ensures c.add_body-sums.ensures
