-- `joins::join_numbers` meets its contract: after k turns the tensors of the first k bodies are added. Assumes nothing.
use mathlib.Core.Path.{◌≡◌}
use Rattle.joins.specs.Flat.{body_at}
use Rattle.joins.proofs.InOrder.{joined_to}
use Rattle.joins.proofs.join_numbers.Given as goal

abbrev pub invariant-loop-k : goal.invariant-loop-k
invariant-loop-k l = l.joined ≡ joined_to (body_at l.numbers) l.count l.k
