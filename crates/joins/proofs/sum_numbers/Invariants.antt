-- `joins::sum_numbers` meets its contract: after k turns the first k bodies are in the sums. Assumes nothing.
use mathlib.Core.Path.{◌≡◌}
use Rattle.joins.specs.Flat.{body_at}
use Rattle.joins.specs.Joins.{sums_of}
use Rattle.joins.proofs.sum_numbers.Given as goal

abbrev pub invariant-loop-k : goal.invariant-loop-k
invariant-loop-k l = l.sums ≡ sums_of (body_at l.numbers) l.k
