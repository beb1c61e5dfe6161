-- `counts::read_count` meets its contract: after i digits, what is left to read from the number in hand is the whole. Assumes nothing.
use mathlib.Core.Path.{◌≡◌}
use Prim.Native.Nat.{◌≤◌}
use lib.ListN.{drop}
use Rattle.counts.specs.Counts.{read_digits, count_of, capped_count}
use Rattle.counts.proofs.read_count.Given as goal

abbrev pub invariant-loop-b : goal.invariant-loop-b
invariant-loop-b l =
    (l.n ≤ 1_000_000) × (capped_count (count_of l.word) ≡ capped_count (read_digits (drop l.b-index l.word) l.n))
