-- `significant::number` meets its contract: d is the number that the digits from i on write, below 10 ^ 16. Assumes nothing.
use mathlib.Core.Path.{◌≡◌}
use lib.ListN.{drop}
use Rattle.significant.specs.Digits.{value}
use Rattle.significant.proofs.number.Given as goal

abbrev pub invariant-loop-i : goal.invariant-loop-i
invariant-loop-i l = l.d ≡ value (drop l.i l.digits)
