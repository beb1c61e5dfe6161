-- `significant::top` meets its contract: all digits from i on are 0. Assumes nothing.
use mathlib.Core.Path.{◌≡◌}
use lib.ListN.{drop}
use Rattle.significant.specs.Digits.{value}
use Rattle.significant.proofs.top.Given as goal

abbrev pub invariant-loop-i : goal.invariant-loop-i
invariant-loop-i l = value (drop l.i l.digits) ≡ 0
