-- No more entries are counted than were checked.
use Rattle.std.proofs.Common.{◌≤◌}
use Rattle.published_digits.proofs.check_all.Given as goal

abbrev pub invariant-loop-e : goal.invariant-loop-e
invariant-loop-e l = l.nearest ≤ l.e
