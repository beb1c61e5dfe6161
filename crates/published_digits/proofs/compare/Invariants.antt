-- What is left stays below 2^60, so that ten times it fits.
use Rattle.std.proofs.Common.{◌<◌}
use Rattle.published_digits.proofs.compare.Given as goal

abbrev pub invariant-loop-published : goal.invariant-loop-published
invariant-loop-published l = l.rest < 0x1000_0000_0000_0000
