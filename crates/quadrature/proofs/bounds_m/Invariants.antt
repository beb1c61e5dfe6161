-- `quadrature::bounds_m` meets its contract: of the first i heights none is below lo or above hi. Assumes nothing.
use Rattle.quadrature.specs.Tally.{WithinTo}
use Rattle.quadrature.proofs.bounds_m.Given as goal

abbrev pub invariant-loop-i : goal.invariant-loop-i
invariant-loop-i l = WithinTo l.i l.scale l.heights l.lo l.hi
