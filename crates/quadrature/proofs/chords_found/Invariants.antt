-- `quadrature::chords_found` meets its contract: after i turns the first i are found. Assumes nothing.
use mathlib.Core.Path.{◌≡◌}
use lib.ListN.{length}
use Rattle.limits.specs.Limits.{piece_samples}
use Rattle.quadrature.specs.Tally.{FoundTo}
use Rattle.quadrature.proofs.chords_found.Given as goal

abbrev pub invariant-loop-i : goal.invariant-loop-i
invariant-loop-i l = (length l.found ≡ piece_samples) × FoundTo l.i l.integrand l.points l.heights l.found
