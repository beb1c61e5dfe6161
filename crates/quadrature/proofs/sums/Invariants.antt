-- `quadrature::sums` meets its contract: after j turns the sums are those of the first j samples. Assumes nothing.
use Rattle.integrands.specs.Integrands.{sample_of}
use Rattle.quadrature.proofs.Tallies.{Summed}
use Rattle.quadrature.proofs.sums.Given as goal

abbrev pub invariant-loop-j : goal.invariant-loop-j
invariant-loop-j l = Summed (sample_of l.integrand l.points) l.heights l.kw l.gw l.j l.kronrod l.gauss
