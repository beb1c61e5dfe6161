-- `halving::repeat` meets its contract: from each turn on the halving is the whole one. Assumes nothing.
use Prim.Native.Nat.{◌-◌}
use Rattle.integrands.specs.Integrands.{sample_of}
use Rattle.halving.proofs.Repeats.{State}
use Rattle.halving.proofs.repeat.Given as goal

abbrev pub invariant-loop-ending : goal.invariant-loop-ending
invariant-loop-ending l =
    State (sample_of l.integrand l.points) l.limit l.taken l.initial.scratch l.scratch l.n l.samples

abbrev pub decreases-loop-ending : goal.decreases-loop-ending
decreases-loop-ending l = l.limit - l.n
