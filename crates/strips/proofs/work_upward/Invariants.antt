-- `strips::work_upward` meets its contract: the strips left from each break height on make up the run. Assumes nothing.
use Rattle.std.proofs.Common.{◌-◌}
use Rattle.integrands.specs.Integrands.{sample_of}
use Rattle.strips.proofs.Upward.{State}
use Rattle.strips.proofs.work_upward.Given as goal

abbrev pub invariant-loop-i : goal.invariant-loop-i
invariant-loop-i l = State (sample_of l.integrand l.points) l.limit l.integrand.scale
    l.heights l.initial.scratch l.scratch l.total (l.i - 1)
