-- `moments::run_sweeps` meets its contract: what is left to sweep from here gives what the whole does. Assumes nothing.
use Rattle.std.proofs.Common.{◌≡◌, ◌-◌}
use Rattle.moments.specs.Moments.{sweeps}
use Rattle.moments.proofs.run_sweeps.Given as goal

abbrev pub invariant-loop : goal.invariant-loop
invariant-loop l = sweeps (32 - l.counter) l.matrix ≡ sweeps 32 l.initial.matrix
