-- `moments::run_sweeps` meets its contract: what is left to sweep from here gives what the whole does. Assumes nothing.
use native.Mathlib.Omega.{arith}
use Rattle.moments.proofs.Sweeps.{sweeps_none, sweeps_end, sweeps_more}
use Rattle.moments.proofs.run_sweeps.Goals as goal

pub returns-then-off_diagonal : goal.returns-then-off_diagonal
returns-then-off_diagonal c = sweeps_end _ _ (omega arith) c.off_diagonal.ensures c.if-off_diagonal.true c.loop.invariant

pub loop-preserved : goal.loop-preserved
loop-preserved c =
    sweeps_more _ _ _ (omega arith) c.off_diagonal.ensures c.if-off_diagonal.false c.sweep_once-matrix.ensures
    c.loop.invariant

pub returns : goal.returns
returns c = sweeps_none _ _ (omega arith) c.loop.invariant
