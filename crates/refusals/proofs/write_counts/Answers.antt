-- `refusals::write_counts` meets its contract. Assumes nothing.
use native.Mathlib.Omega.{arith}
use lib.ListN.{length-set}
use Rattle.refusals.specs.Lent.{with_counts}
use Rattle.refusals.proofs.Lists.{four_written}
use Rattle.refusals.proofs.write_counts.Goals as goal

pub bounds-counts-1 : goal.bounds-counts-1
bounds-counts-1 c = simp length-set (omega arith)

pub bounds-counts-2 : goal.bounds-counts-2
bounds-counts-2 c = simp length-set (omega arith)

pub returns : goal.returns
unfolding with_counts
returns c =
    let s = c.before.before in
    rw c.verdict_values-found.ensures (four_written c.args.counts.now _ _ _ _ c.requires)
