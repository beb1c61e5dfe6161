-- `refusals::write_count` meets its contract. Assumes nothing.
use native.Mathlib.Omega.{arith}
use lib.ListN.{length-set}
use Rattle.refusals.specs.Lent.{with_count}
use Rattle.refusals.proofs.Lists.{three_written}
use Rattle.refusals.proofs.write_count.Goals as goal

pub bounds-counts-1 : goal.bounds-counts-1
bounds-counts-1 c = simp length-set (omega arith)

pub returns : goal.returns
unfolding with_count
returns c =
    let s = c.before.before in
    rw c.verdict_values-found.ensures (three_written c.args.counts.now _ _ _ c.requires)
