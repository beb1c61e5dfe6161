-- `screen_exports::tell_progress` meets its contract. Assumes nothing.
use native.Mathlib.Omega.{arith}
use lib.ListN.{length-set}
use Rattle.refusals.proofs.Lists.{four_written}
use Rattle.screen_exports.specs.Calls.{with_progress}
use Rattle.screen_exports.proofs.tell_progress.Goals as goal

pub bounds-counts-1 : goal.bounds-counts-1
bounds-counts-1 c = simp length-set (omega arith)

pub bounds-counts-2 : goal.bounds-counts-2
bounds-counts-2 c = simp length-set (omega arith)

pub bounds-counts-3 : goal.bounds-counts-3
bounds-counts-3 c = simp length-set (omega arith)

pub returns : goal.returns
unfolding with_progress
returns c = four_written c.args.counts.now _ _ _ _ c.requires
