-- `lent_engines::write_screens` meets its contract: nine stores. Assumes nothing.
use native.Mathlib.Omega.{arith}
use lib.ListN.{length-set}
use Rattle.lent_engines.proofs.Screens.{held_eight, screens_written}
use Rattle.lent_engines.proofs.write_screens.Goals as goal

pub bounds-counts-1 : goal.bounds-counts-1
bounds-counts-1 c = simp length-set (omega arith)

pub bounds-counts-2 : goal.bounds-counts-2
bounds-counts-2 c = simp length-set (omega arith)

pub bounds-counts-3 : goal.bounds-counts-3
bounds-counts-3 c = simp length-set (omega arith)

pub bounds-counts-4 : goal.bounds-counts-4
bounds-counts-4 c = simp length-set (omega arith)

pub bounds-counts-5 : goal.bounds-counts-5
bounds-counts-5 c = simp length-set (omega arith)

pub bounds-counts-6 : goal.bounds-counts-6
bounds-counts-6 c = simp length-set (omega arith)

pub bounds-counts-7 : goal.bounds-counts-7
bounds-counts-7 c = simp length-set (omega arith)

pub bounds-counts-8 : goal.bounds-counts-8
bounds-counts-8 c = simp length-set (omega arith)

pub shape_of-counts : goal.shape_of-counts
shape_of-counts c = simp length-set (omega arith)

pub returns : goal.returns
returns c = screens_written c.args.screens _ _ c.requires (held_eight c.args.screens _ c.well_formed.1.0) c.counts_of-written.ensures
