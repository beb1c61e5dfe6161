-- `moments::entries_fit` meets its contract: every entry passed fits, and one that does not settles it. Assumes nothing.
use mathlib.Core.Path.{sym}
use native.Mathlib.Omega.{arith}
use Rattle.bodies.specs.Layout.{tensor_numbers}
use Rattle.floats.proofs.Every.{every_none, every_more, every_not}
use Rattle.moments.proofs.entries_fit.Goals as goal

pub loop-entry-init : goal.loop-entry-init
loop-entry-init c = every_none _

pub returns-then-not-entry_fits : goal.returns-then-not-entry_fits
returns-then-not-entry_fits c =
    sym
    (every_not tensor_numbers _ c.loop-entry.entry-index (omega arith) c.entry_fits.ensures
    c.if-not-entry_fits.true)

pub loop-entry-preserved : goal.loop-entry-preserved
loop-entry-preserved c = every_more _ _ c.loop-entry.invariant c.entry_fits.ensures c.if-not-entry_fits.false
