-- `moments::entries_fit` meets its contract: every entry passed fits, and one that does not settles it. Assumes nothing.
use mathlib.Core.Bool.{true}
use mathlib.Core.Path.{◌≡◌}
use Rattle.floats.specs.Operations.{at, every}
use Rattle.moments.specs.Moments.{entry_fits}
use Rattle.moments.proofs.entries_fit.Given as goal

abbrev pub invariant-loop-entry : goal.invariant-loop-entry
invariant-loop-entry l = every l.entry-index (λ i. entry_fits (at l.entry-items i)) ≡ true
