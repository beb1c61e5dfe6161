-- `engines::next_screen` meets its contract: the search from here on gives what the whole search gives. Assumes nothing.
use mathlib.Core.Path.{◌≡◌}
use Prim.Native.Nat.{◌-◌}
use Rattle.engines.specs.Engines.{first_held}
use Rattle.engines.proofs.next_screen.Given as goal

abbrev pub invariant-loop : goal.invariant-loop
invariant-loop l = first_held l.screens l.screen (8 - l.counter) ≡ first_held l.screens l.initial.screen 8
