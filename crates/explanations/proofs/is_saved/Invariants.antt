-- `explanations::is_saved` meets its contract: as long as no ending saved, those that are left decide. Assumes nothing.
use mathlib.Core.Path.{◌≡◌}
use lib.ListN.{length, take, drop}
use Rattle.explanations.specs.Endings.{saved}
use Rattle.explanations.proofs.is_saved.Given as goal

abbrev pub invariant-loop-j : goal.invariant-loop-j
invariant-loop-j l =
    (length l.trial ≡ length l.initial.trial) × (take l.n l.trial ≡ take l.n l.initial.trial)
    × (saved l.fault (take l.n l.initial.trial) l.endings ≡ saved l.fault (take l.n l.initial.trial) (drop l.j l.endings))
