-- `explanations::find_fault` meets its contract: as long as tokens pass, those that are left decide. Assumes nothing.
use mathlib.Core.Path.{◌≡◌}
use Prim.Native.Nat.{◌-◌, ◌≤◌}
use lib.ListN.{length}
use Rattle.tokens.specs.Tokens.{line_bytes}
use Rattle.explanations.specs.Endings.{fault_from, fault_place}
use Rattle.explanations.proofs.find_fault.Given as goal

abbrev pub invariant-loop-turn : goal.invariant-loop-turn
invariant-loop-turn l =
    (l.at ≤ length l.line) × (length l.trial ≡ length l.initial.trial)
    × (fault_place l.fault l.endings l.line ≡ fault_from (line_bytes - l._turn) l.fault l.endings l.line l.at)
