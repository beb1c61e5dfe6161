-- `blocks::lookup::find` meets its contract: the text for the key is among those still to come. Assumes nothing.
use mathlib.Core.Path.{◌≡◌}
use Prim.Native.Nat.{◌-◌, ◌≤◌}
use lib.ListN.{length, drop}
use Rattle.templates.specs.Matching.{cut_at_bars}
use Rattle.blocks.specs.Tables.{text_for}
use Rattle.blocks.proofs.lookup.find.Given as goal

abbrev pub invariant-loop-at : goal.invariant-loop-at
invariant-loop-at l = (l.at ≤ length l.table) × (text_for l.key (cut_at_bars l.table) ≡ text_for l.key (cut_at_bars (drop l.at l.table)))

abbrev pub decreases-loop-at : goal.decreases-loop-at
decreases-loop-at l = length l.table - l.at
