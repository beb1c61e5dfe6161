-- `blocks::words::read_answer` meets its contract: what was read with what is still to come is the whole. Assumes nothing.
use mathlib.Core.Path.{◌≡◌}
use Prim.Native.Nat.{◌+◌, ◌-◌}
use lib.ListN.{length}
use Rattle.blocks.proofs.Reading.{SoFar}
use Rattle.blocks.proofs.words.read_answer.Given as goal

abbrev pub invariant-loop-i : goal.invariant-loop-i
invariant-loop-i l =
    SoFar l.line l.r l.i l.shape l.figures l.counts × (length l.shape ≡ length l.initial.shape)
    × (length l.figures ≡ length l.initial.figures)
    × (length l.counts ≡ length l.initial.counts)

abbrev pub decreases-loop-i : goal.decreases-loop-i
decreases-loop-i l = length l.line + 1 - l.i
