-- `test_questions::take_block` meets its contract: what is kept of a line stays within its buffer, byte for byte. Assumes nothing.
use Rattle.std.proofs.Common.{◌≡◌, ◌≤◌, length}
use Rattle.test_questions.proofs.take_block.Given as goal

abbrev pub invariant-loop-b : goal.invariant-loop-b
invariant-loop-b l = (length l.line ≡ length l.initial.line) × (length l.values ≡ length l.initial.values)
    × (l.progress.kept ≤ length l.initial.line)
