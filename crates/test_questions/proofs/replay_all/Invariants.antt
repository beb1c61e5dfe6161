-- What is lent keeps its length, and what is kept of a line stays within its buffer.
use Rattle.std.proofs.Common.{◌≡◌, ◌≤◌, length}
use Rattle.test_questions.proofs.replay_all.Given as goal

abbrev pub invariant-loop : goal.invariant-loop
invariant-loop l = (length l.block ≡ length l.initial.block) × (length l.line ≡ length l.initial.line)
    × (length l.values ≡ length l.initial.values) × (l.p.kept ≤ length l.initial.line)
