-- `tokens::word_end` meets its contract: from a byte of a word on, the part passed is the word so far. Assumes nothing.
use mathlib.Core.Path.{◌≡◌}
use Prim.Native.Nat.{◌+◌}
use lib.ListN.{drop}
use Rattle.tokens.specs.Tokens.{tokens_after, tokens}
use Rattle.tokens.specs.Found.{part}
use Rattle.tokens.specs.Places.{run, in_word}
use Rattle.tokens.proofs.word_end.Given as goal

abbrev pub invariant-loop-i : goal.invariant-loop-i
invariant-loop-i l =
    (tokens (drop l.at l.line) ≡ tokens_after (part l.line l.at l.i) (drop l.i l.line))
    × (l.at + run in_word (drop l.at l.line) ≡ l.i + run in_word (drop l.i l.line))
