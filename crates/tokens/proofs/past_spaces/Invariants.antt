-- `tokens::past_spaces` meets its contract: a space in front changes no token. Assumes nothing.
use mathlib.Core.Path.{◌≡◌}
use Prim.Native.Nat.{◌+◌}
use lib.ListN.{drop}
use Rattle.tokens.specs.Tokens.{tokens}
use Rattle.tokens.specs.Places.{run, is_space}
use Rattle.tokens.proofs.past_spaces.Given as goal

abbrev pub invariant-loop-i : goal.invariant-loop-i
invariant-loop-i l =
    (tokens (drop l.at l.line) ≡ tokens (drop l.i l.line))
    × (l.at + run is_space (drop l.at l.line) ≡ l.i + run is_space (drop l.i l.line))
