-- `hexadecimal::put_figure` meets its contract: the digits still to come, with those that stand behind them, are the whole text. Assumes
-- nothing.
use mathlib.Core.List.{◌++◌}
use mathlib.Core.Path.{◌≡◌}
use Prim.Native.Nat.{◌+◌}
use lib.ListN.{take, drop}
use Rattle.hexadecimal.specs.Hex.{digits, printed_bits}
use Rattle.hexadecimal.proofs.Printing.{behind}
use Rattle.hexadecimal.proofs.put_figure.Given as goal

abbrev pub invariant-loop-k : goal.invariant-loop-k
invariant-loop-k l = (take l.n l.out ≡ take l.n l.initial.out)
    × (digits 16 (printed_bits l.x) ≡ digits l.k l.rest ++ behind l.out l.n l.k) × (drop (l.n + 16) l.out ≡ drop (l.n + 16) l.initial.out)
