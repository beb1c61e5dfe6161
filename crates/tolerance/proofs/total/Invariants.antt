-- `tolerance::total` meets its contract: what is left to add up from here is the whole sum. Assumes nothing.
use mathlib.Core.Path.{◌≡◌}
use Prim.Native.Nat.{◌-◌, ◌*◌}
use lib.ListN.{drop}
use Rattle.limits.specs.Limits.{piece_numbers}
use Rattle.pieces.specs.Stored.{pieces_in}
use Rattle.tolerance.proofs.Added.{sums_from, no_sums}
use Rattle.tolerance.proofs.total.Given as goal

abbrev pub invariant-loop-i : goal.invariant-loop-i
invariant-loop-i l =
    sums_from l.sums (pieces_in (l.n - l.i) (drop (l.i * piece_numbers) l.scratch)) ≡ sums_from no_sums (pieces_in l.n l.scratch)
