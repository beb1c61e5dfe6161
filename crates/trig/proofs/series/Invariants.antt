-- `trig::series` meets its contract. The loop's invariant: the steps that are left, from the present v, give what all give from 1, for the
-- sine's divisors and for the cosine's. Assumes nothing.
use mathlib.Core.Path.{◌≡◌}
use mathlib.Core.List.{List}
use Prim.Native.Nat.{ℕ}
use lib.ListN.{length, drop}
use lib.Ieee.{Float}
use Rattle.floats.specs.Operations.{whole, at}
use Rattle.trig.specs.Trig.{steps, sine_divisors, cosine_divisors}
use Rattle.trig.proofs.series.Given as goal

-- i of the divisors are taken, and v stands
abbrev pub Left : Float → List Float → Float → ℕ → Type 0
Left z ds v i = steps z (drop i ds) v ≡ steps z ds (whole 1)

abbrev pub invariant-loop-i : goal.invariant-loop-i
invariant-loop-i l = (length l.v ≡ 2) × Left l.z sine_divisors (at l.v 0) l.i × Left l.z cosine_divisors (at l.v 1) l.i
