-- `trig::series` meets its contract. The loop's invariant: the steps that are left, from the present v, give what all give from 1, for the
-- sine's divisors and for the cosine's. Assumes nothing.
use mathlib.Core.Path.{◌≡◌, refl, ap, ◌∙◌}
use mathlib.Core.List.{List}
use Prim.Native.Nat.{ℕ, ◌+◌, ◌<◌, ◌≤◌}
use native.Mathlib.Nat.{le_antisymm}
use native.Mathlib.Numerals.{add-one}
use native.Mathlib.Omega.{arith}
use lib.ListN.{length, drop}
use lib.Seq.{drop-cons, drop-length}
use lib.Ieee.{Float, nan, of_bits, of_int, round}
use Rattle.floats.specs.Operations.{◌⊖◌, ◌⊗◌, ◌⊘◌, bits, whole, at}
use Rattle.trig.specs.Trig.{steps, sine_divisors, cosine_divisors}
use Rattle.trig.proofs.series.Goals as goal
use Rattle.trig.proofs.series.Invariants.{Left}

-- the code's 1.0
one : bits 0x3ff0_0000_0000_0000 ≡ whole 1
unfolding of_bits of_int round
one = refl

none_taken : (z : Float) (ds : List Float) → Left z ds (bits 0x3ff0_0000_0000_0000) 0
none_taken z ds = ap (steps z ds) one

one_more : (z : Float) (ds : List Float) (v : Float) (i : ℕ) → i < length ds → Left z ds v i
    → Left z ds (bits 0x3ff0_0000_0000_0000 ⊖ (z ⊘ at ds i) ⊗ v) (i + 1)
unfolding steps
one_more z ds v i h e = step h ∙ e
  where
    step : i < length ds → steps z (drop (i + 1) ds) (bits 0x3ff0_0000_0000_0000 ⊖ (z ⊘ at ds i) ⊗ v) ≡ steps z (drop i ds) v
    step h = rw (add-one, one, drop-cons ds i nan)

none_left : (z : Float) (ds : List Float) (v : Float) (i : ℕ) → i ≤ length ds → length ds ≤ i → Left z ds v i → v ≡ steps z ds (whole 1)
unfolding steps
none_left z ds v i h k e = last h k ∙ e
  where
    last : i ≤ length ds → length ds ≤ i → v ≡ steps z (drop i ds) v
    last h k = rw (le_antisymm h k, drop-length)

pub loop-i-init : goal.loop-i-init
loop-i-init c = (refl, none_taken _ sine_divisors, none_taken _ cosine_divisors)

pub loop-i-preserved : goal.loop-i-preserved
unfolding of_bits of_int round
loop-i-preserved c =
    let head = c.loop-i in
    let z = c.args.z in (
      refl,
      one_more z sine_divisors (at head.v 0) head.i c.loop-i-test.true head.invariant.1,
      one_more z cosine_divisors (at head.v 1) head.i c.loop-i-test.true head.invariant.2,
    )

pub returns : goal.returns
returns c =
    let head = c.loop-i in
    let z = c.args.z in (
      none_left z sine_divisors (at head.v 0) head.i (omega arith) c.loop-i-test.false head.invariant.1,
      none_left z cosine_divisors (at head.v 1) head.i (omega arith) c.loop-i-test.false head.invariant.2,
    )
