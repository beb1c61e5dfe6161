-- What is left to sweep: none, none because the off-diagonal sum is 0, or a sweep and one less. Assumes nothing.
use mathlib.Core.Path.{◌≡◌}
use mathlib.Core.Bool.{true, false}
use Prim.Native.Nat.{ℕ, zero, suc, ◌+◌, ◌<◌, ◌≤◌}
use native.Mathlib.Numerals.{add-one}
use native.Mathlib.Omega.{arith}
use lib.Ieee.{Float, eq}
use Rattle.floats.specs.Operations.{bits}
use Rattle.bodies.specs.declared.Matrix.{Matrix}
use Rattle.moments.specs.Moments.{off_diagonal, sweep, sweeps}

pub sweeps_none : (n : ℕ) (t : Matrix) {all : Matrix} → n ≤ 0 → sweeps n t ≡ all → t ≡ all
unfolding sweeps
sweeps_none zero t h e = e
sweeps_none (suc n) t h e = absurd (let z : ⊥ = omega arith in z)

pub sweeps_end : (n : ℕ) (t : Matrix) {off : Float} {all : Matrix} → 0 < n → off ≡ off_diagonal t → eq off (bits 0) ≡ true
    → sweeps n t ≡ all
    → t ≡ all
unfolding sweeps
sweeps_end zero t l o h e = absurd (let z : ⊥ = omega arith in z)
sweeps_end (suc n) t l o h e = rw (← o, h) at e

pub sweeps_more : (n m : ℕ) (t : Matrix) {off : Float} {u all : Matrix} → m + 1 ≡ n → off ≡ off_diagonal t → eq off (bits 0) ≡ false
    → u ≡ sweep t → sweeps n t ≡ all → sweeps m u ≡ all
unfolding sweeps
sweeps_more n m t l o h s e = rw s (rw (← l, add-one, ← o, h) at e)
