-- The Rust's first step takes the means of opposite entries. Of six numbers that 17a lets pass it changes nothing: half
-- the sum of a number and itself is that number, bit for bit. Assumes nothing.
use mathlib.Core.Path.{◌≡◌, refl, sym}
use mathlib.Core.Bool.{Bool, true, false, not}
use Prim.Native.Nat.{ℕ, ◌<◌}
use native.Mathlib.Omega.{arith}
use lib.Dec.{T, lit≤}
use lib.IntN.{pos}
use lib.Ieee.{Float, nan, inf, fin, binary64, fits, lt, is_nan, of_bits}
use Rattle.floats.specs.Operations.{◌⊕◌, ◌⊗◌, bits}
use Rattle.floats.specs.Constants.{half}
use Rattle.floats.specs.Floats.{abs_of}
use Rattle.floats.proofs.Bools.{no, of_true}
use Rattle.floats.proofs.Every.{every_holds}
use Rattle.floats.proofs.Order.{le_of_not}
use Rattle.rounding.specs.Sizes.{Below}
use Rattle.rounding.proofs.Sizes.{weaker}
use Rattle.rounding.proofs.Tests.{most_of_le}
use Rattle.rounding.proofs.Halves.{half_of_double}
use Rattle.bodies.specs.declared.Tensor.{Tensor}
use Rattle.bodies.specs.Tensors.{number_at, as_matrix, averaged}
use Rattle.bodies.specs.Layout.{tensor_numbers}
use Rattle.moments.specs.Moments.{entry_fits, entries_fit}

largest_is : bits 0x5f30_0000_0000_0000 ≡ fin false 1 (pos 500)
unfolding of_bits
largest_is = refl

-- an entry that fits is at most 2^500
entry_below : (x : Float) → entry_fits x ≡ true → Below 500 x
unfolding abs_of is_nan
entry_below nan h = no (sym h)
entry_below (inf s) h = no (sym h)
entry_below (fin s m e) h =
    most_of_le (fin s m e) (fin false 1 (pos 500)) tt refl
    (of_true _ (le_of_not (fin false m e) (fin false 1 (pos 500)) refl refl
    (not_so (lt (fin false 1 (pos 500)) (fin false m e)) (rw largest_is at h))))
  where
    not_so : (b : Bool) → not b ≡ true → b ≡ false
    not_so true h = sym h
    not_so false h = refl

pub first_step : (t : Tensor) → ((i : ℕ) → i < tensor_numbers → T (fits binary64 (number_at t i))) → entries_fit t ≡ true
    → as_matrix (averaged (as_matrix t)) ≡ as_matrix t
first_step t f h =
    let mean : (i : ℕ) → i < tensor_numbers → half ⊗ (number_at t i ⊕ number_at t i) ≡ number_at t i =
    λ i l. half_of_double (number_at t i) (f i l)
    (weaker (number_at t i) 500 1000 (lit≤ tt)
    (entry_below (number_at t i) (every_holds tensor_numbers (λ k. entry_fits (number_at t k)) h i l))) in
    rw (mean 3 (omega arith), mean 4 (omega arith), mean 5 (omega arith))
