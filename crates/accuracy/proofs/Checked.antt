-- What the checks of a call leave: a tip chord that is not below 0, a density above 0 within its limits. Assumes nothing.
use Rattle.std.specs.Prelude.{Ok}
use mathlib.Core.Path.{◌≡◌, refl, sym, ◌∙◌}
use mathlib.Core.Bool.{true, false, ◌||◌}
use mathlib.Core.List.{List}
use Prim.Native.Nat.{ℕ, ◌*◌, ◌^◌, ◌≤◌, zero-le}
use native.Mathlib.Omega.{arith}
use lib.Dec.{T}
use lib.Ieee.{Float, nan, inf, fin, lt, binary64, fits, of_bits, le, eq}
use lib.Ieee.Scale.{finite}
use lib.Ieee.Positive.{num, den, den_pos, positive, between, le→cross}
use Rattle.floats.specs.Operations.{bits}
use Rattle.floats.proofs.Bools.{of_true, no}
use Rattle.floats.proofs.Order.{le_of_not, equal_not_below, equal_sym}
use Rattle.rounding.proofs.Ordered.{le→order}
use Rattle.rounding.proofs.Signs.{finite_no_nan}
use Rattle.rounding_error.proofs.Numbers.{value_of, Ranges, size_of}
use Rattle.refusals.proofs.Accepted.{both, holds}
use Rattle.limits.specs.Limits.{root_chord_field, tip_chord_field, length_check, is_within}
use Rattle.limits.proofs.Lengths.{height_checked}
use Rattle.planforms.specs.declared.Planform.TheVariants.{Trapezoid}
use Rattle.outlines.specs.Outlines.{planform_check}
use Rattle.error_terms.proofs.Floors.{NotBelow}
use mathlib.Core.Logic.{inl, inr}
use mir.Facts.{or_yes}
use lib.Ieee.Bits.{is_true}
use lib.Ieee.Fits.{and_l, and_r}
use Rattle.refusals.specs.declared.Refusal.TheVariants.{Density as density}
use Rattle.materials.specs.declared.Density.TheVariants.{Bulk}
use Rattle.materials.specs.Materials.{lightest, heaviest, density_check}

-- ---- a tip chord is not below 0
pub from_zero : (x : Float) → T (finite x) → T (le (bits 0) x) → NotBelow (value_of x)
unfolding of_bits
from_zero nan i h = absurd i
from_zero (inf s) i h = absurd i
from_zero (fin false m e) i h = zero-le
from_zero (fin true m e) i h = let o = le→order (bits 0) (fin true m e) tt tt h in omega arith

pub not_below : (x : Float) → T (finite x) → lt x (bits 0) ≡ false → NotBelow (value_of x)
unfolding of_bits
not_below x i h = from_zero x i (of_true _ (le_of_not (bits 0) x (finite_no_nan (bits 0) tt) (finite_no_nan x i) h))

pub tip_checked : (root tip span sweep : Float) (points : List Float) → T (fits binary64 tip) → planform_check
    (Trapezoid root tip span sweep) points ≡ Ok tt → lt tip (bits 0) ≡ false
unfolding planform_check
tip_checked root tip span sweep points f h = (height_checked tip_chord_field tip f
    (both (length_check tip_chord_field tip) _ (both (length_check root_chord_field root) _ h).1).0 refl refl).not_under

-- ---- a density above 0 within its limits
pub density_checked : (x : Float) → density_check (Bulk x) ≡ Ok tt → lt (bits 0) x ≡ true → T (positive x) × Ranges 24 (size_of x)
unfolding density_check of_bits
density_checked x h w = elim (or_yes (eq x (bits 0)) (is_within lightest heaviest x)
    (of_true (eq x (bits 0) || is_within lightest heaviest x) (holds (eq x (bits 0) || is_within lightest heaviest x) density h))) [
      | inl k ↦ no (sym w ∙ equal_not_below (bits 0) x (equal_sym x (bits 0) (is_true (eq x (bits 0)) k)))
      | inr k ↦
          (let l = and_l (le lightest x) (le x heaviest) k in
          let u = and_r (le lightest x) (le x heaviest) k in
          let p = between lightest x heaviest tt tt l u in (
            p,
            record {
              real = den_pos x;
              least = low (num x) (den x) (le→cross lightest x tt p l);
              most = high (num x) (den x)
                  (le→cross x heaviest p tt u);
            },
          ))
    ]
  where
    low : (N D : ℕ) → 1 * D ≤ N * 2 ^ 10 → D ≤ N * 2 ^ 24
    low N D h = omega arith

    high : (N D : ℕ) → N * 1 ≤ 2 ^ 15 * D → N ≤ D * 2 ^ 24
    high N D h = omega arith
