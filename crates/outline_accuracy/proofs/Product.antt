-- Half a strip's width times the weighted sum of its samples. The first errs by a few roundoffs of the span, the second in units that grow
-- with the span over the strip's height; the strip's height multiplies that away. Assumes nothing.
use mathlib.Core.Path.{subst}
use Prim.Native.Nat.{ℕ, ◌+◌, ◌*◌, ◌^◌, ◌≤◌, ◌<◌}
use native.Mathlib.Nat.{le_refl, mul-pos, mul-le-mul_right, one-mul, mul-one, zero-mul, mul-zero, zero-add, add-zero}
use native.Mathlib.Omega.{arith}
use lib.Dec.{leb→le}
use lib.Pow.{pow_pos}
use lib.Ieee.{Float}
use Rattle.floats.specs.Operations.{◌⊗◌}
use Rattle.rounding_error.proofs.Numbers.{Number, Size, ◌per◌, ◌of◌, ◌by◌, ◌and◌, ◌times◌, ◌roundoffs◌, IsNumber, IsSize, Within, Under}
use Rattle.rounding_error.proofs.Numbers.{Near, Normal, zero_number, value_of}
use Rattle.rounding_error.proofs.Distances.{sorted, within_upto, within_times, within_trans, times_comm}
use Rattle.rounding_error.proofs.Operations.{mul_exact}
use Rattle.rounding_error.proofs.Counts as Counts

ruleset plain = (sorted, one-mul, mul-one, zero-mul, mul-zero, zero-add, add-zero)

-- L = b / d, the span N / D, the scale A / C, the strip's height e / f
module _ (b d N D A C e f : ℕ) (dd : 0 < d) (DD : 0 < D) (AA : 0 < A) (ee : 0 < e) (ff : 0 < f) (most : e * D ≤ N * f)
    (least : N * f ≤ 4096 * e * D) where
  abbrev pub height_unit : Size
  height_unit = (N * C) per (D * A)

  abbrev pub width_unit : Size
  width_unit = (b * N * C * f) per (d * D * A * e)

  abbrev pub area_unit : Size
  area_unit = (b * N * C * C) per (d * D * A * A)

  module _ (r s : Float) (ρ σ : Number) (R : IsNumber ρ) (S : IsNumber σ) (hr : Near r ρ (4 roundoffs height_unit))
      (hs : Near s σ (251 roundoffs width_unit))
      (ur : Under ((e * C) per (2 * f * A)) ρ) (us : Under (4 of ((b * C) per (d * A))) σ) (normal : Normal (4 of area_unit)) where
    -- |r| is at most 5/8 of the strip's height over the scale
    reach_under : Under (5 of ((e * C) per (8 * f * A))) (value_of r)
    reach_under =
        within_upto ((4 roundoffs height_unit) and ((e * C) per (2 * f * A))) (5 of ((e * C) per (8 * f * A))) (value_of r) zero_number
        (mul-pos (mul-pos (mul-pos DD AA) (pow_pos 53)) (mul-pos (mul-pos (omega arith) ff) AA))
        (fits (2 ^ 53) (le_refl _) (mul-le-mul_right (C * A * A * f) least))
        (within_trans (4 roundoffs height_unit) ((e * C) per (2 * f * A)) (value_of r) ρ zero_number R hr.within ur)
      where
        fits : (P : ℕ) → 2 ^ 53 ≤ P → N * f * (C * A * A * f) ≤ 4096 * e * D * (C * A * A * f)
            → (4 * (N * C) * (2 * f * A) + e * C * (D * A * P)) * (8 * f * A) ≤ 5 * (e * C) * (D * A * P * (2 * f * A))
        fits P h u = let x = simp plain at u in let y = simp plain at (mul-le-mul_right (e * D * C * A * A * f) h) in simp plain
            (omega (arith, x, y))

    sum_under : Under (5 of width_unit) (value_of s)
    sum_under =
        within_upto ((251 roundoffs width_unit) and (4 of ((b * C) per (d * A)))) (5 of width_unit) (value_of s) zero_number
        (mul-pos (mul-pos (mul-pos (mul-pos (mul-pos dd DD) AA) ee) (pow_pos 53)) (mul-pos dd AA))
        (fits (2 ^ 53) (leb→le 251 (2 ^ 53) tt) (mul-le-mul_right (b * C * d * A * d * D * A * e * 2 ^ 53) most))
        (within_trans (251 roundoffs width_unit) (4 of ((b * C) per (d * A))) (value_of s) σ zero_number S hs.within us)
      where
        fits : (P : ℕ) → 251 ≤ P → e * D * (b * C * d * A * d * D * A * e * P) ≤ N * f * (b * C * d * A * d * D * A * e * P)
            → (251 * (b * N * C * f) * (d * A) + 4 * (b * C) * (d * D * A * e * P)) * (d * D * A * e) ≤ 5 * (b * N * C * f) *
            (d * D * A * e * P * (d * A))
        fits P h u =
            let x = simp plain at u in let y = simp plain at (mul-le-mul_right (b * N * C * f * d * A * d * D * A * e) h) in simp plain
            (omega (arith, x, y))

    product_under : Under (4 of area_unit) (value_of r times value_of s)
    product_under =
        within_upto (25 of (((e * C) per (8 * f * A)) by width_unit)) (4 of area_unit) (value_of r times value_of s) zero_number
        (mul-pos (mul-pos (mul-pos (omega arith) ff) AA) (mul-pos (mul-pos (mul-pos dd DD) AA) ee)) fits
        (Counts.under_times 5 5 ((e * C) per (8 * f * A)) width_unit (value_of r) (value_of s) (mul-pos (mul-pos (omega arith) ff) AA)
        (mul-pos (mul-pos (mul-pos dd DD) AA) ee) (Counts.value_is r) reach_under sum_under)
      where
        fits : 25 * (e * C * (b * N * C * f)) * (d * D * A * A) ≤ 4 * (b * N * C * C) * (8 * f * A * (d * D * A * e))
        fits = simp plain (omega arith)

    pub product_near : Near (r ⊗ s) (ρ times σ) (177 roundoffs area_unit)
    product_near =
        let X = value_of r in
        let Y = value_of s in
        let U_real : IsSize area_unit = mul-pos (mul-pos (mul-pos dd DD) AA) AA in
        let m = mul_exact r s (4 of area_unit) hr.finite hs.finite normal product_under in
        let one : Within (157 roundoffs area_unit) (X times Y) (X times σ) =
        within_upto ((5 of ((e * C) per (8 * f * A))) by (251 roundoffs width_unit)) (157 roundoffs area_unit) (X times Y) (X times σ)
        (mul-pos (mul-pos (mul-pos (omega arith) ff) AA) (mul-pos (mul-pos (mul-pos (mul-pos dd DD) AA) ee) (pow_pos 53))) (first (2 ^ 53))
        (within_times (5 of ((e * C) per (8 * f * A))) (251 roundoffs width_unit) X Y σ reach_under hs.within) in
        let two : Within (16 roundoffs area_unit) (σ times X) (σ times ρ) =
        within_upto ((4 of ((b * C) per (d * A))) by (4 roundoffs height_unit)) (16 roundoffs area_unit) (σ times X) (σ times ρ)
        (mul-pos (mul-pos dd AA) (mul-pos (mul-pos DD AA) (pow_pos 53))) (second (2 ^ 53))
        (within_times (4 of ((b * C) per (d * A))) (4 roundoffs height_unit) σ X ρ us hr.within) in
        let two' : Within (16 roundoffs area_unit) (X times σ) (ρ times σ) =
        subst (λ (x : Number). Within (16 roundoffs area_unit) x (ρ times σ)) (times_comm σ X)
        (subst (λ (x : Number). Within (16 roundoffs area_unit) (σ times X) x) (times_comm σ ρ) two) in
        let three : Within (173 roundoffs area_unit) (X times Y) (ρ times σ) =
        Counts.within_roundoffs 157 16 area_unit (X times Y) (ρ times σ) U_real
        (within_trans (157 roundoffs area_unit) (16 roundoffs area_unit) (X times Y) (X times σ) (ρ times σ)
        (Counts.times_is X σ (Counts.value_is r) S) one two') in
        record {
          finite = m.finite;
          within =
              Counts.within_roundoffs 4 173 area_unit (value_of (r ⊗ s)) (ρ times σ) U_real
              (within_trans (4 roundoffs area_unit) (173 roundoffs area_unit) (value_of (r ⊗ s)) (X times Y) (ρ times σ)
              (Counts.times_is X Y (Counts.value_is r) (Counts.value_is s)) m.within three);
        }
      where
        first : (P : ℕ) → 5 * (e * C) * (251 * (b * N * C * f)) * (d * D * A * A * P) ≤ 157 * (b * N * C * C) *
            (8 * f * A * (d * D * A * e * P))
        first P = simp plain (omega arith)

        second : (P : ℕ) → 4 * (b * C) * (4 * (N * C)) * (d * D * A * A * P) ≤ 16 * (b * N * C * C) * (d * A * (D * A * P))
        second P = simp plain (omega arith)

    pub product_size : Under (2 of area_unit) (ρ times σ)
    product_size =
        within_upto (4 of (((e * C) per (2 * f * A)) by ((b * C) per (d * A)))) (2 of area_unit) (ρ times σ) zero_number
        (mul-pos (mul-pos (mul-pos (omega arith) ff) AA) (mul-pos dd AA)) (fits (mul-le-mul_right (4 * b * C * C * d * A * A) most))
        (Counts.under_times 1 4 ((e * C) per (2 * f * A)) ((b * C) per (d * A)) ρ σ (mul-pos (mul-pos (omega arith) ff) AA) (mul-pos dd AA)
        R
        (within_upto ((e * C) per (2 * f * A)) (1 of ((e * C) per (2 * f * A))) ρ zero_number (mul-pos (mul-pos (omega arith) ff) AA) once
        ur) us)
      where
        once : e * C * (2 * f * A) ≤ 1 * (e * C) * (2 * f * A)
        once = simp plain (le_refl _)

        fits : e * D * (4 * b * C * C * d * A * A) ≤ N * f * (4 * b * C * C * d * A * A)
            → 1 * 4 * (e * C * (b * C)) * (d * D * A * A) ≤ 2 * (b * N * C * C) * (2 * f * A * (d * A))
        fits u = let x = simp plain at u in simp plain (omega (arith, x))
