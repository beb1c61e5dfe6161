-- The points of an accepted outline are within their limits, and so is its root chord. Assumes nothing.
use Rattle.std.specs.Prelude.{Ok}
use mathlib.Core.Path.{◌≡◌, refl, subst}
use mathlib.Core.List.{List}
use mathlib.Core.Bool.{Bool, true, ◌&&◌}
use Prim.Native.Nat.{ℕ, zero, suc, ◌+◌, ◌-◌, ◌*◌, ◌≤◌, ◌<◌}
use native.Mathlib.Omega.{arith}
use lib.Dec.{T}
use lib.Ieee.{Float, binary64, fits, lt, eq}
use Rattle.floats.specs.Operations.{bits, at}
use Rattle.refusals.specs.declared.Refusal.TheVariants.{Ends}
use Rattle.refusals.proofs.Accepted.{holds, both, both_true}
use Rattle.limits.specs.Limits.{point_xfield, point_yfield, length_check}
use Rattle.limits.proofs.Lengths.{Length, Height, PositiveLength, length_checked, above_checked, height_checked}
use Rattle.planforms.specs.Planforms.{x_at, height_at, pair_count, last_x}
use Rattle.planforms.specs.declared.Planform.TheVariants.{Outline}
use Rattle.planforms.proofs.Sized.{Sized}
use Rattle.outlines.specs.Outlines.{point_check, outline_check}
use Rattle.outlines.proofs.Accepted.{outline_accepted, points_accepted, points_within}

module _ (points : List Float) (f : (i : ℕ) → T (fits binary64 (at points i))) where
  point_sized : (i : ℕ) → point_check points i ≡ Ok tt → Length (x_at points i) × Height (height_at points i)
  point_sized i h =
      let xs = both (length_check point_xfield (x_at points i)) _ h in
      let ys = both (length_check point_yfield (height_at points i)) (Ok tt) xs.1 in (
        length_checked point_xfield (x_at points i) (f (2 * i)) xs.0,
        height_checked point_yfield (height_at points i) (f (2 * i + 1)) ys.0
            refl refl,
      )

  last_sized : (n : ℕ) → 3 ≤ n → point_check points (n - 1) ≡ Ok tt → lt (bits 0) (x_at points (n - 1)) ≡ true
      → PositiveLength (last_x points n)
  last_sized zero l h p = absurd (let z : ⊥ = omega arith in z)
  last_sized (suc n) l h p =
      let e : suc n - 1 ≡ n = omega arith in
      above_checked point_xfield (x_at points n) (f (2 * n)) (both _ _ (subst (λ (k : ℕ). point_check points k ≡ Ok tt) e h)).0
      (subst (λ (k : ℕ). lt (bits 0) (x_at points k) ≡ true) e p)

  pub outline_sized : outline_check points ≡ Ok tt → Sized Outline points
  outline_sized h =
      let n = pair_count points in
      let three = (points_within points h).0 in
      let p : Bool = eq (x_at points 0) (bits 0) && eq (height_at points 0) (bits 0) in
      let c : Bool = lt (bits 0) (x_at points (n - 1)) in
      let d : Bool = eq (height_at points (n - 1)) (bits 0) in
      let ends = holds (p && c && d) Ends (outline_accepted points h).ends in (
        λ i l. point_sized i (points_accepted points h i l),
        last_sized n three (points_accepted points h (n - 1) (omega arith)) (both_true p c (both_true (p && c) d ends).0).1,
      )
