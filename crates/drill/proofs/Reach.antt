-- How far a length reaches in steps, and so that the coordinates of an accepted planform and point are small enough for
-- `polygons`. Assumes nothing.
use mathlib.Core.Bool.{true}
use mathlib.Core.Path.{◌≡◌, refl, ap, ◌∙◌}
use mathlib.Core.List.{List, [], ◌∷◌, map}
use Prim.Native.Nat.{ℕ, zero, suc, ◌^◌, ◌≤◌, ◌<◌, zero-le}
use native.Mathlib.Nat.{not-suc-le-zero, le_of_suc-le-suc}
use native.Mathlib.Omega.{arith}
use lib.IntN.{ℤ, pos, nat_abs, ◌+ℤ◌}
use lib.ListN.{get_or, get_or-map}
use lib.Ieee.{Float, nan}
use lib.Signed.{mag}
use mir.Syntax.{w64}
use mir.Val.{of_z, to_z}
use Rattle.floats.specs.Operations.{at}
use Rattle.steps.specs.Parts.{IsLength}
use Rattle.steps.specs.Steps.{exact_of, is_whole, steps_of}
use Rattle.steps.proofs.Lengths.{few_steps}
use Rattle.steps.proofs.Sums.{steps_of_sum}
use Rattle.planforms.specs.declared.Planform.TheVariants.{Trapezoid}
use Rattle.polygons.specs.Bounds.{IsCoordinate}
use Rattle.polygons.proofs.Sizes.{abs_add, result_back}
use Rattle.drill.specs.Drill.{corners_of}
use Rattle.drill.specs.InSteps.{AreLengths}

-- ---- lists of lengths

pub none : AreLengths []
none k h = absurd (not-suc-le-zero h)

pub one_more : (x : Float) (l : List Float) → IsLength x → AreLengths l → AreLengths (x ∷ l)
one_more x l h more zero k = h
one_more x l h more (suc i) k = more i (le_of_suc-le-suc k)

-- the first four of six
pub four : (a b c d e f : Float) → AreLengths (a ∷ b ∷ c ∷ d ∷ e ∷ f ∷ []) → AreLengths (a ∷ b ∷ c ∷ d ∷ [])
four a b c d e f h =
    one_more a (b ∷ c ∷ d ∷ []) (h 0 (omega arith))
    (one_more b (c ∷ d ∷ []) (h 1 (omega arith)) (one_more c (d ∷ []) (h 2 (omega arith)) (one_more d [] (h 3 (omega arith)) none)))

-- ---- lists of coordinates

abbrev Coordinates : List ℤ → Type 0
Coordinates [] = Unit {0}
Coordinates (z ∷ l) = IsCoordinate z × Coordinates l

zero_small : (k : ℕ) → IsCoordinate (get_or [] k (pos 0))
zero_small k = zero-le

pub each : (l : List ℤ) → Coordinates l → (k : ℕ) → IsCoordinate (get_or l k (pos 0))
each [] c k = zero_small k
each (z ∷ l) c zero = c.0
each (z ∷ l) c (suc k) = each l c.1 k

pub steps_of_zero : steps_of (pos 0) ≡ pos 0
unfolding steps_of
steps_of_zero = refl

pub reaches : (x : Float) → IsLength x → IsCoordinate (steps_of (exact_of x))
reaches x h = let s = few_steps x h in omega (arith, s)

-- the same of an i64 that holds them
pub steps_back : {z y : ℤ} → mag z < 2 ^ 63 → z ≡ y → to_z w64 (of_z w64 z) ≡ y
steps_back {z} ok e = result_back z ok ∙ e

pub steps_reach : (x : Float) {z : ℤ} → mag z < 2 ^ 63 → z ≡ steps_of (exact_of x) → IsLength x → IsCoordinate (to_z w64 (of_z w64 z))
steps_reach x ok e h = rw (steps_back ok e) (reaches x h)

pub sum_reaches : (a b : ℤ) → nat_abs a ≤ 2 ^ 26 → nat_abs b ≤ 2 ^ 26 → IsCoordinate (a +ℤ b)
sum_reaches a b h k = omega (arith, abs_add a b)

pub steps_at : (points : List Float) (k : ℕ) → get_or (map steps_of (map exact_of points)) k (pos 0) ≡ steps_of (exact_of (at points k))
unfolding steps_of
steps_at points k = get_or-map steps_of (map exact_of points) k (pos 0) ∙ ap steps_of (get_or-map exact_of points k nan)

in_list : (points : List Float) → AreLengths points → Coordinates (map steps_of (map exact_of points))
in_list [] h = tt
in_list (x ∷ points) h = (reaches x (h 0 (omega arith)), in_list points (λ k i. h (suc k) (omega arith)))

pub all_reach : (points : List Float) → AreLengths points → (k : ℕ) → IsCoordinate (get_or (map steps_of (map exact_of points)) k (pos 0))
all_reach points h = each (map steps_of (map exact_of points)) (in_list points h)

-- ---- a trapezoid

module _ (root tip span sweep : Float) (more : List Float) (lengths : AreLengths (root ∷ tip ∷ span ∷ sweep ∷ more)) where
  pub trapezoid_reach : is_whole (exact_of sweep) ≡ true → is_whole (exact_of tip) ≡ true → (k : ℕ)
      → IsCoordinate (get_or (map steps_of (corners_of (Trapezoid root tip span sweep) [])) k (pos 0))
  trapezoid_reach h g =
      let origin : IsCoordinate (steps_of (pos 0)) = rw steps_of_zero zero-le in
      let end : IsCoordinate (steps_of (exact_of sweep +ℤ exact_of tip)) = rw (steps_of_sum (exact_of sweep) (exact_of tip) h g)
      (sum_reaches (steps_of (exact_of sweep)) (steps_of (exact_of tip)) (few_steps sweep (lengths 3 (omega arith)))
      (few_steps tip (lengths 1 (omega arith)))) in
      let top = reaches span (lengths 2 (omega arith)) in
      each (map steps_of (corners_of (Trapezoid root tip span sweep) [])) (
        origin,
        (
          origin,
          (reaches sweep (lengths 3 (omega arith)), (top, (end, (top, (reaches root (lengths 0 (omega arith)), (origin, tt)))))),
        ),
      )
