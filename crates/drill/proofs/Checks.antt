-- What the checks before the steps leave: the answer where one refuses, and lengths where all accept. Assumes nothing.
use Rattle.std.specs.Prelude.{Ok, Err}
use mathlib.Core.Path.{◌≡◌, refl, sym, ap, subst, ◌∙◌}
use mathlib.Core.Bool.{Bool, true, false, cond, ◌&&◌, ◌||◌}
use mathlib.Core.List.{List, [], ◌∷◌, map}
use Prim.Native.Nat.{ℕ, zero, suc, ◌+◌, ◌-◌, ◌*◌, ◌/◌, ◌%◌, ◌≤◌, ◌<◌}
use native.Mathlib.Nat.{not-suc-le-zero}
use native.Mathlib.Omega.{arith}
use borrow.Author.Tests.{eqb-true}
use lib.Dec.{T, leb, eqb}
use lib.ListN.{length}
use lib.Ieee.{Float, eq, lt}
use Rattle.floats.specs.Operations.{at, bits}
use Rattle.floats.specs.Floats.{abs_of}
use Rattle.std.specs.Prelude.{Result, Ok, Err}
use Rattle.refusals.specs.declared.Refusal.{Refusal}
use Rattle.refusals.specs.declared.Refusal.TheVariants.{Length, NoCorners, NotWholeSteps}
use Rattle.refusals.specs.Verdict.{Verdict}
use Rattle.refusals.specs.Order.{refuse_unless, first_refusal}
use Rattle.refusals.proofs.Accepted.{holds, both, both_true}
use Rattle.refusals.proofs.Order.{in_order, after_accepted, after_refused}
use Rattle.planforms.specs.declared.Planform.{Planform}
use Rattle.planforms.specs.declared.Planform.TheVariants.{Trapezoid}
use Rattle.planforms.specs.Planforms.{pair_count}
use Rattle.limits.specs.Limits.{most_points, outline_numbers, zero_allowed, negative_allowed, shortest, longest, is_within, length_within}
use Rattle.limits.specs.Limits.{length_check, drill_xfield, drill_height_field, root_chord_field, tip_chord_field, span_field, sweep_field}
use Rattle.limits.specs.Limits.{point_xfield, point_yfield}
use Rattle.outlines.specs.Outlines.{are_pairs, point_check, outline_check}
use Rattle.outlines.proofs.Accepted.{outline_accepted, points_accepted, points_within}
use Rattle.outlines.specs.Outlines.{planform_check}
use Rattle.steps.specs.Parts.{IsLength}
use Rattle.steps.specs.Steps.{exact_of, steps_of}
use Rattle.drill.specs.declared.Place.{Place}
use Rattle.drill.specs.Drill.{corners_of, has_corners, are_whole, place_of, drill_check, drill_of}
use Rattle.refusals.specs.Results.{unless_refused}
use Rattle.drill.specs.InSteps.{AreLengths, in_steps}
use Rattle.drill.proofs.Reach.{one_more}

-- ---- the answer, once the planform and the point's limits are accepted

module _ (planform : Planform) (points : List Float) (x height : Float) (accepted : planform_check planform points ≡ Ok tt)
    (x_accepted : length_check drill_xfield x ≡ Ok tt) (height_accepted : length_check drill_height_field height ≡ Ok tt) where
  pub no_corners : has_corners planform ≡ false → Err NoCorners ≡ drill_of planform points x height
  unfolding drill_of drill_check
  no_corners h = rw (accepted, x_accepted, height_accepted, h) refl

  whole : Bool
  whole = are_whole (exact_of x ∷ exact_of height ∷ corners_of planform points)

  answer : Place
  answer = place_of (map steps_of (corners_of planform points)) (steps_of (exact_of x)) (steps_of (exact_of height))

  either : (t : Bool) (a : Place)
      → cond t (Ok a) (Err NotWholeSteps) ≡ unless_refused (first_refusal (refuse_unless t NotWholeSteps) (Ok tt)) a
  either true a = refl
  either false a = refl

  pub in_steps_lem : has_corners planform ≡ true
      → in_steps (corners_of planform points) (exact_of x) (exact_of height) ≡ drill_of planform points x height
  unfolding in_steps drill_of drill_check whole answer
  in_steps_lem h = rw (accepted, x_accepted, height_accepted, h) (either whole answer)

-- ---- lengths

within_any : (z n a l i : Bool) → (z && a || (n || l) && i) ≡ true → T (a || i)
within_any z n true l i h = tt
within_any true n false l i h = subst T (sym (both_true (n || l) i h).1) tt
within_any false n false l i h = subst T (sym (both_true (n || l) i h).1) tt

pub is_length : (field : ℕ) (x : Float) → length_check field x ≡ Ok tt → IsLength x
unfolding length_check length_within
is_length field x h =
    within_any (zero_allowed field) (negative_allowed field) (eq x (bits 0)) (lt (bits 0) x) (is_within shortest longest (abs_of x))
    (holds (length_within (zero_allowed field) (negative_allowed field) x) (Length field) h)

pub x_length : (x : Float) → length_check drill_xfield x ≡ Ok tt → IsLength x
x_length x h = is_length drill_xfield x h

pub height_length : (height : Float) → length_check drill_height_field height ≡ Ok tt → IsLength height
height_length height h = is_length drill_height_field height h

pub trapezoid_lengths : (root tip span sweep : Float) (points more : List Float)
    → planform_check (Trapezoid root tip span sweep) points ≡ Ok tt → AreLengths more → AreLengths (root ∷ tip ∷ span ∷ sweep ∷ more)
unfolding planform_check
trapezoid_lengths root tip span sweep points more h rest =
    let a = both _ _ h in
    let b = both _ _ a.1 in
    let c = both _ _ b.1 in
    let d = both _ _ c.1 in
    one_more root (tip ∷ span ∷ sweep ∷ more) (is_length root_chord_field root a.0)
    (one_more tip (span ∷ sweep ∷ more) (is_length tip_chord_field tip b.0)
    (one_more span (sweep ∷ more) (is_length span_field span c.0) (one_more sweep more (is_length sweep_field sweep d.0) rest)))

-- ---- an outline's points

module _ (points : List Float) (accepted : outline_check points ≡ Ok tt) where
  whole_pairs : length points % 2 ≡ 0
  whole_pairs =
      let p = holds (are_pairs points) _ (outline_accepted points accepted).pairs in
      eqb-true (length points % 2) 0
      (both_true (eqb (length points % 2) 0) (leb 3 (pair_count points))
      (both_true (eqb (length points % 2) 0 && leb 3 (pair_count points)) (leb (pair_count points) most_points) p).0).0

  pub outline_lengths : AreLengths points
  outline_lengths k h = by (k % 2) refl (let e : k % 2 ≤ 1 = omega arith in e)
    where
      checked : point_check points (k / 2) ≡ Ok tt
      checked = points_accepted points accepted (k / 2) (omega (arith, whole_pairs))

      by : (r : ℕ) → k % 2 ≡ r → r ≤ 1 → IsLength (at points k)
      by zero e l = subst (λ (j : ℕ). IsLength (at points j)) (let z : 2 * (k / 2) ≡ k = omega arith in z)
          (is_length point_xfield (at points (2 * (k / 2))) (both _ _ checked).0)
      by (suc r) e l = subst (λ (j : ℕ). IsLength (at points j)) (let z : 2 * (k / 2) + 1 ≡ k = omega arith in z)
          (is_length point_yfield (at points (2 * (k / 2) + 1)) (both _ _ (both _ _ checked).1).0)

  pub outline_fits : (length points ≤ outline_numbers) × (0 < pair_count points)
  outline_fits = let w = points_within points accepted in (omega (arith, whole_pairs), omega arith)
