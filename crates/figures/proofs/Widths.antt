-- The area's run at width three: the run at seven, which the code works, is the one at three with four zeros behind each piece's values and
-- errors, as the ends of an accepted planform's strips are bounded and in order. Assumes nothing.
use Rattle.std.specs.Prelude.{Ok}
use mathlib.Core.Path.{◌≡◌, refl}
use mathlib.Core.List.{List, [], ◌∷◌}
use Prim.Native.Nat.{ℕ, zero, suc, ◌≤◌, ◌<◌}
use native.Mathlib.Omega.{arith}
use lib.Dec.{lit≤}
use lib.Ieee.{Float}
use Rattle.floats.specs.Operations.{bits, at}
use Rattle.rounding.specs.Sizes.{InOrder}
use Rattle.rounding.proofs.Sizes.{wider}
use Rattle.planforms.specs.declared.Planform.{Planform}
use Rattle.planforms.proofs.Sized.{PlanformF64, Sized}
use Rattle.breaks.specs.Breaks.{break_heights}
use Rattle.breaks.proofs.Bounded.{breaks_bounded, breaks_rise}
use Rattle.integrands.specs.Integrands.{scale_of, sample_of, area_three}
use Rattle.integrands.proofs.Scales.{scale_sized}
use Rattle.fins.specs.Fins.{area_check}
use Rattle.fins.proofs.Accepted.{area_planform}
use Rattle.fins.proofs.Sized.{planform_sized}
use Rattle.strips.specs.Strips.{Worked, worked_of}
use Rattle.strips.specs.Claim.{Each}
use Rattle.widths.specs.Widths.{ZerosBehind}
use Rattle.strips.proofs.Ends.{ends_in_order}
use Rattle.widths.proofs.Strips.{strips_change_nothing}
use Rattle.figures.specs.Areas.{area_seven}
use Rattle.figures.proofs.Runs.{area_of}

-- three components, and four that are zero
area_zeros : (planform : Planform) (points : List Float) → ZerosBehind 3 7 (area_three planform points) (area_of planform points)
unfolding area_of area_three sample_of
area_zeros planform points = record { no_wider = lit≤ tt; first = first; others = others }
  where
    first : (h : Float) (k : ℕ) → k < 3 → at (area_of planform points h) k ≡ at (area_three planform points h) k
    first h zero b = refl
    first h (suc zero) b = refl
    first h (suc (suc zero)) b = refl
    first h (suc (suc (suc k))) b = absurd (let z : ⊥ = omega arith in z)

    others : (h : Float) (k : ℕ) → 3 ≤ k → k < 7 → at (area_of planform points h) k ≡ bits 0
    others h zero a b = absurd (let z : ⊥ = omega arith in z)
    others h (suc zero) a b = absurd (let z : ⊥ = omega arith in z)
    others h (suc (suc zero)) a b = absurd (let z : ⊥ = omega arith in z)
    others h (suc (suc (suc zero))) a b = refl
    others h (suc (suc (suc (suc zero)))) a b = refl
    others h (suc (suc (suc (suc (suc zero))))) a b = refl
    others h (suc (suc (suc (suc (suc (suc zero)))))) a b = refl
    others h (suc (suc (suc (suc (suc (suc (suc k))))))) a b = absurd (let z : ⊥ = omega arith in z)

wider_ends : (strips : List Worked) → Each (λ s. InOrder 26 s.lower s.upper) strips
    → Each (λ s. InOrder 1000 s.lower s.upper) strips
wider_ends [] e = tt
wider_ends (s ∷ strips) e = (wider s.lower s.upper 26 1000 (lit≤ tt) e.0, wider_ends strips e.1)

module _ (planform : Planform) (points : List Float) (L : ℕ) where
  abbrev pub Seven : List Worked
  Seven = worked_of 7 (area_of planform points) L (scale_of planform points) (break_heights planform points)

  sized_at_three : Sized planform points → Seven ≡ area_seven planform points L
  sized_at_three s =
      let scale = scale_sized planform points s in
      strips_change_nothing 3 7 (area_three planform points) (area_of planform points) (area_zeros planform points) L
      (scale_of planform points) (break_heights planform points)
      (wider_ends Seven
      (ends_in_order 7 (area_of planform points) L (scale_of planform points) 6 20 (lit≤ tt) scale.above scale.is_positive
      (break_heights planform points)
      (breaks_bounded planform points s) (breaks_rise planform points s)))

  -- "an area run uses three of the seven, the rest zero"
  pub area_at_three : (n : ℕ) → PlanformF64 planform points → area_check planform points L n ≡ Ok tt
      → Seven ≡ area_seven planform points L
  area_at_three n f accepted = sized_at_three (planform_sized planform points f (area_planform planform points L n accepted))
