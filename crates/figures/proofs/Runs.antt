-- The strips that the code works are those of the set, or of the planform: integrand, scale and break heights. Assumes nothing.
use Rattle.std.specs.Prelude.{Ok, Err}
use mathlib.Core.Path.{◌≡◌, refl, ap, ◌∙◌}
use mathlib.Core.List.{List, [], ◌∷◌}
use Prim.Native.Nat.{ℕ}
use lib.Ieee.{Float}
use Rattle.refusals.specs.Verdict.{Verdict}
use Rattle.refusals.specs.Order.{first_refusal, first_of}
use Rattle.limits.specs.Limits.{limit_check, scratch_check}
use Rattle.outlines.specs.Outlines.{planform_check}
use Rattle.planforms.specs.declared.Planform.{Planform}
use Rattle.breaks.specs.Breaks.{break_heights}
use Rattle.integrands.specs.declared.Integrand.{Integrand}
use Rattle.integrands.specs.Integrands.{scale_of, area_integrand, plate_integrand, sample_of, plate_of}
use Rattle.fins.specs.declared.FinSet.{FinSet}
use Rattle.fins.specs.Fins.{own_checks, set_check, area_check}
use Rattle.halving.specs.declared.Integral.{Integral}
use Rattle.strips.specs.Strips.{Worked, worked_of, summed_of, scratch_after, run_of, strips_of, Room, Runs}
use Rattle.strips.proofs.Reported.{run_within}
use Rattle.figures.specs.Figures.{set_strips}

pub plate_strips : (set : FinSet) (points : List Float) (L : ℕ) (integrand : Integrand)
    → integrand ≡ plate_integrand set.planform points set.cross_section set.thickness_m set.body_radius_m
    → strips_of integrand points L ≡ set_strips set points L
unfolding plate_of
plate_strips set points L integrand e = ap (λ (f : Integrand). strips_of f points L) e

-- the area's integrand as the code samples it, over seven components
unfoldable pub area_of : Planform → List Float → Float → List Float
area_of planform points h = sample_of (area_integrand planform points) points h

pub area_strips_lem : (planform : Planform) (points : List Float) (L : ℕ) (integrand : Integrand)
    → integrand ≡ area_integrand planform points
    → strips_of integrand points L ≡ worked_of 7 (area_of planform points) L (scale_of planform points) (break_heights planform points)
unfolding area_of
area_strips_lem planform points L integrand e = ap (λ (f : Integrand). strips_of f points L) e

-- 1 and 2 are the first checks of both
first_two : (a b later : Verdict) → first_refusal a (first_refusal b later) ≡ Ok tt → first_refusal a b ≡ Ok tt
first_two (Ok _) (Ok _) later h = refl
first_two (Ok _) (Err refusal) later h = h
first_two (Err refusal) b later h = h

pub set_run_lem : (set : FinSet) (points : List Float) (L n : ℕ) → set_check set points L n ≡ Ok tt → Room L n
unfolding set_check
set_run_lem set points L n h = run_within L n (first_two (limit_check L) (scratch_check L n) (first_of (own_checks set points)) h)

pub area_run_lem : (planform : Planform) (points : List Float) (L n : ℕ) → area_check planform points L n ≡ Ok tt → Room L n
unfolding area_check
area_run_lem planform points L n h =
    run_within L n (first_two (limit_check L) (scratch_check L n) (first_of (planform_check planform points ∷ [])) h)

pub run_of_lem : (integrand : Integrand) (points : List Float) (L : ℕ) (entry : List Float) (r : Integral) (exit : List Float)
    {strips : List Worked}
    → strips_of integrand points L ≡ strips → Runs (run_of integrand points L) entry r exit
    → (r ≡ summed_of strips) × (exit ≡ scratch_after strips entry)
run_of_lem integrand points L entry r exit same z =
    (z.answer ∙ ap summed_of same, z.scratch ∙ ap (λ (l : List Worked). scratch_after l entry) same)
