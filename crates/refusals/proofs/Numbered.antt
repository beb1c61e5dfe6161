-- Reading a refusal back from its row gives the refusal, and a verdict from its number and values the verdict. Assumes nothing.
use Rattle.std.specs.Prelude.{Ok, Err}
use mathlib.Core.Path.{◌≡◌, refl, sym, ap, ◌∙◌}
use Prim.Native.Nat.{ℕ}
use native.Mathlib.Omega.{arith}
use borrow.Author.Tests.{ne_eqb}
use Rattle.refusals.specs.declared.Refusal.{Refusal}
use Rattle.refusals.specs.declared.Refusal.TheVariants.{Limit, Scratch, Count, Length, Points, Ends, Touches, NoArea, Angle}
use Rattle.refusals.specs.declared.Refusal.TheVariants.{TabOffRoot, TabTooDeep, Density, NotConverged, Mass, Centre, Tensor, NoForm}
use Rattle.refusals.specs.declared.Refusal.TheVariants.{NoFigure, WallOverRadius, ThicknessOverRoot, FilletRatio, Screen, NoCorners}
use Rattle.refusals.specs.declared.Refusal.TheVariants.{NotWholeSteps, NotHeavier}
use Rattle.refusals.specs.Verdict.{Verdict}
use Rattle.refusals.specs.declared.TensorFault.TheVariants.{Entry, Massless, Negative, Triangle}
use lib.ListN.{get_or}
use Rattle.refusals.specs.Refusals.{number_of, values_of, in_two_places}
use Rattle.refusals.specs.Numbered.{fault_from, refusal_from, number_in, first_in, second_in, verdict_from}

pub read_back : (refusal : Refusal)
    → refusal_from (number_of refusal) (get_or (in_two_places (values_of refusal)) 0 0) (get_or (in_two_places (values_of refusal)) 1 0)
    ≡ refusal
unfolding fault_from refusal_from
read_back Limit = refl
read_back Scratch = refl
read_back Count = refl
read_back (Length field) = refl
read_back Points = refl
read_back Ends = refl
read_back (Touches i j) = refl
read_back NoArea = refl
read_back (Angle field) = refl
read_back TabOffRoot = refl
read_back TabTooDeep = refl
read_back Density = refl
read_back (NotConverged component) = refl
read_back Mass = refl
read_back Centre = refl
read_back (Tensor Entry) = refl
read_back (Tensor Massless) = refl
read_back (Tensor Negative) = refl
read_back (Tensor Triangle) = refl
read_back NoForm = refl
read_back NoFigure = refl
read_back WallOverRadius = refl
read_back ThicknessOverRoot = refl
read_back FilletRatio = refl
read_back Screen = refl
read_back NoCorners = refl
read_back NotWholeSteps = refl
read_back NotHeavier = refl

-- no row of the table has the number 0: that is read back as no form, which has another one
not_zero : (refusal : Refusal) → number_of refusal ≡ 0 → ⊥
unfolding refusal_from
not_zero refusal e =
    let values = in_two_places (values_of refusal) in
    let back : NoForm ≡ refusal = sym (ap (λ (n : ℕ). refusal_from n (get_or values 0 0) (get_or values 1 0)) e) ∙ read_back refusal in
    let f : 18 ≡ number_of refusal = ap number_of back in
    omega (arith, e, f)

pub verdict_back : (verdict : Verdict) → verdict_from (number_in verdict) (first_in verdict) (second_in verdict) ≡ verdict
unfolding verdict_from
verdict_back (Ok _) = refl
verdict_back (Err refusal) = rw (ne_eqb (number_of refusal) 0 (not_zero refusal), read_back refusal)
