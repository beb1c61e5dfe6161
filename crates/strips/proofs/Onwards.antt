-- The next strip of a run: worked where there is one. Assumes nothing.
use Rattle.std.proofs.Common.{◌≡◌, ℕ, Bool, true, false, cond, ◌||◌, List, [], ◌∷◌, sym, ap, ◌∙◌, subst}
use lib.Ieee.{Float, lt}
use Rattle.floats.specs.Operations.{◌⊘◌, bits, at}
use Rattle.halving.specs.declared.Integral.{Integral}
use Rattle.halving.specs.declared.Totals.{Totals}
use Rattle.refusals.specs.Calls.{CallOf, Does}
use Rattle.integrands.specs.Integrands.{sample_of}
use Rattle.integrands.specs.declared.Integrand.{Integrand}
use Rattle.planforms.specs.Planforms.{span_of}
use Rattle.breaks.specs.declared.RankedHeight.{RankedHeight}
use Rattle.breaks.specs.Breaks.{all_heights, place_above, least_above}
use Rattle.breaks.proofs.Above.{span_above}
use Rattle.strips.specs.declared.Advance.{Advance}
use Rattle.strips.specs.Strips.{Run, Worked, strip_of, in_words, with_strip, integral_in, next_place, has_strip, strip_from, worked_on}
use Rattle.strips.specs.Strips.{no_strip, onward_of, strip_between, step_run_of, WorksStrip}

module _ (run : Run) (i : ℕ) (totals : Totals) where
  onward_by : {b : Bool} → has_strip run i ≡ b → onward_of run i totals ≡ cond b (worked_on run i totals) (no_strip i totals)
  unfolding onward_of
  onward_by h = ap (λ (b : Bool). cond b (worked_on run i totals) (no_strip i totals)) h

  pub onward_works : has_strip run i ≡ true → onward_of run i totals ≡ worked_on run i totals
  onward_works h = onward_by h

  pub onward_none : has_strip run i ≡ false → onward_of run i totals ≡ no_strip i totals
  onward_none h = onward_by h

-- the ends as the code finds them
module _ (integrand : Integrand) (points : List Float) (L i : ℕ) (lower : Float)
    (from : lower ≡ at (all_heights integrand.planform points) i) (found : RankedHeight)
    (above : found ≡ least_above lower (all_heights integrand.planform points)) (totals : Totals) (entry : List Float) where
  abbrev Run' : Run
  Run' = step_run_of integrand points L

  abbrev All' : List Float
  All' = all_heights integrand.planform points

  place_is : found.place ≡ next_place Run' i
  place_is = ap (λ (s : RankedHeight). s.place) above ∙ ap (λ (h : Float). place_above h All') from

  upper_is : found.height ≡ at All' (next_place Run' i)
  upper_is = ap (λ (s : RankedHeight). s.height) above ∙ ap (λ (h : Float). at All' (place_above h All')) from

  there_is : lt lower found.height ≡ has_strip Run' i
  there_is = ap (λ (h : Float). lt h found.height) from ∙ ap (lt (at All' i)) upper_is

  abbrev Strip' : Float → Float → Worked
  Strip' h k = strip_of 7 (sample_of integrand points) L (h ⊘ integrand.scale) (k ⊘ integrand.scale)

  abbrev On' : Integral → ℕ → Bool → Advance
  On' t n b = record { total = t; next = n; more = b }

  abbrev After' : Integral
  After' = in_words (with_strip totals (integral_in (strip_from Run' i)))

  pub went_on : lt lower found.height ≡ true → (span : Float) → span ≡ span_of integrand.planform points
      → (after : Integral) (exit : List Float)
      → WorksStrip (strip_between integrand points L (lower ∷ found.height ∷ []) 0) totals entry after exit
      → Does (onward_of Run' i totals) (On' after found.place (lt found.height span || lt found.height (bits 0))) entry exit
  went_on h span s after exit w =
      let some : has_strip Run' i ≡ true = sym there_is ∙ h in
      let v : WorksStrip (strip_from Run' i) totals entry after exit =
      subst (λ (k : Float). WorksStrip (Strip' (at All' i) k) totals entry after exit) upper_is
      (subst (λ (l : Float). WorksStrip (Strip' l found.height) totals entry after exit) from w) in
      let again : (lt found.height span || lt found.height (bits 0)) ≡ has_strip Run' (next_place Run' i) =
      ap (λ (top : Float). lt found.height top || lt found.height (bits 0)) s
      ∙ span_above integrand.planform points found.height
      ∙ ap (λ (k : Float). lt k (at All' (place_above k All'))) upper_is in
      let on = sym (onward_works Run' i totals some) in (
        ap (λ (t : Integral). On' t found.place (lt found.height span || lt found.height (bits 0))) v.total
            ∙ ap (λ (n : ℕ). On' After' n (lt found.height span || lt found.height (bits 0))) place_is
            ∙ ap (On' After' (next_place Run' i)) again
            ∙ ap (λ (c : CallOf Advance). c.answer) on,
        v.scratch ∙ ap (λ (c : CallOf Advance). c.leaves entry) on,
      )

  pub went_nowhere : lt lower found.height ≡ false → Does (onward_of Run' i totals) (no_strip i totals).answer entry entry
  went_nowhere h =
      let none = sym (onward_none Run' i totals (sym there_is ∙ h)) in
      (ap (λ (c : CallOf Advance). c.answer) none, ap (λ (c : CallOf Advance). c.leaves entry) none)
