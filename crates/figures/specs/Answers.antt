-- What the two calls promise: the answer and the scratch, whatever is handed in; and of an accepted set or planform
-- demand 3's one claim about its whole run, that its pieces rise, and that its samples and the numbers worked from them
-- are finite.
use Rattle.std.specs.Prelude.{◌≡◌, List, ℕ, ◌≤◌, length, Float, Ok, Err}
use Rattle.floats.specs.Operations.{bits}
use Rattle.refusals.specs.Refusals.{number_of, values_of}
use Rattle.refusals.specs.Given.{Gives}
use Rattle.refusals.specs.Calls.{Does}
use Rattle.refusals.specs.declared.Refusal.{Refusal}
use Rattle.limits.specs.Limits.{most_strips, most_samples}
use Rattle.planforms.specs.declared.Planform.{Planform}
use Rattle.fins.specs.declared.FinSet.{FinSet}
use Rattle.fins.specs.Fins.{set_check, area_check}
use Rattle.bodies.specs.Bodies.{empty_body}
use Rattle.strips.specs.Claim.{Report, Demand3}
use Rattle.strips.specs.Rising.{PiecesRise, SamplesFinite, NumbersFinite}
use Rattle.figures.specs.declared.Figures.{Figures}
use Rattle.figures.specs.declared.Area.{Area}
use Rattle.figures.specs.Figures.{set_run, set_strips, set_call}
use Rattle.figures.specs.Areas.{area_run, area_strips, area_call}

abbrev pub set_report : Figures → Report
set_report r = record { verdict = r.verdict; samples = r.samples; intervals = r.intervals }

abbrev pub area_report : Area → Report
area_report r = record { verdict = r.verdict; samples = r.samples; intervals = r.intervals }

-- what the call for a set promises ("Order: 18, 1, 2, 3; ..", `FinSet::mass_properties`): its figures, the scratch at
-- exit, and demand 3
pub record SetAnswers (set : FinSet) (points : List Float) (L : ℕ) (entry : List Float) (r : Figures)
    (exit : List Float) : Type 0 where
  pub call : Does (set_call set points L (length entry)) r entry exit
  -- "A number given before the first strip leaves scratch untouched"; no sample is taken
  pub given_before_strips : (refusal : Refusal) → set_check set points L (length entry) ≡ Err refusal
      → Gives r.verdict (number_of refusal) (values_of refusal) × (r.samples ≡ 0) × (exit ≡ entry)
  -- "A refusal carries zero figures" (demand 1); "intervals 0"
  pub zero_figures :
      (number : ℕ) (values : List ℕ) → Gives r.verdict number values → (r.body ≡ empty_body) × (r.intervals ≡ 0)
  -- "A set is accepted when it passes every check before the strips": it has a strip, so that demand 3 is about
  -- something, and "at most 62 strips"
  pub strip_count_lem :
      set_check set points L (length entry) ≡ Ok tt
      → (1 ≤ length (set_strips set points L)) × (length (set_strips set points L) ≤ most_strips)
  pub demand_3 : set_check set points L (length entry) ≡ Ok tt
      → Demand3 (set_run set points L) (set_strips set points L) (set_report r) entry exit
  -- this holds whatever is handed in
  pub samples_at_most : r.samples ≤ most_samples
  -- "premise: the fin passed the checks" (document 02, Paper 14)
  pub pieces_rise : set_check set points L (length entry) ≡ Ok tt → PiecesRise (set_strips set points L)
  pub samples_finite :
      set_check set points L (length entry) ≡ Ok tt → SamplesFinite (set_run set points L) (set_strips set points L)
  pub numbers_finite :
      set_check set points L (length entry) ≡ Ok tt → NumbersFinite (set_run set points L) (set_strips set points L)

-- what the call for a planform promises ("For area alone: 1, 2, planform, strips, 8", `FinPlanform::geometry`): area
-- and centroid, the scratch at exit, and demand 3
pub record AreaAnswers (planform : Planform) (points : List Float) (L : ℕ) (entry : List Float) (r : Area)
    (exit : List Float) : Type 0 where
  pub call : Does (area_call planform points L (length entry)) r entry exit
  pub given_before_strips : (refusal : Refusal) → area_check planform points L (length entry) ≡ Err refusal
      → Gives r.verdict (number_of refusal) (values_of refusal) × (r.samples ≡ 0) × (exit ≡ entry)
  pub zero_figures : (number : ℕ) (values : List ℕ) → Gives r.verdict number values
      → (r.area_m2 ≡ bits 0) × (r.centroid_x_m ≡ bits 0) × (r.centroid_span_m ≡ bits 0) × (r.intervals ≡ 0)
  -- a planform is accepted when it passes every check before the strips
  pub strip_count_lem :
      area_check planform points L (length entry) ≡ Ok tt
      → (1 ≤ length (area_strips planform points L)) × (length (area_strips planform points L) ≤ most_strips)
  pub demand_3 : area_check planform points L (length entry) ≡ Ok tt
      → Demand3 (area_run planform points L) (area_strips planform points L) (area_report r) entry exit
  pub samples_at_most : r.samples ≤ most_samples
  pub pieces_rise : area_check planform points L (length entry) ≡ Ok tt → PiecesRise (area_strips planform points L)
  pub samples_finite :
      area_check planform points L (length entry) ≡ Ok tt
      → SamplesFinite (area_run planform points L) (area_strips planform points L)
  pub numbers_finite :
      area_check planform points L (length entry) ≡ Ok tt
      → NumbersFinite (area_run planform points L) (area_strips planform points L)
