-- A planform's area and centroid (document 01, "Order": "For area alone"; fins.rs, `FinPlanform::geometry`).
use Rattle.std.specs.Prelude.{List, ℕ, Float, Ok, Err}
use Rattle.floats.specs.Operations.{◌⊗◌, ◌⊘◌, bits, at}
use Rattle.refusals.specs.declared.Refusal.{Refusal}
use Rattle.refusals.specs.Verdict.{Verdict}
use Rattle.refusals.specs.Calls.{CallOf, leaves_alone, by_verdict}
use Rattle.planforms.specs.declared.Planform.{Planform}
use Rattle.breaks.specs.Breaks.{break_heights}
use Rattle.integrands.specs.Integrands.{scale_of, area_three}
use Rattle.fins.specs.Fins.{area_check}
use Rattle.halving.specs.declared.Totals.{Totals}
use Rattle.halving.specs.declared.Integral.{Integral}
use Rattle.strips.specs.Strips.{Run, Worked, strips_in, seven_wide, summed_of, scratch_after}
use Rattle.figures.specs.declared.Area.{Area}
use Rattle.figures.specs.Figures.{conclusion_of}

-- what the strips are worked from: the area's integrand of three components, between the break heights, "divided by
-- root chord plus span" ("Set and planform"; "Const generics become two widths")
abbrev pub area_run : Planform → List Float → ℕ → Run
area_run planform points L =
    record {
      width = 3;
      integrand = area_three planform points;
      limit = L;
      scale = scale_of planform points;
      heights = break_heights planform points;
    }

-- every strip worked
abbrev pub area_strips : Planform → List Float → ℕ → List Worked
area_strips planform points L = strips_in (area_run planform points L)

-- the strips as the scratch and the totals hold them: "an area run uses three of the seven, the rest zero" ("Piece and
-- tally")
abbrev pub area_seven : Planform → List Float → ℕ → List Worked
area_seven planform points L = seven_wide 3 (area_strips planform points L)

-- a refusal: "Figures zero; intervals 0; samples taken so far"
abbrev pub refused_area : Refusal → ℕ → Area
refused_area refusal samples =
    record {
      verdict = Err refusal;
      area_m2 = bits 0;
      centroid_x_m = bits 0;
      centroid_span_m = bits 0;
      intervals = 0;
      samples = samples;
    }

-- the strips' area as it was before lengths were divided by the scale
abbrev pub unscaled_area : Float → List Float → Float
unscaled_area scale v = at v 0 ⊗ scale ⊗ scale

-- area and centroid by the totals over the strips, in which x and height are summed over the area; or the refusal
abbrev pub area_by : Verdict → Float → Totals → Area
area_by verdict scale totals =
    by_verdict verdict
    (record {
      verdict = (Ok tt);
      area_m2 = unscaled_area scale totals.value;
      centroid_x_m = scale ⊗ at totals.value 1 ⊘ at totals.value 0;
      centroid_span_m = scale ⊗ at totals.value 2 ⊘ at totals.value 0;
      intervals = totals.intervals;
      samples = totals.samples;
    })
    (λ refusal. refused_area refusal totals.samples)

-- the answer of a planform whose strips add up to these totals: area and centroid, 13 or 8
unfoldable pub concluded_area : Float → Integral → Area
concluded_area scale total =
    area_by (conclusion_of total.ending (unscaled_area scale total.totals.value)) scale total.totals

-- the answer of a planform that is accepted
abbrev pub worked_area : Planform → List Float → ℕ → Area
worked_area planform points L = concluded_area (scale_of planform points) (summed_of (area_seven planform points L))

-- the answer of a planform that is accepted, and what its strips leave in the scratch
abbrev pub worked_planform : Planform → List Float → ℕ → CallOf Area
worked_planform planform points L =
    record { answer = worked_area planform points L; leaves = scratch_after (area_seven planform points L) }

-- "1, 2, planform, strips, 8": every check before the strips, then the strips
unfoldable pub area_call : Planform → List Float → ℕ → ℕ → CallOf Area
area_call planform points L scratch_length =
    by_verdict (area_check planform points L scratch_length) (worked_planform planform points L)
    (λ refusal. leaves_alone (refused_area refusal 0))

abbrev pub area_figures : Planform → List Float → ℕ → ℕ → Area
area_figures planform points L scratch_length = (area_call planform points L scratch_length).answer
