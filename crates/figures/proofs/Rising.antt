-- The runs of every set and every planform that passed the checks are bounded: so their pieces rise, and their samples
-- and the numbers worked from these are finite. Assumes nothing.
use Rattle.std.specs.Prelude.{Ok}
use mathlib.Core.Path.{◌≡◌}
use mathlib.Core.List.{List}
use Prim.Native.Nat.{ℕ, ◌≤◌}
use native.Mathlib.Nat.{le_trans}
use lib.Dec.{lit≤}
use lib.ListN.{length}
use lib.Ieee.{Float}
use Rattle.floats.specs.Operations.{◌⊘◌}
use Rattle.rounding.specs.Sizes.{Below}
use Rattle.rounding.proofs.Sizes.{div_below}
use Rattle.sorting.specs.Sorted.{Each}
use Rattle.limits.specs.Limits.{thickness_field, body_radius_field}
use Rattle.limits.proofs.Lengths.{Length, length_checked}
use Rattle.sections.specs.declared.Section.{Section}
use Rattle.planforms.specs.declared.Planform.{Planform}
use Rattle.planforms.proofs.Sized.{PlanformF64, Sized}
use Rattle.breaks.proofs.Bounded.{breaks_bounded, breaks_rise}
use Rattle.integrands.specs.Integrands.{scale_of, area_integrand, plate_integrand, sample_of, area_three, plate_of}
use Rattle.integrands.proofs.Scales.{scale_sized}
use Rattle.integrands.proofs.Samples.{sample_below}
use Rattle.fins.specs.declared.FinSet.{FinSet}
use Rattle.fins.specs.Fins.{set_check, area_check}
use Rattle.fins.proofs.Accepted.{set_accepted, set_limit, area_planform, area_limit}
use Rattle.fins.proofs.Sized.{planform_sized}
use Rattle.strips.specs.Rising.{PiecesRise, SamplesFinite, NumbersFinite}
use Rattle.strips.proofs.Rising.{SizedRun, pieces_rise, all_finite, numbers_finite}
use Rattle.figures.specs.Figures.{set_run, set_strips}
use Rattle.figures.specs.Areas.{area_run, area_strips}
use Rattle.figures.proofs.Owned.{SetF64}
use Rattle.figures.proofs.StripCount.{set_strips_counted, area_strips_counted}

-- ---- the samples of a planform within its limits
module _ (planform : Planform) (points : List Float) (s : Sized planform points) where
  -- the area's three components are the first of seven
  area_below : (h : Float) → Below 28 h → Each (Below 700) (area_three planform points h)
  unfolding area_three sample_of
  area_below h b =
      let e = sample_below (area_integrand planform points) points h s (scale_sized planform points s) tt b in
      (e.0, (e.1.0, (e.1.1.0, tt)))

  over_scale : (x : Float) → Length x → Below 26 (x ⊘ scale_of planform points)
  over_scale x l = div_below x (scale_of planform points) 6 20 (lit≤ tt) l.below (scale_sized planform points s).above

  plate_below : (section : Section) (thickness radius : Float) → Length thickness → Length radius → (h : Float) → Below 28 h
      → Each (Below 700) (plate_of planform points section thickness radius h)
  unfolding plate_of
  plate_below section thickness radius t r h b =
      sample_below (plate_integrand planform points section thickness radius) points h s (scale_sized planform points s)
      (over_scale thickness t, over_scale radius r) b

area_wide : (planform : Planform) (points : List Float) (h : Float) → 3 ≤ length (area_three planform points h)
unfolding area_three
area_wide planform points h = lit≤ tt

plate_wide : (planform : Planform) (points : List Float) (section : Section) (thickness radius h : Float)
    → 7 ≤ length (plate_of planform points section thickness radius h)
unfolding plate_of sample_of
plate_wide planform points section thickness radius h = lit≤ tt

-- ---- the runs
module _ (planform : Planform) (points : List Float) (L n : ℕ) (f64s : PlanformF64 planform points)
    (accepted : area_check planform points L n ≡ Ok tt) where
  area_sized : SizedRun (area_run planform points L)
  area_sized =
      let s = planform_sized planform points f64s (area_planform planform points L n accepted) in
      let limit = area_limit planform points L n accepted in
      record {
        some = limit.0;
        most = le_trans limit.1 (lit≤ tt);
        scale_above = (scale_sized planform points s).above;
        scale_positive = (scale_sized planform points s).is_positive;
        heights_below = breaks_bounded planform points s;
        heights_rise = breaks_rise planform points s;
        samples_below = area_below planform points s;
        samples_wide = area_wide planform points;
        few_strips = (area_strips_counted planform points L n accepted).1;
      }

  pub area_pieces_rise : PiecesRise (area_strips planform points L)
  area_pieces_rise = pieces_rise (area_run planform points L) area_sized

  pub area_samples_finite : SamplesFinite (area_run planform points L) (area_strips planform points L)
  area_samples_finite = all_finite (area_run planform points L) area_sized

  pub area_numbers_finite : NumbersFinite (area_run planform points L) (area_strips planform points L)
  area_numbers_finite = numbers_finite (area_run planform points L) area_sized

module _ (set : FinSet) (points : List Float) (L n : ℕ) (f64s : SetF64 set points) (accepted : set_check set points L n ≡ Ok tt) where
  set_sized : SizedRun (set_run set points L)
  set_sized =
      let a = set_accepted set points L n accepted in
      let s = planform_sized set.planform points f64s.planform a.planform in
      let limit = set_limit set points L n accepted in
      record {
        some = limit.0;
        most = le_trans limit.1 (lit≤ tt);
        scale_above = (scale_sized set.planform points s).above;
        scale_positive = (scale_sized set.planform points s).is_positive;
        heights_below = breaks_bounded set.planform points s;
        heights_rise = breaks_rise set.planform points s;
        samples_below = plate_below set.planform points s set.cross_section set.thickness_m set.body_radius_m
            (length_checked thickness_field set.thickness_m f64s.thickness a.thickness)
            (length_checked body_radius_field set.body_radius_m f64s.radius a.radius);
        samples_wide = plate_wide set.planform points set.cross_section set.thickness_m set.body_radius_m;
        few_strips = (set_strips_counted set points L n accepted).1;
      }

  pub set_pieces_rise : PiecesRise (set_strips set points L)
  set_pieces_rise = pieces_rise (set_run set points L) set_sized

  pub set_samples_finite : SamplesFinite (set_run set points L) (set_strips set points L)
  set_samples_finite = all_finite (set_run set points L) set_sized

  pub set_numbers_finite : NumbersFinite (set_run set points L) (set_strips set points L)
  set_numbers_finite = numbers_finite (set_run set points L) set_sized
