-- A job's copy of the points serves as the points do: an accepted outline has no more numbers than the copy has room for, and of a
-- trapezoid or an ellipse no point is read. Assumes nothing.
use Rattle.std.specs.Prelude.{Ok}
use mathlib.Core.Path.{◌≡◌, refl, ap, ◌∙◌}
use mathlib.Core.Bool.{Bool, cond, ◌&&◌}
use mathlib.Core.List.{List}
use Prim.Native.Nat.{◌≤◌, ◌%◌}
use native.Mathlib.Omega.{arith}
use borrow.Author.Tests.{eqb-true, leb-true, le-leb}
use lib.Dec.{leb, eqb}
use lib.ListN.{length, take, replicate}
use lib.Seq.{take_all}
use lib.Ieee.{Float}
use Rattle.floats.specs.Operations.{bits}
use Rattle.sorting.specs.Sorted.{over}
use Rattle.sorting.proofs.Over.{take_over}
use Rattle.refusals.proofs.Accepted.{holds, both, both_true}
use Rattle.limits.specs.Limits.{most_points, outline_numbers}
use Rattle.planforms.specs.declared.Planform.{Planform}
use Rattle.planforms.specs.declared.Planform.TheVariants.{Trapezoid, Ellipse, Outline}
use Rattle.planforms.specs.Planforms.{pair_count, root_chord_of, span_of}
use Rattle.outlines.specs.Outlines.{are_pairs, outline_check}
use Rattle.outlines.proofs.Accepted.{outline_accepted}
use Rattle.breaks.specs.Breaks.{every_y, all_heights}
use Rattle.chords.specs.Chords.{ends_at}
use Rattle.sections.specs.declared.Section.{Section}
use Rattle.integrands.specs.Integrands.{scale_of, sample_of, plate_of}
use Rattle.outlines.specs.Outlines.{planform_check}
use Rattle.jobs.specs.Jobs.{held_of, points_of}

-- what a job reads of its copy
abbrev pub kept_of : List Float → List Float
kept_of points = take (held_of (points_of points).count) (points_of points).numbers

all_kept : (points : List Float) → length points ≤ outline_numbers → kept_of points ≡ points
all_kept points few =
    ap (λ (l : List Float). take (held_of (length l)) (over l (replicate outline_numbers (bits 0)))) (take_all outline_numbers points few)
    ∙ ap (λ (b : Bool). take (cond b (length points) outline_numbers) (over points (replicate outline_numbers (bits 0))))
    (le-leb (length points) outline_numbers few)
    ∙ take_over points (replicate outline_numbers (bits 0))

-- "points not 3 to 64 whole pairs"
pub outline_few : (points : List Float) → outline_check points ≡ Ok tt → length points ≤ outline_numbers
outline_few points h =
    let n = pair_count points in
    let pairs = both_true (eqb (length points % 2) 0 && leb 3 n) (leb n most_points)
    (holds (are_pairs points) _ (outline_accepted points h).pairs) in
    let whole = eqb-true (length points % 2) 0 (both_true (eqb (length points % 2) 0) (leb 3 n) pairs.0).0 in
    let most = leb-true n most_points pairs.1 in
    omega (arith, whole, most)

-- what strips and figures read of points is the same of others
pub record Same (planform : Planform) (points others : List Float) : Type 0 where
  pub plate : (section : Section) (thickness radius : Float)
      → plate_of planform others section thickness radius ≡ plate_of planform points section thickness radius
  pub root : root_chord_of planform others ≡ root_chord_of planform points
  pub scale : scale_of planform others ≡ scale_of planform points
  pub heights : all_heights planform others ≡ all_heights planform points

pub kept_same : (planform : Planform) (points : List Float) → planform_check planform points ≡ Ok tt
    → Same planform points (kept_of points)
unfolding planform_check root_chord_of span_of scale_of every_y ends_at sample_of plate_of
kept_same (Trapezoid root tip span sweep) points h = record
    { plate = λ section thickness radius. refl; root = refl; scale = refl; heights = refl }
kept_same (Ellipse root span) points h = record { plate = λ section thickness radius. refl; root = refl; scale = refl; heights = refl }
kept_same Outline points h =
    let e = all_kept points (outline_few points h) in
    record {
      plate = λ section thickness radius. ap (λ (p : List Float). plate_of Outline p section thickness radius) e;
      root = ap (root_chord_of Outline) e;
      scale = ap (scale_of Outline) e;
      heights = ap (all_heights Outline) e;
    }
