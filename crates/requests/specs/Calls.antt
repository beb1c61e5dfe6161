-- The calls on what is given by numbers (docs/FORMS.md; include/delvouzh.h): an unknown number, or another count of
-- numbers, is no form.
use Rattle.std.specs.Prelude.{cond, List, ℕ, ◌+◌, ◌*◌, ◌/◌, eqb, length, Float, Err, Option, Some, None, Result}
use Rattle.floats.specs.Operations.{at}
use Rattle.refusals.specs.declared.Refusal.{Refusal}
use Rattle.refusals.specs.declared.Refusal.TheVariants.{NoForm}
use Rattle.refusals.specs.Verdict.{Verdict}
use Rattle.refusals.specs.Calls.{CallOf, leaves_alone}
use Rattle.planforms.specs.declared.Planform.{Planform}
use Rattle.planform_chords.specs.PlanformChords.{chords_call}
use Rattle.drill.specs.declared.Place.{Place}
use Rattle.drill.specs.Drill.{drill_of}
use Rattle.fins.specs.declared.FinSet.{FinSet}
use Rattle.materials.specs.declared.Density.{Density}
use Rattle.materials.specs.Numbered.{numbered_density}
use Rattle.tubes.specs.Tubes.{tubes_of}
use Rattle.bodies.specs.declared.Body.{Body}
use Rattle.bodies.specs.Vectors.{vector}
use Rattle.bodies.specs.Tensors.{zero_tensor, tensor}
use Rattle.bodies.specs.Layout.{tensor_numbers, body_numbers, body_of}
use Rattle.joins.specs.Joins.{joined_of}
use Rattle.moments.specs.Moments.{principal_moments_of}
use Rattle.body_check.specs.BodyCheck.{check_of}
use Rattle.placements.specs.Copies.{copied_of, placed_at_of}
use Rattle.placements.specs.Parts.{moved_of, without_of}
use Rattle.figures.specs.declared.Area.{Area}
use Rattle.figures.specs.declared.Figures.{Figures}
use Rattle.figures.specs.Figures.{refused_figures, set_call}
use Rattle.figures.specs.Areas.{refused_area, area_call}

-- ---- a set's figures, and what is left in the scratch

unfoldable pub numbered_call : Option FinSet → List Float → ℕ → ℕ → CallOf Figures
numbered_call (Some set) points L scratch_length = set_call set points L scratch_length
numbered_call None points L scratch_length = leaves_alone (refused_figures NoForm 0)

-- ---- a planform's area, and what is left in the scratch

unfoldable pub numbered_area : Option Planform → List Float → ℕ → ℕ → CallOf Area
numbered_area (Some planform) points L scratch_length = area_call planform points L scratch_length
numbered_area None points L scratch_length = leaves_alone (refused_area NoForm 0)

-- ---- a planform's chords at a height, and the list that they are written over (document 02, Paper 1)

unfoldable pub numbered_chords : Option Planform → List Float → Float → CallOf (Result ℕ Refusal)
numbered_chords (Some planform) points h = chords_call planform points h
numbered_chords None points h = leaves_alone (Err NoForm)

-- ---- where a point lies beside a planform (document 02, Paper 11)

unfoldable pub numbered_drill : Option Planform → List Float → Float → Float → Result Place Refusal
numbered_drill (Some planform) points x height = drill_of planform points x height
numbered_drill None points x height = Err NoForm

-- ---- a ring of tubes (document 02, Paper 3): of length, outer radius, wall, base angle, body radius, density

abbrev pub ring_of_known : ℕ → Option Density → List Float → Result Body Refusal
ring_of_known count (Some density) figures =
    tubes_of
    (record {
      count = count;
      length_m = at figures 0;
      outer_radius_m = at figures 1;
      thickness_m = at figures 2;
      base_angle_rad = at figures 3;
      density = density;
    })
    (at figures 4)
ring_of_known count None figures = Err NoForm

unfoldable pub ring_by : ℕ → ℕ → List Float → Result Body Refusal
ring_by count density figures =
    cond (eqb (length figures) 6) (ring_of_known count (numbered_density density (at figures 5)) figures)
    (Err NoForm)

-- ---- points joined

-- "(point MASS X Y Z)", number k of a line: a mass at a place
abbrev pub point_body_at : List Float → ℕ → Body
point_body_at figures k =
    record {
      mass_kg = at figures (4 * k);
      centre_m = vector (at figures (4 * k + 1)) (at figures (4 * k + 2)) (at figures (4 * k + 3));
      inertia_kg_m2 = zero_tensor;
    }

-- the points of a line joined: "none, or more, gives 3"
unfoldable pub joined_points_of : List Float → Result Body Refusal
joined_points_of figures = joined_of (point_body_at figures) (length figures / 4)

-- ---- principal moments: of a tensor's numbers

unfoldable pub tensor_moments : List Float → Result (List Float) Refusal
tensor_moments numbers =
    cond (eqb (length numbers) tensor_numbers) (principal_moments_of (tensor (at numbers))) (Err NoForm)

-- ---- the body check: of a body's numbers

unfoldable pub body_verdict : List Float → Verdict
body_verdict numbers = cond (eqb (length numbers) body_numbers) (check_of (body_of (at numbers))) (Err NoForm)

-- ---- copies of a body, and a part moved or taken off (document 02, Paper 13): of bodies' numbers

-- what f gives of the body that numbers make up: another count of numbers than a body's is no form
abbrev pub of_body : List Float → (Body → Result Body Refusal) → Result Body Refusal
of_body numbers f = cond (eqb (length numbers) body_numbers) (f (body_of (at numbers))) (Err NoForm)

unfoldable pub copied_by : List Float → List Float → Result Body Refusal
copied_by body offsets = of_body body (λ b. copied_of b offsets)

unfoldable pub placed_by : List Float → List Float → Result Body Refusal
placed_by body places = of_body body (λ b. placed_at_of b places)

-- a part moved by an offset of x, y and z
unfoldable pub moved_by : List Float → List Float → List Float → Result Body Refusal
moved_by whole part offset =
    of_body whole
    (λ w. of_body part
    (λ p. cond (eqb (length offset) 3) (moved_of w p (vector (at offset 0) (at offset 1) (at offset 2)))
    (Err NoForm)))

unfoldable pub without_by : List Float → List Float → Result Body Refusal
without_by whole part = of_body whole (λ w. of_body part (λ p. without_of w p))
