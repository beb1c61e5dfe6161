-- Where may I drill? (document 02, Paper 11)
use Rattle.std.specs.Prelude.{Bool, true, false, cond, List, [], ◌∷◌, map, ℕ, ℤ, pos, ◌+ℤ◌, length, get_or, Float, Ok, Err, Result}
use Rattle.floats.specs.Operations.{every}
use Rattle.refusals.specs.declared.Refusal.{Refusal}
use Rattle.refusals.specs.declared.Refusal.TheVariants.{NoCorners, NotWholeSteps}
use Rattle.refusals.specs.Verdict.{Verdict}
use Rattle.refusals.specs.Results.{unless_refused}
use Rattle.refusals.specs.Order.{refuse_unless, first_of}
use Rattle.planforms.specs.declared.Planform.{Planform}
use Rattle.planforms.specs.declared.Planform.TheVariants.{Trapezoid, Ellipse, Outline}
use Rattle.limits.specs.Limits.{drill_xfield, drill_height_field, length_check}
use Rattle.outlines.specs.Outlines.{planform_check}
use Rattle.steps.specs.Steps.{exact_of, is_whole, steps_of}
use Rattle.polygons.specs.Polygons.{is_on_edge, is_inside, nearest_corner}
use Rattle.drill.specs.declared.Place.{Place}
use Rattle.drill.specs.declared.Place.TheVariants.{Inside, Edge, Outside}

-- "Corners in order: the drawn points, or (0,0), (sweep, span), (sweep + tip, span), (root, 0)": exactly, in units of
-- 2^-1074 m, an x and a height for each. An ellipse has none.
abbrev pub corners_of : Planform → List Float → List ℤ
corners_of (Trapezoid root tip span sweep) points =
    pos 0 ∷ pos 0
    ∷ exact_of sweep ∷ exact_of span
    ∷ (exact_of sweep +ℤ exact_of tip) ∷ exact_of span
    ∷ exact_of root ∷ pos 0
    ∷ []
corners_of (Ellipse root span) points = []
corners_of Outline points = map exact_of points

-- every number of a list is a whole number of steps
unfoldable pub are_whole : List ℤ → Bool
are_whole l = every (length l) (λ k. is_whole (get_or l k (pos 0)))

-- where a point lies, from the corners and the point in steps: "For a point, answer inside, on the edge, or outside,
-- and give the nearest corner"; "Edge comes before inside"
unfoldable pub place_of : List ℤ → ℤ → ℤ → Place
place_of corners x height =
    let nearest = nearest_corner corners x height in
    cond (is_on_edge corners x height) (Edge nearest)
    (cond (is_inside corners x height) (Inside nearest) (Outside nearest))

-- whether a planform has corners; else it is 24, "an ellipse"
abbrev pub has_corners : Planform → Bool
has_corners (Trapezoid root tip span sweep) = true
has_corners (Ellipse root span) = false
has_corners Outline = true

-- "The planform is checked first, then the length limits on the point's own x and height, zero or negative allowed,
-- fields 17 and 18. Turned away last: 24, an ellipse; then 25, a coordinate of the point or of a corner that is no
-- whole number of steps."
unfoldable pub drill_check : Planform → List Float → Float → Float → Verdict
drill_check planform points x height =
    first_of
    (planform_check planform points
    ∷ length_check drill_xfield x
    ∷ length_check drill_height_field height
    ∷ refuse_unless (has_corners planform) NoCorners
    ∷ refuse_unless (are_whole (exact_of x ∷ exact_of height ∷ corners_of planform points)) NotWholeSteps
    ∷ [])

-- where a point lies beside a planform, once it passed the checks
unfoldable pub drill_of : Planform → List Float → Float → Float → Result Place Refusal
drill_of planform points x height =
    unless_refused (drill_check planform points x height)
    (place_of (map steps_of (corners_of planform points)) (steps_of (exact_of x)) (steps_of (exact_of height)))

-- ---- an answer as two numbers, as the library hands it out

-- an answer's place as a number: 1 inside, 2 on the edge, 3 outside; 0 where the point is turned away
abbrev pub place_number : Result Place Refusal → ℕ
place_number (Ok (Inside nearest)) = 1
place_number (Ok (Edge nearest)) = 2
place_number (Ok (Outside nearest)) = 3
place_number (Err r) = 0

-- the nearest corner's position; 0 where the point is turned away
abbrev pub nearest_of : Result Place Refusal → ℕ
nearest_of (Ok (Inside nearest)) = nearest
nearest_of (Ok (Edge nearest)) = nearest
nearest_of (Ok (Outside nearest)) = nearest
nearest_of (Err r) = 0
