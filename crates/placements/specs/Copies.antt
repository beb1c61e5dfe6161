-- Copies of one body, one at each place, joined (document 02, Paper 13; mass.rs, `copied` and `placed`).
use Rattle.std.specs.Prelude.{Bool, true, false, cond, ◌&&◌, List, [], ◌∷◌, ℕ, eqb, Float, Result}
use Rattle.std.specs.Float.Ieee.{eq}
use Rattle.floats.specs.Operations.{bits}
use Rattle.refusals.specs.declared.Refusal.{Refusal}
use Rattle.refusals.specs.Verdict.{Verdict}
use Rattle.refusals.specs.Results.{unless_refused}
use Rattle.refusals.specs.Order.{first_of}
use Rattle.bodies.specs.declared.Body.{Body}
use Rattle.bodies.specs.Vectors.{vector}
use Rattle.bodies.specs.Bodies.{translated_of}
use Rattle.rotations.specs.Rotations.{rolled_of}
use Rattle.joins.specs.Joins.{join_of}
use Rattle.body_check.specs.BodyCheck.{check_of}
use Rattle.placements.specs.declared.Placement.{Placement}
use Rattle.placements.specs.Places.{is_here, place_count, place_at, list_check, places_check}

-- a body turned by a roll; a roll of 0 does not turn it at all
unfoldable pub turned_copy : Body → Float → Body
turned_copy b roll = cond (eq roll (bits 0)) b (rolled_of b roll)

-- the copy at a place: "rolled by its place's angle about the body's axis, then moved across it by its offset" (the
-- Rust's words)
unfoldable pub copy_at : Body → Placement → Body
copy_at b p = translated_of (turned_copy b p.roll_rad) (vector p.offset_x_m p.offset_y_m (bits 0))

-- the copies at the first n places of a family, joined: "One place that neither moves nor turns is `body` itself, bit
-- for bit" (the Rust's words)
unfoldable pub placed_of : Body → (ℕ → Placement) → ℕ → Body
placed_of b places n = cond (eqb n 1 && is_here (places 0)) b (join_of (λ k. copy_at b (places k)) n)

-- "Each body handed in .. is checked 15 to 17 first, then the list's length, then offset and roll place by place"
unfoldable pub copies_check : Bool → Body → List Float → Verdict
copies_check rolled b numbers = first_of (check_of b ∷ list_check rolled numbers ∷ places_check rolled numbers ∷ [])

unfoldable pub copies_of : Bool → Body → List Float → Result Body Refusal
copies_of rolled b numbers =
    unless_refused (copies_check rolled b numbers) (placed_of b (place_at rolled numbers) (place_count rolled numbers))

-- what `copied` answers, by offsets, and `placed`, by places
abbrev pub copied_of : Body → List Float → Result Body Refusal
copied_of = copies_of false

abbrev pub placed_at_of : Body → List Float → Result Body Refusal
placed_at_of = copies_of true
