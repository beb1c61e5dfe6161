-- Places of copies across the axis, and a list of them as numbers (document 02, Paper 13; mass.rs, `Placement`).
use Rattle.std.specs.Prelude.{Bool, true, false, cond, ◌&&◌, List, [], ◌∷◌, ℕ, ◌+◌, ◌*◌, ◌/◌, ◌%◌, eqb, length, Float, Err}
use Rattle.std.specs.Float.Ieee.{eq}
use Rattle.floats.specs.Operations.{bits, at}
use Rattle.refusals.specs.declared.Refusal.TheVariants.{Count}
use Rattle.refusals.specs.Verdict.{Verdict}
use Rattle.refusals.specs.Order.{first_of, first_between}
use Rattle.limits.specs.Limits.{offset_field, roll_field, length_check, angle_check, count_check}
use Rattle.placements.specs.declared.Placement.{Placement}

abbrev pub place : Float → Float → Float → Placement
place x y roll = record { offset_x_m = x; offset_y_m = y; roll_rad = roll }

-- "`Placement`, whose untouched place is a constant of its type"
abbrev pub here : Placement
here = place (bits 0) (bits 0) (bits 0)

-- whether a place is the untouched one, by the Rust's ==: either zero is zero
abbrev pub is_here : Placement → Bool
is_here p =
    eq p.offset_x_m here.offset_x_m && eq p.offset_y_m here.offset_y_m
    && eq p.roll_rad here.roll_rad

-- ---- a list of places: x and y of each, and in a list with rolls its roll after them

abbrev pub numbers_each : Bool → ℕ
numbers_each true = 3
numbers_each false = 2

abbrev pub place_count : Bool → List Float → ℕ
place_count rolled numbers = length numbers / numbers_each rolled

abbrev pub is_whole_list : Bool → List Float → Bool
is_whole_list rolled numbers = eqb (length numbers % numbers_each rolled) 0

-- place k of a list; without rolls a copy is only moved, as mass.rs makes such a place of an offset
abbrev pub place_at : Bool → List Float → ℕ → Placement
place_at true numbers k = place (at numbers (3 * k)) (at numbers (3 * k + 1)) (at numbers (3 * k + 2))
place_at false numbers k = place (at numbers (2 * k)) (at numbers (2 * k + 1)) (bits 0)

-- ---- the checks of a list of places

-- "Lists hold 1 to 32 places, 3 otherwise"; a list that is no whole number of places is refused 3 too
abbrev pub list_check : Bool → List Float → Verdict
list_check rolled numbers =
    cond (is_whole_list rolled numbers) (count_check (place_count rolled numbers)) (Err Count)

-- "Offsets obey the length limits, zero and negative allowed, with field 19 for each number of an offset; roll obeys
-- the angle limit, field 20"
abbrev pub place_check : Placement → Verdict
place_check p =
    first_of
    (length_check offset_field p.offset_x_m ∷ length_check offset_field p.offset_y_m ∷
    angle_check roll_field p.roll_rad ∷ [])

-- the checks of the places: "offset and roll place by place"
unfoldable pub places_check : Bool → List Float → Verdict
places_check rolled numbers =
    first_between 0 (place_count rolled numbers) (λ k. place_check (place_at rolled numbers k))
