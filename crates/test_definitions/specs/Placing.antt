-- Copies at places, and parts moved or taken off (document 02, Paper 13): rows against wrong definitions that give
-- another figure or number.
use Rattle.std.specs.Prelude.{Bool, true, false, ◌&&◌, [], ◌∷◌, map, ℕ, T}
use Rattle.std.specs.Float.Ieee.{add, sub, mul, div, neg, lt, le, eq, ne, of_bits, to_bits, of_int, round, is_nan}
use Rattle.floats.specs.Operations.{bits, every, tabulate}
use Rattle.floats.specs.Floats.{abs_of}
use Rattle.root.specs.Root.{root_of, near_root}
use Rattle.trig.specs.Trig.{m_of, sin_cos_of}
use Rattle.refusals.specs.Order.{first_from}
use Rattle.limits.specs.Limits.{length_within, length_check, angle_check}
use Rattle.bodies.specs.declared.Body.{Body}
use Rattle.bodies.specs.Vectors.{vector}
use Rattle.bodies.specs.Tensors.{zero_tensor, turn_tensor}
use Rattle.bodies.specs.Bodies.{inertia_about_of, rotated_of}
use Rattle.joins.specs.Joins.{in_order, sums_of, inertia_of, join_of}
use Rattle.moments.specs.Moments.{rotation_of, rotate, sweep, sweeps, insert_moment, insert_all, eigenvalues_of}
use Rattle.body_check.specs.BodyCheck.{largest_magnitude, check_tensor}
use Rattle.placements.specs.Places.{place, here, places_check}
use Rattle.placements.specs.Copies.{turned_copy, copy_at, placed_of, copies_check}
use Rattle.placements.specs.Parts.{moved_check, without_check}
use Rattle.test_definitions.specs.Rows.{is, accepted, refused}

-- the bits of 0.1, the f64 after it, 1, 5, 65, minus 1, minus 0 and NaN
abbrev tenth : ℕ
tenth = 0x3fb9_9999_9999_999a

abbrev next_tenth : ℕ
next_tenth = 0x3fb9_9999_9999_999b

abbrev one : ℕ
one = 0x3ff0_0000_0000_0000

abbrev five : ℕ
five = 0x4014_0000_0000_0000

abbrev large : ℕ
large = 0x4050_4000_0000_0000

abbrev minus_one : ℕ
minus_one = 0xbff0_0000_0000_0000

abbrev minus_zero : ℕ
minus_zero = 0x8000_0000_0000_0000

abbrev not_number : ℕ
not_number = 0x7ff8_0000_0000_0000

-- a mass at a place on the x axis
abbrev point : ℕ → ℕ → Body
point mass x =
    record { mass_kg = bits mass; centre_m = vector (bits x) (bits 0) (bits 0); inertia_kg_m2 = zero_tensor }

-- against moving before turning: the body's centre lies on the axis, so a copy's centre is its offset, whatever the
-- roll
abbrev pub turned_before_moved : Bool
turned_before_moved =
    let copy = copy_at (point one 0) (place (bits one) (bits 0) (bits one)) in
    is copy.centre_m.x one && is copy.centre_m.y 0

-- one place at HERE is the body itself: joined, the centre 0.1 of a mass of 0.1 would come out one last bit larger;
-- either zero is zero
abbrev pub here_is_the_body : Bool
here_is_the_body =
    is (placed_of (point tenth tenth) (λ k. here) 1).centre_m.x tenth
    && is (placed_of (point tenth tenth) (λ k. place (bits minus_zero) (bits 0) (bits minus_zero)) 1).centre_m.x tenth
    && is (join_of (λ k. copy_at (point tenth tenth) here) 1).centre_m.x next_tenth

-- 32 places pass; 33, none, and a list with half a place are refused
abbrev pub places_counted : Bool
places_counted =
    accepted (copies_check false (point one 0) (tabulate 64 (λ i. bits 0)))
    && refused 3 [] (copies_check false (point one 0) (tabulate 66 (λ i. bits 0)))
    && refused 3 [] (copies_check true (point one 0) (tabulate 99 (λ i. bits large)))
    && refused 3 [] (copies_check false (point one 0) [])
    && refused 3 [] (copies_check false (point one 0) (tabulate 3 (λ i. bits 0)))

-- the order of the checks: the body before the list, the list before its places, and x, y, roll of one place before the
-- next
abbrev pub places_in_order : Bool
places_in_order =
    refused 15 [] (copies_check true (point minus_one 0) [])
    && refused 4 (19 ∷ []) (copies_check true (point one 0) (map bits (0 ∷ large ∷ five ∷ [])))
    && refused 9 (20 ∷ []) (copies_check true (point one 0) (map bits (0 ∷ 0 ∷ five ∷ large ∷ 0 ∷ 0 ∷ [])))

-- 26 for equal masses where a part is taken off; where a part is moved, only that the whole has mass is asked
abbrev pub heavier : Bool
heavier =
    refused 26 [] (without_check (point tenth 0) (point tenth 0))
    && refused 26 [] (without_check (point tenth 0) (point next_tenth 0))
    && accepted (without_check (point next_tenth 0) (point tenth 0))
    && accepted (moved_check (point tenth 0) (point next_tenth 0) (vector (bits 0) (bits 0) (bits 0)))
    && refused 26 [] (moved_check (point minus_zero 0) (point 0 0) (vector (bits 0) (bits 0) (bits 0)))
    && refused 4 (19 ∷ []) (moved_check (point 0 0) (point 0 0) (vector (bits 0) (bits 0) (bits large)))

-- against checking the part before the whole
abbrev pub whole_before_part : Bool
whole_before_part =
    refused 16 [] (without_check (point one not_number) (point minus_one 0))
    && refused 16 [] (moved_check (point one not_number) (point minus_one 0) (vector (bits large) (bits 0) (bits 0)))
    && refused 15 [] (moved_check (point one 0) (point minus_one 0) (vector (bits large) (bits 0) (bits 0)))

pub placing_holds :
    T (turned_before_moved && here_is_the_body && places_counted && places_in_order && heavier && whole_before_part)
unfolding of_bits to_bits of_int round add sub mul div neg lt le eq ne is_nan abs_of root_of near_root m_of sin_cos_of first_from every length_within length_check angle_check turn_tensor inertia_about_of rotated_of in_order sums_of inertia_of join_of rotation_of rotate sweep sweeps insert_moment insert_all eigenvalues_of largest_magnitude check_tensor places_check turned_copy copy_at placed_of copies_check moved_check without_check
placing_holds = tt
