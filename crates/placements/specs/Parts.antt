-- A part moved inside a body, or taken off it (document 02, Paper 13; mass.rs, `with_part_moved` and `without_part`).
use Rattle.std.specs.Prelude.{List, [], ◌∷◌, Result}
use Rattle.std.specs.Float.Ieee.{le, eq}
use Rattle.floats.specs.Operations.{◌⊖◌, ◌⊘◌, bits}
use Rattle.refusals.specs.declared.Refusal.TheVariants.{NotHeavier}
use Rattle.refusals.specs.declared.Refusal.{Refusal}
use Rattle.refusals.specs.Verdict.{Verdict}
use Rattle.refusals.specs.Results.{unless_refused}
use Rattle.refusals.specs.Order.{refuse_when, first_of}
use Rattle.limits.specs.Limits.{offset_field, length_check}
use Rattle.bodies.specs.declared.Body.{Body}
use Rattle.bodies.specs.declared.Vector.{Vector}
use Rattle.bodies.specs.Vectors.{add_vectors, subtract_vectors, scale_vector, divide_vector}
use Rattle.bodies.specs.Tensors.{add_tensors, subtract_tensors, scale_tensor, offset_tensor_of}
use Rattle.bodies.specs.Bodies.{inertia_about_of}
use Rattle.body_check.specs.BodyCheck.{check_of}

-- ---- a part moved by an offset: cg' = cg + δ (m / M)

abbrev pub moved_centre : Body → Body → Vector → Vector
moved_centre whole part offset = add_vectors whole.centre_m (scale_vector offset (part.mass_kg ⊘ whole.mass_kg))

-- "I' = I_{cg'} + m [after − before]": the offset tensors of the part's centre about the new centre, where it comes to
-- lie and where it was
unfoldable pub part_moved_of : Body → Body → Vector → Body
part_moved_of whole part offset =
    let centre = moved_centre whole part offset in
    let before = offset_tensor_of (subtract_vectors part.centre_m centre) in
    let after = offset_tensor_of (subtract_vectors (add_vectors part.centre_m offset) centre) in
    record {
      mass_kg = whole.mass_kg;
      centre_m = centre;
      inertia_kg_m2 =
          add_tensors (inertia_about_of whole centre) (scale_tensor (subtract_tensors after before) part.mass_kg);
    }

-- the checks of each number of an offset
abbrev pub offset_checks : Vector → List Verdict
offset_checks offset =
    length_check offset_field offset.x ∷ length_check offset_field offset.y ∷ length_check offset_field offset.z ∷ []

-- "Each body handed in, the whole before the part, is checked 15 to 17 first"; refusal 26: "a part is moved in a body
-- of mass 0, last"
unfoldable pub moved_check : Body → Body → Vector → Verdict
moved_check whole part offset =
    first_of
    (check_of whole
    ∷ check_of part
    ∷ first_of (offset_checks offset)
    ∷ refuse_when (eq whole.mass_kg (bits 0)) NotHeavier
    ∷ [])

unfoldable pub moved_of : Body → Body → Vector → Result Body Refusal
moved_of whole part offset = unless_refused (moved_check whole part offset) (part_moved_of whole part offset)

-- ---- a part taken off: M' = M − m, cg' = (M cg − m c) / M', I' = I_{cg'} − the part's about cg'

abbrev pub centre_without : Body → Body → Vector
centre_without whole part =
    divide_vector
    (subtract_vectors (scale_vector whole.centre_m whole.mass_kg)
    (scale_vector part.centre_m part.mass_kg))
    (whole.mass_kg ⊖ part.mass_kg)

unfoldable pub part_off_of : Body → Body → Body
part_off_of whole part =
    let centre = centre_without whole part in
    record {
      mass_kg = whole.mass_kg ⊖ part.mass_kg;
      centre_m = centre;
      inertia_kg_m2 = subtract_tensors (inertia_about_of whole centre) (inertia_about_of part centre);
    }

-- refusal 26: "the whole does not outweigh the part taken off", last
unfoldable pub without_check : Body → Body → Verdict
without_check whole part =
    first_of (check_of whole ∷ check_of part ∷ refuse_when (le whole.mass_kg part.mass_kg) NotHeavier ∷ [])

unfoldable pub without_of : Body → Body → Result Body Refusal
without_of whole part = unless_refused (without_check whole part) (part_off_of whole part)
