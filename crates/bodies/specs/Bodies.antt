-- A body's tensor about a point, and the body moved and turned (document 01, "Body"; mass.rs).
use Rattle.bodies.specs.declared.Body.{Body}
use Rattle.bodies.specs.declared.Matrix.{Matrix}
use Rattle.bodies.specs.declared.Tensor.{Tensor}
use Rattle.bodies.specs.declared.Vector.{Vector}
use Rattle.std.specs.Prelude.{Float}
use Rattle.floats.specs.Operations.{bits}
use Rattle.bodies.specs.Vectors.{zero_vector, add_vectors, subtract_vectors}
use Rattle.bodies.specs.Matrices.{times_vector}
use Rattle.bodies.specs.Tensors.{zero_tensor, add_tensors, subtract_tensors, scale_tensor, turn_tensor, offset_tensor_of}

-- "The empty body is a constant of the type"
abbrev pub empty_body : Body
empty_body = record { mass_kg = bits 0; centre_m = zero_vector; inertia_kg_m2 = zero_tensor }

-- a body's tensor about a point: I + m (|d|² E − d dᵀ), with d = centre − point
unfoldable pub inertia_about_of : Body → Vector → Tensor
inertia_about_of b point =
    add_tensors b.inertia_kg_m2
    (scale_tensor (offset_tensor_of (subtract_vectors b.centre_m point)) b.mass_kg)

abbrev pub translated_of : Body → Vector → Body
translated_of b offset =
    record {
      mass_kg = b.mass_kg;
      centre_m = add_vectors b.centre_m offset;
      inertia_kg_m2 = b.inertia_kg_m2;
    }

-- a body turned by a matrix R: its centre is R·centre, its tensor R·I·Rᵀ
unfoldable pub rotated_of : Body → Matrix → Body
rotated_of b rotation =
    record {
      mass_kg = b.mass_kg;
      centre_m = times_vector rotation b.centre_m;
      inertia_kg_m2 = turn_tensor b.inertia_kg_m2 rotation;
    }

-- a mass at a place, with no tensor of its own
abbrev pub point_mass : Float → Vector → Body
point_mass mass centre = record { mass_kg = mass; centre_m = centre; inertia_kg_m2 = zero_tensor }

-- a body by its mass, its centre and its tensor about the origin, which is moved to the centre (fins.rs, `single_fin`
-- and `fillets`)
unfoldable pub of_origin_tensor : Float → Vector → Tensor → Body
of_origin_tensor mass centre about_origin =
    record {
      mass_kg = mass;
      centre_m = centre;
      inertia_kg_m2 = subtract_tensors about_origin (inertia_about_of (point_mass mass centre) zero_vector);
    }
