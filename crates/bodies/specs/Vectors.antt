-- "glam: vector .. operations by component; dot is left to right" (document 01, "Stand-ins").
use Rattle.std.specs.Prelude.{Float}
use Rattle.floats.specs.Operations.{◌⊕◌, ◌⊖◌, ◌⊗◌, ◌⊘◌, bits}
use Rattle.bodies.specs.declared.Vector.{Vector}

abbrev pub vector : Float → Float → Float → Vector
vector x y z = record { x = x; y = y; z = z }

abbrev pub zero_vector : Vector
zero_vector = vector (bits 0) (bits 0) (bits 0)

abbrev pub add_vectors : Vector → Vector → Vector
add_vectors u v = vector (u.x ⊕ v.x) (u.y ⊕ v.y) (u.z ⊕ v.z)

abbrev pub subtract_vectors : Vector → Vector → Vector
subtract_vectors u v = vector (u.x ⊖ v.x) (u.y ⊖ v.y) (u.z ⊖ v.z)

abbrev pub scale_vector : Vector → Float → Vector
scale_vector u k = vector (u.x ⊗ k) (u.y ⊗ k) (u.z ⊗ k)

abbrev pub divide_vector : Vector → Float → Vector
divide_vector u k = vector (u.x ⊘ k) (u.y ⊘ k) (u.z ⊘ k)

abbrev pub dot : Vector → Vector → Float
dot u v = u.x ⊗ v.x ⊕ u.y ⊗ v.y ⊕ u.z ⊗ v.z
