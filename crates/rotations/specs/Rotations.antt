-- Turns about x and z as glam's quaternions and their matrices (document 01, "Stand-ins").
use Rattle.std.specs.Prelude.{Float}
use Rattle.floats.specs.Operations.{◌⊕◌, ◌⊖◌, ◌⊗◌, ◌⊘◌, bits}
use Rattle.floats.specs.Constants.{one, two}
use Rattle.trig.specs.Trig.{sin_of, cos_of}
use Rattle.bodies.specs.declared.Body.{Body}
use Rattle.bodies.specs.declared.Matrix.{Matrix}
use Rattle.bodies.specs.Vectors.{vector}
use Rattle.bodies.specs.Matrices.{from_columns}
use Rattle.bodies.specs.Bodies.{rotated_of}
use Rattle.rotations.specs.declared.Quaternion.{Quaternion}

-- "A turn about z by angle g is the quaternion (0, 0, sin g/2, cos g/2), about x (sin g/2, 0, 0, cos g/2)"
abbrev pub about_x : Float → Quaternion
about_x g = record { x = sin_of (g ⊘ two); y = bits 0; z = bits 0; w = cos_of (g ⊘ two) }

abbrev pub about_z : Float → Quaternion
about_z g = record { x = bits 0; y = bits 0; z = sin_of (g ⊘ two); w = cos_of (g ⊘ two) }

-- "xy2 is x·(y+y)"
abbrev pub double : Float → Float → Float
double p q = p ⊗ (q ⊕ q)

-- "columns (1−(yy2+zz2), xy2+wz2, xz2−wy2), (xy2−wz2, 1−(xx2+zz2), yz2+wx2), (xz2+wy2, yz2−wx2, 1−(xx2+yy2))"
abbrev pub matrix_of : Quaternion → Matrix
matrix_of q =
    from_columns
    (vector (one ⊖ (double q.y q.y ⊕ double q.z q.z)) (double q.x q.y ⊕ double q.w q.z)
    (double q.x q.z ⊖ double q.w q.y))
    (vector (double q.x q.y ⊖ double q.w q.z) (one ⊖ (double q.x q.x ⊕ double q.z q.z))
    (double q.y q.z ⊕ double q.w q.x))
    (vector (double q.x q.z ⊕ double q.w q.y) (double q.y q.z ⊖ double q.w q.x)
    (one ⊖ (double q.x q.x ⊕ double q.y q.y)))

-- the body turned by a quaternion
abbrev pub turned_of : Body → Quaternion → Body
turned_of b turn = rotated_of b (matrix_of turn)

abbrev pub rotated_xof : Body → Float → Body
rotated_xof b angle = turned_of b (about_x angle)

abbrev pub rolled_of : Body → Float → Body
rolled_of b angle = turned_of b (about_z angle)
