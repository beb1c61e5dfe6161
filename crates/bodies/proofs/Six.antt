-- Where nothing is turned, nine numbers stay symmetric bit for bit, so that six lose nothing: each operation on the
-- nine of a tensor gives the nine of what the operation on its six gives. Assumes nothing.
use mathlib.Core.Path.{◌≡◌, refl, ap}
use lib.Ieee.{Float}
use Rattle.floats.proofs.Commuted.{times_commuted}
use Rattle.bodies.specs.declared.Body.{Body}
use Rattle.bodies.specs.declared.Matrix.{Matrix}
use Rattle.bodies.specs.declared.Tensor.{Tensor}
use Rattle.bodies.specs.declared.Vector.{Vector}
use Rattle.bodies.specs.Vectors.{subtract_vectors}
use Rattle.bodies.specs.Matrices.{entry, from_columns, column}
use Rattle.bodies.specs.Tensors.{as_matrix, zero_tensor, add_tensors, subtract_tensors, scale_tensor, offset_tensor_of}
use Rattle.bodies.specs.Bodies.{inertia_about_of}
use Rattle.bodies.specs.Nine.{zero_nine, add_nine, subtract_nine, scale_nine, offset_nine, moved_nine, six_of}

-- a matrix whose opposite entries are the same is the one of its six numbers
pub six_of_symmetric : (a : Matrix) → entry a 1 0 ≡ entry a 0 1 → entry a 2 0 ≡ entry a 0 2 → entry a 2 1 ≡ entry a 1 2
    → from_columns (column a 0) (column a 1) (column a 2) ≡ as_matrix (six_of a)
six_of_symmetric a xy xz yz = rw (xy, xz, yz)

pub zero_six : zero_nine ≡ as_matrix zero_tensor
zero_six = refl

pub add_six : (s t : Tensor) → add_nine (as_matrix s) (as_matrix t) ≡ as_matrix (add_tensors s t)
add_six s t = refl

pub subtract_six : (s t : Tensor) → subtract_nine (as_matrix s) (as_matrix t) ≡ as_matrix (subtract_tensors s t)
subtract_six s t = refl

pub scale_six : (t : Tensor) (k : Float) → scale_nine (as_matrix t) k ≡ as_matrix (scale_tensor t k)
scale_six t k = refl

-- products of two components commute
pub offset_six : (d : Vector) → offset_nine d ≡ as_matrix (offset_tensor_of d)
offset_six d = rw (times_commuted d.y d.x, times_commuted d.z d.x, times_commuted d.z d.y)

-- a body's tensor about another point
pub moved_six : (b : Body) (point : Vector)
    → moved_nine (as_matrix b.inertia_kg_m2) b.mass_kg (subtract_vectors b.centre_m point) ≡ as_matrix (inertia_about_of b point)
unfolding moved_nine inertia_about_of
moved_six b point = ap (λ (a : Matrix). add_nine (as_matrix b.inertia_kg_m2) (scale_nine a b.mass_kg))
    (offset_six (subtract_vectors b.centre_m point))
