-- Inertia tensors by six numbers, xx, yy, zz, xy, xz, yz, and operations by component (document 02, Paper 12; document
-- 01, "Stand-ins").
use Rattle.std.specs.Prelude.{ℕ, [], ◌∷◌, Float}
use Rattle.floats.specs.Operations.{◌⊕◌, ◌⊖◌, ◌⊗◌, bits, at, tabulate}
use Rattle.floats.specs.Constants.{half}
use Rattle.bodies.specs.declared.Matrix.{Matrix}
use Rattle.bodies.specs.declared.Tensor.{Tensor}
use Rattle.bodies.specs.declared.Vector.{Vector}
use Rattle.bodies.specs.Vectors.{vector, dot}
use Rattle.bodies.specs.Matrices.{entry, from_columns, turn_matrix}

-- "three diagonal and three mixed numbers"
abbrev pub symmetric : Float → Float → Float → Float → Float → Float → Tensor
symmetric xx yy zz xy xz yz = record { 0 = xx ∷ yy ∷ zz ∷ xy ∷ xz ∷ yz ∷ [] }

-- the tensor with the numbers f 0 to f 5
abbrev pub tensor : (ℕ → Float) → Tensor
tensor f = record { 0 = tabulate 6 f }

-- number i of a tensor
abbrev pub number_at : Tensor → ℕ → Float
number_at t i = at t.0 i

-- a tensor as a matrix: a mixed number stands on both sides of the diagonal
abbrev pub as_matrix : Tensor → Matrix
as_matrix t =
    from_columns
    (vector (number_at t 0) (number_at t 3) (number_at t 4))
    (vector (number_at t 3) (number_at t 1) (number_at t 5))
    (vector (number_at t 4) (number_at t 5) (number_at t 2))

abbrev pub zero_tensor : Tensor
zero_tensor = tensor (λ i. bits 0)

abbrev pub add_tensors : Tensor → Tensor → Tensor
add_tensors a b = tensor (λ i. number_at a i ⊕ number_at b i)

abbrev pub subtract_tensors : Tensor → Tensor → Tensor
subtract_tensors a b = tensor (λ i. number_at a i ⊖ number_at b i)

abbrev pub scale_tensor : Tensor → Float → Tensor
scale_tensor a k = tensor (λ i. number_at a i ⊗ k)

-- "half the sum of the opposite entries"
abbrev pub half_sum : Matrix → ℕ → ℕ → Float
half_sum a i j = half ⊗ (entry a i j ⊕ entry a j i)

abbrev pub averaged : Matrix → Tensor
averaged a = symmetric (entry a 0 0) (entry a 1 1) (entry a 2 2) (half_sum a 0 1) (half_sum a 0 2) (half_sum a 1 2)

-- "a turn stores half the sum of the opposite entries", of (R·I)·Rᵀ
unfoldable pub turn_tensor : Tensor → Matrix → Tensor
turn_tensor t rotation = averaged (turn_matrix (as_matrix t) rotation)

-- a tensor with no mixed numbers (glam's from_diagonal)
abbrev pub diagonal : Float → Float → Float → Tensor
diagonal xx yy zz = symmetric xx yy zz (bits 0) (bits 0) (bits 0)

-- the outer product d·dᵀ (mass.rs, `outer`)
abbrev pub outer : Vector → Tensor
outer d = symmetric (d.x ⊗ d.x) (d.y ⊗ d.y) (d.z ⊗ d.z) (d.x ⊗ d.y) (d.x ⊗ d.z) (d.y ⊗ d.z)

-- |d|² E − d dᵀ (mass.rs, `offset_tensor`)
abbrev pub offset_tensor_of : Vector → Tensor
offset_tensor_of d = subtract_tensors (diagonal (dot d d) (dot d d) (dot d d)) (outer d)
