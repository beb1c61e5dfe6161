-- Matrices by their columns, as glam has them (document 01, "Stand-ins"): nine numbers, row i of column j is number 3·j
-- + i.
use Rattle.std.specs.Prelude.{[], ◌∷◌, ℕ, ◌+◌, ◌*◌, Float}
use Rattle.floats.specs.Operations.{at}
use Rattle.bodies.specs.declared.Matrix.{Matrix}
use Rattle.bodies.specs.declared.Vector.{Vector}
use Rattle.bodies.specs.Vectors.{vector, add_vectors, scale_vector}

-- number k of a matrix
abbrev pub place_at : Matrix → ℕ → Float
place_at a k = at a.0 k

-- the entry in row i of column j
abbrev pub entry : Matrix → ℕ → ℕ → Float
entry a i j = place_at a (3 * j + i)

abbrev pub from_columns : Vector → Vector → Vector → Matrix
from_columns u v w = record { 0 = u.x ∷ u.y ∷ u.z ∷ v.x ∷ v.y ∷ v.z ∷ w.x ∷ w.y ∷ w.z ∷ [] }

abbrev pub column : Matrix → ℕ → Vector
column a j = vector (entry a 0 j) (entry a 1 j) (entry a 2 j)

abbrev pub row : Matrix → ℕ → Vector
row a i = vector (entry a i 0) (entry a i 1) (entry a i 2)

abbrev pub transpose_of : Matrix → Matrix
transpose_of a = from_columns (row a 0) (row a 1) (row a 2)

-- "matrix times vector is column 1·x, plus column 2·y, plus column 3·z"
abbrev pub times_vector : Matrix → Vector → Vector
times_vector a v =
    add_vectors (add_vectors (scale_vector (column a 0) v.x) (scale_vector (column a 1) v.y))
    (scale_vector (column a 2) v.z)

-- "matrix product by columns"
abbrev pub times_matrix : Matrix → Matrix → Matrix
times_matrix a b =
    from_columns (times_vector a (column b 0)) (times_vector a (column b 1)) (times_vector a (column b 2))

-- a matrix turned by a rotation: (R·A)·Rᵀ
abbrev pub turn_matrix : Matrix → Matrix → Matrix
turn_matrix a rotation = times_matrix (times_matrix rotation a) (transpose_of rotation)
