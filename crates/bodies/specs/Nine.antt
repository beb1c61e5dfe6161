-- The tensor of document 01, nine numbers in columns, as joins and moves had it before document 02, Paper 12. Nothing
-- is worked with these: proofs/Six.antt shows that they are symmetric bit for bit, and which six numbers stand in them.
use Rattle.std.specs.Prelude.{ℕ, Float}
use Rattle.floats.specs.Operations.{◌⊕◌, ◌⊖◌, ◌⊗◌, bits, tabulate}
use Rattle.bodies.specs.declared.Matrix.{Matrix}
use Rattle.bodies.specs.declared.Tensor.{Tensor}
use Rattle.bodies.specs.declared.Vector.{Vector}
use Rattle.bodies.specs.Vectors.{vector, scale_vector, dot}
use Rattle.bodies.specs.Matrices.{place_at, entry, from_columns}
use Rattle.bodies.specs.Tensors.{symmetric}

-- "tensor operations by component"
abbrev pub nine : (ℕ → Float) → Matrix
nine f = record { 0 = tabulate 9 f }

abbrev pub zero_nine : Matrix
zero_nine = nine (λ k. bits 0)

abbrev pub add_nine : Matrix → Matrix → Matrix
add_nine a b = nine (λ k. place_at a k ⊕ place_at b k)

abbrev pub subtract_nine : Matrix → Matrix → Matrix
subtract_nine a b = nine (λ k. place_at a k ⊖ place_at b k)

abbrev pub scale_nine : Matrix → Float → Matrix
scale_nine a factor = nine (λ k. place_at a k ⊗ factor)

-- a matrix with d on its diagonal and zeros elsewhere (glam's from_diagonal)
abbrev pub diagonal_nine : Float → Matrix
diagonal_nine d = from_columns (vector d (bits 0) (bits 0)) (vector (bits 0) d (bits 0)) (vector (bits 0) (bits 0) d)

-- the outer product of two vectors, by columns
abbrev pub outer_nine : Vector → Vector → Matrix
outer_nine u v = from_columns (scale_vector u v.x) (scale_vector u v.y) (scale_vector u v.z)

-- |d|² E − d dᵀ
abbrev pub offset_nine : Vector → Matrix
offset_nine d = subtract_nine (diagonal_nine (dot d d)) (outer_nine d d)

-- a body's tensor moved by an offset d: I + m (|d|² E − d dᵀ)
unfoldable pub moved_nine : Matrix → Float → Vector → Matrix
moved_nine a mass d = add_nine a (scale_nine (offset_nine d) mass)

-- the six numbers on a matrix's diagonal and above it
abbrev pub six_of : Matrix → Tensor
six_of a = symmetric (entry a 0 0) (entry a 1 1) (entry a 2 2) (entry a 0 1) (entry a 0 2) (entry a 1 2)
