-- The tensors of joined bodies by document 01's nine numbers in columns (bodies/specs/Nine). Nothing is worked with
-- these: proofs/JoinedSix.antt shows that they are symmetric bit for bit, and that the join's six stand in them.
use Rattle.std.specs.Prelude.{ℕ}
use Rattle.bodies.specs.declared.Body.{Body}
use Rattle.bodies.specs.declared.Matrix.{Matrix}
use Rattle.bodies.specs.declared.Vector.{Vector}
use Rattle.bodies.specs.Vectors.{subtract_vectors}
use Rattle.bodies.specs.Tensors.{as_matrix}
use Rattle.bodies.specs.Nine.{zero_nine, add_nine, moved_nine}
use Rattle.joins.specs.Joins.{in_order}

abbrev pub moved_body : Body → Vector → Matrix
moved_body b centre = moved_nine (as_matrix b.inertia_kg_m2) b.mass_kg (subtract_vectors b.centre_m centre)

-- the tensors about one centre, summed
unfoldable pub inertia_nine : (ℕ → Body) → Vector → ℕ → Matrix
inertia_nine f centre n = in_order add_nine zero_nine (λ k. moved_body (f k) centre) n
