-- The tensors of bodies about one centre, summed by nine numbers as document 01 has them, are symmetric bit for bit,
-- and the six of the join stand in them. Assumes nothing.
use mathlib.Core.Path.{◌≡◌}
use Prim.Native.Nat.{ℕ, zero, suc}
use Rattle.bodies.specs.declared.Body.{Body}
use Rattle.bodies.specs.declared.Vector.{Vector}
use Rattle.bodies.specs.Tensors.{as_matrix}
use Rattle.bodies.specs.Bodies.{inertia_about_of}
use Rattle.bodies.proofs.Six.{zero_six, add_six, moved_six}
use Rattle.joins.specs.Joins.{in_order, inertia_of}
use Rattle.joins.specs.Nine.{inertia_nine}

pub joined_six : (f : ℕ → Body) (centre : Vector) (n : ℕ) → inertia_nine f centre n ≡ as_matrix (inertia_of f centre n)
unfolding in_order inertia_of inertia_nine
joined_six f centre zero = zero_six
joined_six f centre (suc n) = rw (joined_six f centre n, moved_six (f n) centre)
    (add_six (inertia_of f centre n) (inertia_about_of (f n) centre))
