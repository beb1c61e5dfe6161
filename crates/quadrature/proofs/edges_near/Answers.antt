-- `quadrature::edges_near` meets its contract: all heights of an outline's piece are from the least to the largest, and
-- any other planform asks for no list. Assumes nothing.
use Prim.Native.Nat.{zero-le}
use Rattle.floats.specs.Operations.{◌⊗◌, at}
use Rattle.quadrature.proofs.edges_near.Goals as goal

pub returns-in-Outline : goal.returns-in-Outline
returns-in-Outline c =
    let a = c.args in
    let near = c.edges_near.ensures in
    record {
      room = near.room;
      holding = λ j l e. (let w = c.bounds_m-bounds.ensures j l in near.holding (at a.heights j ⊗ a.integrand.scale) w.0 w.1);
    }

pub returns : goal.returns
returns c =
    record { room = zero-le; holding = λ j l e. absurd (c.in_default.not-Outline e) }
