-- A body as numbers, for lists of bodies, lines and the library: mass, centre, then the tensor's six (document 01,
-- "Body"; document 02, Paper 12).
use Rattle.std.specs.Prelude.{List, ◌∷◌, ℕ, ◌+◌, Float}
use Rattle.floats.specs.Operations.{tabulate}
use Rattle.bodies.specs.declared.Body.{Body}
use Rattle.bodies.specs.Vectors.{vector}
use Rattle.bodies.specs.Tensors.{tensor, number_at}

-- how many numbers a tensor has
abbrev pub tensor_numbers : ℕ
tensor_numbers = 6

-- how many numbers a body has
abbrev pub body_numbers : ℕ
body_numbers = 10

-- the body with the numbers f 0 to f 9
abbrev pub body_of : (ℕ → Float) → Body
body_of f = record { mass_kg = f 0; centre_m = vector (f 1) (f 2) (f 3); inertia_kg_m2 = tensor (λ i. f (4 + i)) }

-- the numbers of a body
abbrev pub numbers_of : Body → List Float
numbers_of b =
    b.mass_kg ∷ b.centre_m.x ∷ b.centre_m.y ∷ b.centre_m.z ∷
    tabulate tensor_numbers (number_at b.inertia_kg_m2)
