-- Bodies with the same numbers are the same, and a body's numbers are as many as a body has. Assumes nothing.
use mathlib.Core.Path.{◌≡◌, refl}
use Prim.Native.Nat.{ℕ, ◌<◌}
use native.Mathlib.Omega.{arith}
use lib.ListN.{length}
use lib.Ieee.{Float}
use Rattle.bodies.specs.declared.Body.{Body}
use Rattle.bodies.specs.Layout.{body_numbers, body_of, numbers_of}

pub same_body : (f g : ℕ → Float) → ((i : ℕ) → i < body_numbers → f i ≡ g i) → body_of f ≡ body_of g
same_body f g h =
    rw (
      h 0 (omega arith),
      h 1 (omega arith),
      h 2 (omega arith),
      h 3 (omega arith),
      h 4 (omega arith),
      h 5 (omega arith),
      h 6 (omega arith),
      h 7 (omega arith),
      h 8 (omega arith),
      h 9 (omega arith),
    )

pub numbers_length : (b : Body) → length (numbers_of b) ≡ body_numbers
numbers_length b = refl
