-- An integrand of w components that is one of v components with zeros after ("an area run uses three of the seven, the
-- rest zero").
use Rattle.std.specs.Prelude.{◌≡◌, List, ℕ, ◌≤◌, ◌<◌, Float}
use Rattle.floats.specs.Operations.{bits, at}

-- in every sample the first v components of f are those of g, and the others, up to w, are +0
pub record ZerosBehind (v w : ℕ) (g f : Float → List Float) : Type 0 where
  pub no_wider : v ≤ w
  pub first : (h : Float) (k : ℕ) → k < v → at (f h) k ≡ at (g h) k
  pub others : (h : Float) (k : ℕ) → v ≤ k → k < w → at (f h) k ≡ bits 0
