-- A place of a line that a definition gives.
use Rattle.std.specs.Prelude.{List, ◌≡◌, ℕ, ◌≤◌, length}
use Rattle.tokens.specs.declared.TokenRange.{TokenRange}

-- r is the place that the definition gives, and lies within the line
pub record IsPlace (line : List ℕ) (definition r : TokenRange) : Type 0 where
  pub is : r ≡ definition
  pub ordered : r.from ≤ r.to
  pub within : r.to ≤ length line
