-- Bytes behind others: what begins, and which lines end; and no line ends without a newline. Assumes nothing.
use mathlib.Core.List.{List, [], ◌∷◌, ◌++◌}
use mathlib.Core.Bool.{Bool, true, false}
use mathlib.Core.Path.{◌≡◌, refl, ap}
use Prim.Native.Nat.{ℕ}
use lib.Dec.{eqb}
use Rattle.input_lines.specs.Lines.{lines_within, begun_after}

-- the line that has begun after some bytes and more
abbrev BegunTwice : List ℕ → List ℕ → List ℕ → Type 0
BegunTwice begun a b = begun_after begun (a ++ b) ≡ begun_after (begun_after begun a) b

pub begun_twice : (begun a b : List ℕ) → BegunTwice begun a b
unfolding begun_after
begun_twice begun [] b = refl
begun_twice begun (x ∷ a) b = by (eqb x 10) refl (begun_twice [] a b) (begun_twice (begun ++ (x ∷ [])) a b)
  where
    by : (t : Bool) → eqb x 10 ≡ t → BegunTwice [] a b → BegunTwice (begun ++ (x ∷ [])) a b → BegunTwice begun (x ∷ a) b
    by true e i j = rw e i
    by false e i j = rw e j

-- the lines that end within them
abbrev LinesTwice : List ℕ → List ℕ → List ℕ → Type 0
LinesTwice begun a b = lines_within begun (a ++ b) ≡ lines_within begun a ++ lines_within (begun_after begun a) b

pub lines_twice : (begun a b : List ℕ) → LinesTwice begun a b
unfolding lines_within begun_after
lines_twice begun [] b = refl
lines_twice begun (x ∷ a) b = by (eqb x 10) refl (lines_twice [] a b) (lines_twice (begun ++ (x ∷ [])) a b)
  where
    by : (t : Bool) → eqb x 10 ≡ t → LinesTwice [] a b → LinesTwice (begun ++ (x ∷ [])) a b → LinesTwice begun (x ∷ a) b
    by true e i j = rw e (ap (λ (l : List (List ℕ)). begun ∷ l) i)
    by false e i j = rw e j
