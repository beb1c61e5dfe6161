-- A verdict's values and counts, written over the start of a lent list.
use Rattle.std.specs.Prelude.{Bool, ◌&&◌, List, [], ◌∷◌, ◌++◌, ℕ, leb, length, drop}
use Rattle.refusals.specs.Verdict.{Verdict}
use Rattle.refusals.specs.Numbered.{first_in, second_in}

-- a list with others written over its first elements
abbrev pub over : {A : Type 0} → List A → List A → List A
over written list = written ++ drop (length written) list

unfoldable pub with_values : List ℕ → Verdict → List ℕ
with_values list verdict = over (first_in verdict ∷ second_in verdict ∷ []) list

unfoldable pub with_count : List ℕ → Verdict → ℕ → List ℕ
with_count list verdict count = over (first_in verdict ∷ second_in verdict ∷ count ∷ []) list

unfoldable pub with_counts : List ℕ → Verdict → ℕ → ℕ → List ℕ
with_counts list verdict intervals samples = over (first_in verdict ∷ second_in verdict ∷ intervals ∷ samples ∷ []) list

-- whether there is room for m figures, or bytes, and n counts
abbrev pub room : {A : Type 0} → ℕ → List A → ℕ → List ℕ → Bool
room m figures n counts = leb m (length figures) && leb n (length counts)
