-- Lists of zeros hold an engine with no job, none served. Assumes nothing.
use mathlib.Core.Path.{◌≡◌, refl, ap, ◌∙◌}
use mathlib.Core.List.{List, ◌++◌}
use Prim.Native.Nat.{ℕ}
use lib.ListN.{drop, replicate}
use lib.Ieee.{Float}
use Rattle.lent_engines.specs.Memory.{engine_counts_length, screens_in, no_screens, engine_in}
use Rattle.lent_engines.specs.Lent.{Clears}
use Rattle.lent_engines.proofs.Engines.{screens_of}

none_in_zeros : screens_in (replicate engine_counts_length 0) ≡ no_screens
unfolding screens_in
none_in_zeros = refl

pub zeros_hold_none : (numbers : List Float) → (engine_in numbers (replicate engine_counts_length 0)).screens ≡ no_screens
zeros_hold_none numbers = screens_of numbers (replicate engine_counts_length 0) ∙ none_in_zeros

-- zeros over the start of the counts
none_in_cleared : (rest : List ℕ) → screens_in (replicate engine_counts_length 0 ++ rest) ≡ no_screens
unfolding screens_in
none_in_cleared rest = refl

pub cleared : (counts filled : List ℕ) → filled ≡ replicate engine_counts_length 0
    → Clears counts (filled ++ drop engine_counts_length counts)
cleared counts filled e =
    let are : filled ++ drop engine_counts_length counts ≡ replicate engine_counts_length 0 ++ drop engine_counts_length counts =
    ap (λ (l : List ℕ). l ++ drop engine_counts_length counts) e
    in
    record { counts_are = are; held = ap screens_in are ∙ none_in_cleared (drop engine_counts_length counts) }
