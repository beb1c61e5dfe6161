-- What `row_of` gives: the table's row of the case that a refusal is. The case stands in a field of its own, so that
-- each arm of the code is proved by what it knows, with no proof file, and a new refusal is a variant and a row.
use Rattle.std.specs.Prelude.{◌≡◌, List, ℕ}
use Rattle.refusals.specs.declared.Refusal.{Refusal}
use Rattle.refusals.specs.Refusals.{number_of, values_of, in_two_places}

pub record IsRow (refusal : Refusal) (number : ℕ) (values : List ℕ) : Type 0 where
  pub case : Refusal
  pub is : refusal ≡ case
  pub numbered : number ≡ number_of case
  pub carries : values ≡ in_two_places (values_of case)
