-- What a run of digits leaves to be read: contracts of the crate's own functions use these, FigureWords.antt does not.
use Rattle.std.specs.Prelude.{List, ◌⊎◌, ◌≡◌, ℕ, ◌+◌, ◌-◌, ◌^◌, ◌<◌, ◌≤◌, length, drop, get_or}
use Rattle.counts.specs.Counts.{digit_value}
use Rattle.figure_words.specs.FigureWords.{leading_digits, behind_digits, number_from}

-- the digits from place `at` up to e of the word w, after `before` others that make up n: all of them make up m, and
-- what is left to read from e on is what was left from `at` on
pub record Runs (w : List ℕ) (at n before m e : ℕ) : Type 0 where
  pub from : at ≤ e
  pub to : e ≤ length w
  pub count : before + (e - at) ≤ 19
  pub small : m < 10 ^ (before + (e - at))
  pub number : number_from n (leading_digits (drop at w)) ≡ number_from m (leading_digits (drop e w))
  pub digits : length (leading_digits (drop at w)) ≡ e - at + length (leading_digits (drop e w))
  pub behind : behind_digits (drop at w) ≡ behind_digits (drop e w)

-- a run of digits that goes as far as it can: the word ends there, there are 19 digits, or there is no digit
pub record RunTo (w : List ℕ) (at n before m e : ℕ) : Type 0 where
  pub runs : Runs w at n before m e
  pub stop : (e ≡ length w) ⊎ ((before + (e - at) ≡ 19) ⊎ (10 ≤ digit_value (get_or w e 0)))
