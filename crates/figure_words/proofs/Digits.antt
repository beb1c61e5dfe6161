-- The digits at a text's start, byte by byte. Assumes nothing.
use mathlib.Core.List.{List, [], ◌∷◌}
use mathlib.Core.Path.{◌≡◌, refl, sym, ap, ◌∙◌}
use Prim.Native.Nat.{ℕ, ◌+◌, ◌*◌, ◌<◌, ◌≤◌}
use native.Mathlib.Numerals.{add-one}
use borrow.Author.Tests.{lt-ltb, le-ltb}
use lib.ListN.{length, drop, get_or}
use lib.Seq.{drop-cons}
use Rattle.counts.specs.Counts.{digit_value}
use Rattle.figure_words.specs.FigureWords.{leading_digits, behind_digits, number_from}

pub at_place : (w : List ℕ) (i : ℕ) → i < length w → drop i w ≡ get_or w i 0 ∷ drop (i + 1) w
at_place w i h = drop-cons w i 0 h ∙ ap (λ (k : ℕ). get_or w i 0 ∷ drop k w) (sym (add-one i))

module _ (b : ℕ) (l : List ℕ) where
  pub digit_leads : digit_value b < 10 → leading_digits (b ∷ l) ≡ b ∷ leading_digits l
  unfolding leading_digits
  digit_leads h = rw (lt-ltb (digit_value b) 10 h)

  pub digit_passed : digit_value b < 10 → behind_digits (b ∷ l) ≡ behind_digits l
  unfolding behind_digits
  digit_passed h = rw (lt-ltb (digit_value b) 10 h)

  pub other_leads : 10 ≤ digit_value b → leading_digits (b ∷ l) ≡ []
  unfolding leading_digits
  other_leads h = rw (le-ltb (digit_value b) 10 h)

  pub other_stays : 10 ≤ digit_value b → behind_digits (b ∷ l) ≡ b ∷ l
  unfolding behind_digits
  other_stays h = rw (le-ltb (digit_value b) 10 h)

  pub number_on : (n : ℕ) → number_from n (b ∷ l) ≡ number_from (n * 10 + digit_value b) l
  unfolding number_from
  number_on n = refl

pub number_ends : (n : ℕ) → number_from n [] ≡ n
unfolding number_from
number_ends n = refl
