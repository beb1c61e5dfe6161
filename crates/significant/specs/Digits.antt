-- Digits in a list, the least significant first: what private functions do. The definitions of Significant.antt do not
-- use these.
use Rattle.std.specs.Prelude.{List, [], ◌∷◌, Bool, cond, ◌⊎◌, ◌≡◌, ℕ, ◌+◌, ◌-◌, ◌*◌, ◌/◌, ◌%◌, ◌^◌, ◌≤◌, ◌<◌, ltb, length, drop, get_or}
use Rattle.significant.specs.Significant.{digits_of, place_of}

-- the number that digits write
unfoldable pub value : List ℕ → ℕ
value [] = 0
value (d ∷ ds) = d + 10 * value ds

-- each number of a list is a digit
unfoldable pub Digits : List ℕ → Type 0
Digits [] = Unit
Digits (d ∷ ds) = (d < 10) × Digits ds

-- the digits of their number times `by`, with c added, over as many digits as there are
unfoldable pub times_plus : ℕ → ℕ → List ℕ → List ℕ
times_plus by c [] = []
times_plus by c (d ∷ ds) = (d * by + c) % 10 ∷ times_plus by ((d * by + c) / 10) ds

-- there are r digits up to the last that is not 0
pub record Top (l : List ℕ) (r : ℕ) : Type 0 where
  pub within : r ≤ length l
  pub above : value (drop r l) ≡ 0
  pub digit : 0 < r → 0 < get_or l (r - 1) 0

-- the digits `after` write the number of those before times s
pub record Scales (before after : List ℕ) (s : ℕ) : Type 0 where
  pub same : length after ≡ length before
  pub digits : Digits after
  pub is : value after ≡ value before * s

-- d, with the next digit after it and whether there is more after that, rounded to the nearest whole number, a tie to
-- the even one
abbrev pub nearest_digit : ℕ → ℕ → Bool → ℕ
nearest_digit d next more = cond (ltb next 5) d (cond (ltb 5 next) (d + 1) (cond more (d + 1) (d + d % 2)))

-- v is 0, or has at least 17 digits, and v * 10 ^ shift at least 33
abbrev pub Enough : ℕ → ℕ → Type 0
Enough v shift = (v ≡ 0) ⊎ ((10 ^ 16 ≤ v) × (10 ^ 32 ≤ v * 10 ^ shift))

-- d and p are the n digits and their place of u units, where u * 10 ^ 16 is v * 10 ^ shift
pub record RoundsTo (n v shift d p : ℕ) : Type 0 where
  pub digits : (u : ℕ) → u * 10 ^ 16 ≡ v * 10 ^ shift → d ≡ digits_of n u
  pub place : (u : ℕ) → u * 10 ^ 16 ≡ v * 10 ^ shift → p ≡ place_of n u
