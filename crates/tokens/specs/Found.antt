-- What finding a token means: the tokens of the rest of a line begin with it, and go on after it.
use Rattle.std.specs.Prelude.{List, [], ◌∷◌, true, false, ◌≡◌, ℕ, ◌+◌, ◌-◌, ◌<◌, ◌≤◌, length, take, drop, get_or}
use Rattle.tokens.specs.Tokens.{ends_word, tokens}
use Rattle.tokens.specs.Places.{run, in_word, token_from, token_at}
use Rattle.tokens.specs.declared.TokenRange.{TokenRange}

-- the bytes of a line from one place up to another
abbrev pub part : List ℕ → ℕ → ℕ → List ℕ
part line from to = take (to - from) (drop from line)

-- the first token from a place on stands from `from` up to `to`; where these are equal, no token is left
pub record IsFound (line : List ℕ) (at : ℕ) (r : TokenRange) : Type 0 where
  pub first : r.from < r.to → tokens (drop at line) ≡ part line r.from r.to ∷ tokens (drop r.to line)
  pub none : r.to ≤ r.from → tokens (drop at line) ≡ []
  pub behind : at ≤ r.from
  pub ordered : r.from ≤ r.to
  pub within : at ≤ length line → r.to ≤ length line
  pub place : r ≡ token_at line at

-- r is the end of the word that begins at a place, or that place itself where none begins there
pub record IsWordEnd (line : List ℕ) (at r : ℕ) : Type 0 where
  pub behind : at ≤ r
  pub within : r ≤ length line
  pub ends :
      at < length line → ends_word (get_or line at 0) ≡ false
      → (at < r) × (tokens (drop at line) ≡ part line at r ∷ tokens (drop r line))
  pub place : r ≡ at + run in_word (drop at line)
  pub stops : r < length line → ends_word (get_or line r 0) ≡ true

-- r is the first place with no space, from a place on
pub record IsPastSpaces (line : List ℕ) (at r : ℕ) : Type 0 where
  pub behind : at ≤ r
  pub within : r ≤ length line
  pub same : tokens (drop at line) ≡ tokens (drop r line)
  pub stops : r < length line → get_or line r 0 ≡ 32 → ⊥
  pub place : r ≡ token_from line at
