-- A line's tokens with their places (docs/FORMS.md): brackets and words.
use Rattle.std.specs.Prelude.{List, [], ◌∷◌, Bool, not, cond, ℕ, suc, ◌+◌, eqb, drop}
use Rattle.tokens.specs.Tokens.{ends_word}
use Rattle.tokens.specs.declared.TokenRange.{TokenRange}

-- how many bytes a text begins with that pass a test
unfoldable pub run : (ℕ → Bool) → List ℕ → ℕ
run test [] = 0
run test (b ∷ bs) = cond (test b) (suc (run test bs)) 0

abbrev pub is_space : ℕ → Bool
is_space b = eqb b 32

abbrev pub in_word : ℕ → Bool
in_word b = not (ends_word b)

-- how many bytes the token has that a text without spaces in front begins with: a bracket has one, and where no byte is
-- left there is no token
abbrev pub token_bytes : List ℕ → ℕ
token_bytes [] = 0
token_bytes (b ∷ bs) = cond (ends_word b) 1 (run in_word (b ∷ bs))

-- the first place from `at` on that holds no space
abbrev pub token_from : List ℕ → ℕ → ℕ
token_from line at = at + run is_space (drop at line)

-- the first token from a place on
abbrev pub token_at : List ℕ → ℕ → TokenRange
token_at line at =
    record { from = token_from line at; to = token_from line at + token_bytes (drop (token_from line at) line) }
