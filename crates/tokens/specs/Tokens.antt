-- A line's tokens (docs/FORMS.md): "Words are separated by one or more spaces; spaces beside a bracket are free". A
-- token is its bytes: a bracket, or a word.
use Rattle.std.specs.Prelude.{List, [], ◌∷◌, ◌++◌, Bool, ◌||◌, cond, ℕ, eqb}

-- "up to 4,096 bytes" (document 01, "The card program")
abbrev pub line_bytes : ℕ
line_bytes = 4096

-- a byte that ends a word: a space, `(` or `)`
abbrev pub ends_word : ℕ → Bool
ends_word b = eqb b 32 || eqb b 40 || eqb b 41

-- the word that is done, unless it has no byte, before the tokens after it
abbrev pub done : List ℕ → List (List ℕ) → List (List ℕ)
done [] ts = ts
done (b ∷ bs) ts = (b ∷ bs) ∷ ts

-- what a byte that ends a word is itself: nothing, or a bracket
abbrev pub mark : ℕ → List (List ℕ) → List (List ℕ)
mark b ts = cond (eqb b 32) ts ((b ∷ []) ∷ ts)

-- the tokens of some bytes, read one by one, where w is the word that has begun
unfoldable pub tokens_after : List ℕ → List ℕ → List (List ℕ)
tokens_after w [] = done w []
tokens_after w (b ∷ bs) = cond (ends_word b) (done w (mark b (tokens_after [] bs))) (tokens_after (w ++ (b ∷ [])) bs)

abbrev pub tokens : List ℕ → List (List ℕ)
tokens line = tokens_after [] line
