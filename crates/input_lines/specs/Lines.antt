-- The lines of an input (document 01, "The card program"; docs/FORMS.md): "A line ends at a newline or at the end of
-- the input".
use Rattle.std.specs.Prelude.{List, [], ◌∷◌, ◌++◌, cond, ℕ, eqb}

-- the lines that end at a newline within some bytes, after the bytes of a line that has begun
unfoldable pub lines_within : List ℕ → List ℕ → List (List ℕ)
lines_within begun [] = []
lines_within begun (b ∷ bs) = cond (eqb b 10) (begun ∷ lines_within [] bs) (lines_within (begun ++ (b ∷ [])) bs)

-- the line that has begun after these bytes
unfoldable pub begun_after : List ℕ → List ℕ → List ℕ
begun_after begun [] = begun
begun_after begun (b ∷ bs) = cond (eqb b 10) (begun_after [] bs) (begun_after (begun ++ (b ∷ [])) bs)

-- the line that ends at the end of the input: "an input that ends in a newline has no empty last line, and an input of
-- no bytes has no line"
abbrev pub last_line : List ℕ → List (List ℕ)
last_line [] = []
last_line (b ∷ bs) = (b ∷ bs) ∷ []

abbrev pub lines_of : List ℕ → List (List ℕ)
lines_of input = lines_within [] input ++ last_line (begun_after [] input)
