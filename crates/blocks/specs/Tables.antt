-- Tables of texts: a key, its text, the next key, its text, and so on; in the code, one text with a bar (124) between
-- each two.
use Rattle.std.specs.Prelude.{List, [], ◌∷◌, ◌++◌, Bool, true, ◌&&◌, not, cond, ℕ, eqb}
use Rattle.templates.specs.Matching.{same_bytes}

-- the text after the first key that equals this one, or nothing where there is no such key
unfoldable pub text_for : List ℕ → List (List ℕ) → List ℕ
text_for key [] = []
text_for key (k ∷ []) = []
text_for key (k ∷ t ∷ table) = cond (same_bytes key k) t (text_for key table)

-- a table as one text, with a bar between each two
unfoldable pub with_bars : List (List ℕ) → List ℕ
with_bars [] = []
with_bars (t ∷ []) = t
with_bars (t ∷ s ∷ table) = t ++ (124 ∷ with_bars (s ∷ table))

-- a text has no bar of its own
abbrev pub no_bar : List ℕ → Bool
no_bar [] = true
no_bar (b ∷ bs) = not (eqb b 124) && no_bar bs

-- no text of a table has a bar of its own
abbrev pub no_bars : List (List ℕ) → Bool
no_bars [] = true
no_bars (t ∷ table) = no_bar t && no_bars table
