-- A block's text filled in, byte by byte: a mark gives way to the next figure or count, and every other byte stands for
-- itself.
use Rattle.std.specs.Prelude.{List, [], ◌∷◌, ◌++◌, Bool, false, ◌||◌, cond, ℕ, ◌+◌, eqb, drop, Float}
use Rattle.counts.specs.Counts.{count_text}
use Rattle.significant.specs.Printed.{decimal_text}

-- what the first element of a list gives, or nothing where the list is empty
abbrev pub of_first : {A : Type 0} → (A → List ℕ) → List A → List ℕ
of_first f [] = []
of_first f (x ∷ xs) = f x

-- the marks of figures: G (71), a figure times a thousand, which makes kilograms grams and metres millimetres; F (70),
-- a figure as it is
abbrev pub is_figure_mark : ℕ → Bool
is_figure_mark b = eqb b 71 || eqb b 70

-- a figure as its mark asks, to six significant digits, with an exponent only where the number would be long
abbrev pub figure_as : ℕ → Float → List ℕ
figure_as b x = decimal_text 6 (cond (eqb b 71) 3 0) false x

-- what one byte of a text gives where its only marks are those of figures and counts; N (78) is the mark of a count
abbrev pub plain_piece : ℕ → List Float → List ℕ → List ℕ
plain_piece b figures counts =
    cond (is_figure_mark b) (of_first (figure_as b) figures) (cond (eqb b 78) (of_first count_text counts) (b ∷ []))

-- how a text's bytes are filled in: what a byte gives, and the counts that are left after it
pub record Marks : Type 0 where
  pub piece : ℕ → List Float → List ℕ → List ℕ
  pub counts_after : ℕ → List ℕ → List ℕ

-- for a text whose only marks are those of figures and counts
abbrev pub plain : Marks
plain = record { piece = plain_piece; counts_after = λ b counts. cond (eqb b 78) (drop 1 counts) counts }

-- the figures that are left after a byte
abbrev pub figures_after : ℕ → List Float → List Float
figures_after b figures = cond (is_figure_mark b) (drop 1 figures) figures

-- a whole text, filled in
unfoldable pub filled : Marks → List ℕ → List Float → List ℕ → List ℕ
filled m [] figures counts = []
filled m (b ∷ bs) figures counts =
    m.piece b figures counts ++ filled m bs (figures_after b figures) (m.counts_after b counts)

-- the most bytes that a text can give, by what each of its bytes can
unfoldable pub room : (ℕ → ℕ) → List ℕ → ℕ
room most [] = 0
room most (b ∷ bs) = most b + room most bs

-- the most bytes that a byte can give where the only marks are those of figures and counts
abbrev pub plain_most : ℕ → ℕ
plain_most b = cond (is_figure_mark b) 44 (cond (eqb b 78) 20 1)
