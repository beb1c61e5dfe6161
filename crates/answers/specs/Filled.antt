-- A template filled in: `F` gives way to the next figure, `N` to the next count, and every other byte stands for
-- itself.
use Rattle.std.specs.Prelude.{List, [], ◌∷◌, ◌++◌, cond, ℕ, ◌+◌, eqb, drop, Float}
use Rattle.hexadecimal.specs.Hex.{figure_text}
use Rattle.counts.specs.Counts.{count_text}

-- the text of the first figure, or nothing where none is left
abbrev pub first_figure : List Float → List ℕ
first_figure [] = []
first_figure (x ∷ xs) = figure_text x

-- the text of the first count, or nothing where none is left
abbrev pub first_count : List ℕ → List ℕ
first_count [] = []
first_count (n ∷ ns) = count_text n

-- what one byte of a template gives: 70 is `F`, 78 is `N`
abbrev pub piece : ℕ → List Float → List ℕ → List ℕ
piece b figures counts = cond (eqb b 70) (first_figure figures) (cond (eqb b 78) (first_count counts) (b ∷ []))

-- the figures that are left after a byte of a template
abbrev pub figures_after : ℕ → List Float → List Float
figures_after b figures = cond (eqb b 70) (drop 1 figures) figures

-- the counts that are left after a byte of a template
abbrev pub counts_after : ℕ → List ℕ → List ℕ
counts_after b counts = cond (eqb b 78) (drop 1 counts) counts

-- a whole template, filled in with these figures and counts
unfoldable pub filled : List ℕ → List Float → List ℕ → List ℕ
filled [] figures counts = []
filled (b ∷ bs) figures counts = piece b figures counts ++ filled bs (figures_after b figures) (counts_after b counts)

-- the most bytes that one byte of a template can give: a figure has sixteen digits, a count at most twenty
abbrev pub room_for : ℕ → ℕ
room_for b = cond (eqb b 70) 16 (cond (eqb b 78) 20 1)

-- the most bytes that a whole template can give
unfoldable pub room : List ℕ → ℕ
room [] = 0
room (b ∷ bs) = room_for b + room bs
