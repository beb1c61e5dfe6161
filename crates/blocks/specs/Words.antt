-- An answer of the card program by its words: in its shape `F` stands for a figure and `N` for a count; figures and
-- counts are kept beside it.
use Rattle.std.specs.Prelude.{List, [], ◌∷◌, ◌++◌, cond, ℕ, eqb, length, Float, Option, Some, None}
use Rattle.hexadecimal.specs.Hex.{figure_of}
use Rattle.counts.specs.Counts.{count_of, capped_count}
use Rattle.tokens.specs.Tokens.{ends_word}

-- one of three things by what a word is: sixteen hexadecimal digits are a figure, decimal digits a count, at most a
-- million
abbrev pub by_kind : {A : Type 0} → Option Float → Option ℕ → (Float → A) → (ℕ → A) → A → A
by_kind (Some x) c figure count other = figure x
by_kind None (Some n) figure count other = count n
by_kind None None figure count other = other

abbrev pub of_word : {A : Type 0} → List ℕ → (Float → A) → (ℕ → A) → A → A
of_word w figure count other = by_kind (figure_of w) (capped_count (count_of w)) figure count other

-- a word that is neither figure nor count stands for itself; one of a single byte becomes `?` (63), so that none looks
-- like `F` (70) or `N` (78)
abbrev pub other_shape : List ℕ → List ℕ
other_shape w = cond (eqb (length w) 1) (63 ∷ []) w

-- what a word gives to the shape
abbrev pub word_shape : List ℕ → List ℕ
word_shape w = of_word w (λ x. 70 ∷ []) (λ n. 78 ∷ []) (other_shape w)

-- what a word gives to the figures
abbrev pub word_figures : List ℕ → List Float
word_figures w = of_word w (λ x. x ∷ []) (λ n. []) []

-- what a word gives to the counts
abbrev pub word_counts : List ℕ → List ℕ
word_counts w = of_word w (λ x. []) (λ n. n ∷ []) []

-- what a line gives word by word, where w is the word read so far: what a word gives, then what the byte that ends it
-- gives
unfoldable pub over_words : {A : Type 0} → (List ℕ → List A) → (ℕ → List A) → List ℕ → List ℕ → List A
over_words word between w [] = word w
over_words word between w (b ∷ bs) =
    cond (ends_word b) (word w ++ (between b ++ over_words word between [] bs))
    (over_words word between (w ++ (b ∷ [])) bs)

-- a line's shape, in which spaces and brackets stay as they are
abbrev pub shape_in : List ℕ → List ℕ
shape_in line = over_words word_shape (λ b. b ∷ []) [] line

abbrev pub figures_in : List ℕ → List Float
figures_in line = over_words word_figures (λ b. []) [] line

abbrev pub counts_in : List ℕ → List ℕ
counts_in line = over_words word_counts (λ b. []) [] line
