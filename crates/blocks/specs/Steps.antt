-- What the inner functions do: no definition of Cards.antt uses these.
use Rattle.std.specs.Prelude.{List, [], ◌∷◌, ◌++◌, true, cond, ◌≡◌, ℕ, ◌+◌, ◌<◌, ◌≤◌, ltb, length, take, drop, get_or}
use Rattle.std.specs.Prelude.{Float, Option, Some, None}
use Rattle.texts.specs.Appended.{Appended}
use Rattle.tokens.specs.Tokens.{ends_word}
use Rattle.tokens.specs.Found.{part}
use Rattle.templates.specs.Matching.{cut_at_bars}
use Rattle.blocks.specs.declared.filling.Place.{Place}
use Rattle.blocks.specs.declared.lookup.Part.{Part}
use Rattle.blocks.specs.declared.words.Read.{Read}
use Rattle.blocks.specs.Tables.{text_for}
use Rattle.blocks.specs.Filled.{Marks, figures_after}
use Rattle.counts.specs.Counts.{count_of, capped_count}
use Rattle.blocks.specs.Words.{by_kind, other_shape, word_shape, word_figures, word_counts, over_words, shape_in}
use Rattle.blocks.specs.Words.{figures_in, counts_in}

-- the first n elements of a list are kept, those added stand after them, and there are r then
pub record Grown {A : Type 0} (before : List A) (n : ℕ) (added after : List A) (r : ℕ) : Type 0 where
  pub ends : r ≡ n + length added
  pub holds : take r after ≡ take n before ++ added

-- r is the first place from `at` on whose byte ends a word, or the end of the line: what the line gives from `at` on,
-- it gives from r on with the word up to r already read
pub record IsEnd (line : List ℕ) (at r : ℕ) : Type 0 where
  pub behind : at ≤ r
  pub within : r ≤ length line
  pub shape :
      over_words word_shape (λ b. b ∷ []) [] (drop at line)
      ≡ over_words word_shape (λ b. b ∷ []) (part line at r) (drop r line)
  pub figures :
      over_words word_figures (λ b. []) [] (drop at line)
      ≡ over_words word_figures (λ b. []) (part line at r) (drop r line)
  pub counts :
      over_words word_counts (λ b. []) [] (drop at line)
      ≡ over_words word_counts (λ b. []) (part line at r) (drop r line)
  pub stops : r < length line → ends_word (get_or line r 0) ≡ true

-- the byte at a place of the line, or nothing past its end
abbrev pub end_bytes : List ℕ → ℕ → List ℕ
end_bytes line to = cond (ltb to (length line)) (get_or line to 0 ∷ []) []

-- a figure is added: `F` (70) to the shape, x to the figures
pub record PutsFigure (x : Float) (p r : Read) (shape shape' : List ℕ) (figures figures' : List Float) : Type 0 where
  pub of_shape : Appended shape p.bytes (70 ∷ []) shape' r.bytes
  pub of_figures : Grown figures p.figures (x ∷ []) figures' r.figures
  pub same_counts : r.counts ≡ p.counts

-- a count is added: `N` (78) to the shape, n to the counts
pub record PutsCount (n : ℕ) (p r : Read) (shape shape' counts counts' : List ℕ) : Type 0 where
  pub of_shape : Appended shape p.bytes (78 ∷ []) shape' r.bytes
  pub of_counts : Grown counts p.counts (n ∷ []) counts' r.counts
  pub same_figures : r.figures ≡ p.figures

-- bytes are added to the shape as they are, and no figure or count
pub record PutsPlain (bytes : List ℕ) (p r : Read) (shape shape' : List ℕ) : Type 0 where
  pub of_shape : Appended shape p.bytes bytes shape' r.bytes
  pub same_figures : r.figures ≡ p.figures
  pub same_counts : r.counts ≡ p.counts

-- a word that is no figure is added
pub record PutsOther (w : List ℕ) (p r : Read) (shape shape' counts counts' : List ℕ) : Type 0 where
  pub of_shape :
      Appended shape p.bytes
      (by_kind None (capped_count (count_of w)) (λ x. 70 ∷ []) (λ n. 78 ∷ []) (other_shape w)) shape' r.bytes
  pub of_counts :
      Grown counts p.counts (by_kind None (capped_count (count_of w)) (λ x. []) (λ n. n ∷ []) []) counts'
      r.counts
  pub same_figures : r.figures ≡ p.figures

-- a word is added, whatever it is
pub record PutsWord (w : List ℕ) (p r : Read) (shape shape' : List ℕ) (figures figures' : List Float)
    (counts counts' : List ℕ) : Type 0 where
  pub of_shape : Appended shape p.bytes (word_shape w) shape' r.bytes
  pub of_figures : Grown figures p.figures (word_figures w) figures' r.figures
  pub of_counts : Grown counts p.counts (word_counts w) counts' r.counts

-- a whole line is read into its shape, figures and counts
pub record IsRead (line : List ℕ) (r : Read) (shape : List ℕ) (figures : List Float) (counts : List ℕ) : Type 0 where
  pub of_shape : take r.bytes shape ≡ shape_in line
  pub of_figures : take r.figures figures ≡ figures_in line
  pub of_counts : take r.counts counts ≡ counts_in line
  pub bytes_fit : r.bytes ≤ length line
  pub figures_fit : r.figures ≤ length line
  pub counts_fit : r.counts ≤ length line

-- r is where a table's text for a key stands
pub record StandsAt (table key : List ℕ) (r : Part) : Type 0 where
  pub is : part table r.from r.to ≡ text_for key (cut_at_bars table)
  pub ordered : r.from ≤ r.to
  pub within : r.to ≤ length table

-- r is where a table's text for a key stands, and none where it has no such key
abbrev pub IsTextFor : List ℕ → List ℕ → Option Part → Type 0
IsTextFor table key None = [] ≡ text_for key (cut_at_bars table)
IsTextFor table key (Some r) = StandsAt table key r

-- no more figures or counts are used than there are, and the buffer has room for what byte b of a text gives
pub record HasRoom (most : ℕ → ℕ) (out : List ℕ) (p : Place) (b : ℕ) (figures : List Float)
    (counts : List ℕ) : Type 0 where
  pub figures_left : p.figures ≤ length figures
  pub counts_left : p.counts ≤ length counts
  pub bytes : p.n + most b ≤ length out

-- what byte b of a text gives was appended at place p, and r is the place after it
pub record PutsPiece (m : Marks) (before after : List ℕ) (p r : Place) (b : ℕ) (figures : List Float)
    (counts : List ℕ) : Type 0 where
  pub put : Appended before p.n (m.piece b (drop p.figures figures) (drop p.counts counts)) after r.n
  pub next_figures : drop r.figures figures ≡ figures_after b (drop p.figures figures)
  pub next_counts : drop r.counts counts ≡ m.counts_after b (drop p.counts counts)
  pub figures_left : r.figures ≤ length figures
  pub counts_left : r.counts ≤ length counts
