-- Where printing stands, and what one byte of a template changes.
use Rattle.std.specs.Prelude.{List, ◌≡◌, ℕ, ◌+◌, ◌≤◌, length, drop, Float}
use Rattle.texts.specs.Appended.{Appended}
use Rattle.answers.specs.Filled.{piece, figures_after, counts_after, room_for}
use Rattle.answers.specs.declared.Place.{Place}

-- no more figures or counts are used than there are, and the buffer has room for what byte b of a template gives
pub record HasRoom (out : List ℕ) (p : Place) (b : ℕ) (figures : List Float) (counts : List ℕ) : Type 0 where
  pub figures_left : p.figures ≤ length figures
  pub counts_left : p.counts ≤ length counts
  pub bytes : p.n + room_for b ≤ length out

-- what byte b of a template gives was appended at place p, and r is the place after it
pub record PutPiece (before after : List ℕ) (p r : Place) (b : ℕ) (figures : List Float)
    (counts : List ℕ) : Type 0 where
  pub put : Appended before p.n (piece b (drop p.figures figures) (drop p.counts counts)) after r.n
  pub next_figures : drop r.figures figures ≡ figures_after b (drop p.figures figures)
  pub next_counts : drop r.counts counts ≡ counts_after b (drop p.counts counts)
  pub figures_left : r.figures ≤ length figures
  pub counts_left : r.counts ≤ length counts
