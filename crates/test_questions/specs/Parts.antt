-- Where reading stands in a line of a list: the figures before `=` are some of all, and these are no more than fit.
use Rattle.std.specs.Prelude.{ℕ, ◌≤◌, List, length}
use Rattle.test_questions.specs.declared.reading.Cursor.{Cursor}

abbrev pub line_figures : ℕ
line_figures = 256

pub record Reached (line : List ℕ) (c : Cursor) : Type 0 where
  pub within : c.at ≤ length line
  pub order : c.asked ≤ c.figures
  pub few : c.figures ≤ line_figures
