-- The counts of a set's figures, as they are written over the start of a lent list.
use Rattle.std.specs.Prelude.{List, ℕ}
use Rattle.refusals.specs.Lent.{with_counts}
use Rattle.figures.specs.declared.Figures.{Figures}

abbrev pub figure_counts : Figures → List ℕ → List ℕ
figure_counts f counts = with_counts counts f.verdict f.intervals f.samples
