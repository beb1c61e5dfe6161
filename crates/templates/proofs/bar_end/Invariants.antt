-- `templates::bar_end` meets its contract: the part passed is the alternative so far. Assumes nothing.
use mathlib.Core.Path.{◌≡◌}
use lib.ListN.{drop}
use Rattle.tokens.specs.Found.{part}
use Rattle.templates.specs.Matching.{cut_after, cut_at_bars}
use Rattle.templates.proofs.bar_end.Given as goal

abbrev pub invariant-loop-end : goal.invariant-loop-end
invariant-loop-end l = (cut_at_bars (drop l.i l.alternatives) ≡ cut_after (part l.alternatives l.i l.end) (drop l.end l.alternatives))
