-- `placements::check_list` meets its contract, which goes by the same test. Assumes nothing.
use mathlib.Core.Path.{sym, ◌∙◌}
use borrow.Author.Tests.{not-true, not-false}
use Rattle.placements.proofs.check_list.Goals as goal

pub returns-then-not-is_whole_list : goal.returns-then-not-is_whole_list
returns-then-not-is_whole_list c = rw (sym c.is_whole_list.ensures ∙ not-true _ c.if-not-is_whole_list.true-raw)

pub returns : goal.returns
returns c = rw (
  sym c.is_whole_list.ensures
      ∙ not-false _ c.if-not-is_whole_list.false-raw,
  ← c.count_places.ensures,
) c.check_count.ensures
