-- `figures::concluded_area` meets its contract: each arm knows its case. Assumes nothing.
use mathlib.Core.Path.{sym, ◌∙◌}
use Rattle.figures.specs.Areas.{concluded_area}
use Rattle.figures.proofs.concluded_area.Goals as goal

pub returns-in-Ok : goal.returns-in-Ok
unfolding concluded_area
returns-in-Ok c = rw (sym c.conclusion-verdict.ensures ∙ c.in-Ok.is)

pub returns-in-Err : goal.returns-in-Err
unfolding concluded_area
returns-in-Err c =
    rw (sym c.conclusion-verdict.ensures ∙ c.in-Err.is) c.refused_area.ensures
