-- `reading::drill_asked` meets its contract: each arm knows its case. Assumes nothing.
use mathlib.Core.Path.{sym, ◌∙◌}
use Rattle.reading.proofs.drill_asked.Goals as goal

pub returns-in-Some : goal.returns-in-Some
returns-in-Some c =
    rw (
      sym c.planform_in.ensures ∙ c.in-Some.is,
      c.figure-in-Some.ensures,
      c.figure.ensures,
      c.behind-point.ensures,
    )
