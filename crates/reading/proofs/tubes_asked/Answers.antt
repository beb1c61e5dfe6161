-- `reading::tubes_asked` meets its contract: each arm knows its case. Assumes nothing.
use mathlib.Core.Path.{sym, ap, ◌∙◌}
use Rattle.materials.specs.Numbered.{numbered_density}
use Rattle.reading.proofs.tubes_asked.Goals as goal

pub returns-in-Some : goal.returns-in-Some
returns-in-Some c =
    rw (
      sym (c.numbered_density.ensures ∙ ap (numbered_density _) c.figure.ensures) ∙ c.in-Some.is,
      c.figure-in-Some-5.ensures,
      c.figure-in-Some-4.ensures,
      c.figure-in-Some-3.ensures,
      c.figure-in-Some-2.ensures,
      c.figure-in-Some.ensures,
    )
