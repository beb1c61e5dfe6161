-- `lines::set_reply` meets its contract: the figures are those of the body that the call gives. Assumes nothing.
use mathlib.Core.List.{List, ◌∷◌, []}
use mathlib.Core.Path.{ap, ◌∙◌}
use lib.ListN.{length}
use lib.Ieee.{Float}
use Rattle.answers.specs.declared.Shape.TheVariants.{Figures as FiguresShape}
use Rattle.figures.specs.Figures.{set_call}
use Rattle.lines.specs.Lines.{unless_refused, set_reply}
use Rattle.lines.proofs.Served.{replied}
use Rattle.lines.proofs.set_reply.Goals as goal

pub returns : goal.returns
returns c =
    let s = c.args in
    let f = c.mass_properties-f.result in
    replied (λ (p : List Float). set_call s.set p s.limit (length s.scratch.now)) set_reply
    c.first-outline.ensures c.mass_properties-f.ensures.call
    (c.unless_refused.ensures
    ∙ ap (λ (l : List Float). unless_refused f.verdict
    (record { shape = FiguresShape; figures = l; counts = f.intervals ∷ f.samples ∷ 0 ∷ 0 ∷ [] }))
    c.numbers-figures.ensures)
