-- `lines::done_reply` meets its contract: each arm knows its case. Assumes nothing.
use mathlib.Core.List.{List, ◌∷◌, []}
use mathlib.Core.Path.{ap}
use Prim.Native.Nat.{ℕ}
use lib.Ieee.{Float}
use Rattle.answers.specs.declared.Shape.TheVariants.{Done as DoneShape, DoneRefused as DoneRefusedShape}
use Rattle.answers.specs.Answers.{reply}
use Rattle.lines.proofs.done_reply.Goals as goal

pub returns-in-Ok : goal.returns-in-Ok
returns-in-Ok c =
    let s = c.args in
    rw c.in-Ok.is
    (ap (λ (l : List Float). record { shape = DoneShape; figures = l; counts = s.screen ∷ s.f.intervals ∷ s.f.samples ∷ 0 ∷ [] })
    c.numbers-figures.ensures)

pub returns-in-Err : goal.returns-in-Err
returns-in-Err c =
    let s = c.args in
    rw c.in-Err.is
    (ap (λ (number : ℕ). reply DoneRefusedShape [] (s.screen ∷ number ∷ [])) c.number-number.ensures)
