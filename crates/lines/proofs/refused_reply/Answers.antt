-- `lines::refused_reply` meets its contract: number and values are the refusal's. Assumes nothing.
use mathlib.Core.List.{List, ◌∷◌, []}
use mathlib.Core.Path.{ap₂}
use Prim.Native.Nat.{ℕ}
use lib.ListN.{get_or}
use Rattle.answers.specs.declared.Shape.TheVariants.{Refused as RefusedShape}
use Rattle.answers.specs.Answers.{reply}
use Rattle.lines.proofs.refused_reply.Goals as goal

pub returns : goal.returns
returns c =
    ap₂ (λ (number : ℕ) (values : List ℕ). reply RefusedShape [] (number ∷ get_or values 0 0 ∷ get_or values 1 0 ∷ []))
    c.number-number.ensures c.values-values.ensures
