-- `templates::take_figures` meets its contract: what is left to take from where reading stands is the whole. Assumes nothing.
use mathlib.Core.List.{◌∷◌, []}
use Prim.Native.Nat.{◌-◌}
use Rattle.tokens.specs.Tokens.{line_bytes}
use Rattle.templates.specs.Matching.{take_one}
use Rattle.templates.proofs.Repeats.{Repeating}
use Rattle.templates.proofs.take_figures.Given as goal

abbrev pub invariant-loop-turn : goal.invariant-loop-turn
invariant-loop-turn l = Repeating l.line (take_one (70 ∷ [])) l.initial.values l.values l.initial.s l.s (line_bytes - l._turn)
