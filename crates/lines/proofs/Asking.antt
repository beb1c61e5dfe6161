-- A line that was read: its figures are all there, and what was read does what the line does. Assumes nothing.
use mathlib.Core.List.{List}
use mathlib.Core.Path.{◌≡◌, sym, ap, ap₂, subst, ◌∙◌}
use Prim.Native.Nat.{ℕ}
use lib.ListN.{length, take}
use lib.Ieee.{Float}
use Rattle.reading.specs.declared.Asked.{Asked}
use Rattle.reading.specs.declared.Line.{Line}
use Rattle.reading.specs.Lines.{line_read}
use Rattle.reading.specs.Reads.{Reads}
use Rattle.lines.specs.Lines.{Memory, LentMemory, Effect, LeavesLent, effect_of, line_effect}

-- what one effect leaves an equal one leaves
pub same_left : {a b : Effect} {lent after : LentMemory} → a ≡ b → LeavesLent a lent after → LeavesLent b lent after
same_left {lent = lent} {after} e h = subst (λ (x : Effect). LeavesLent x lent after) e h

module _ (line : List ℕ) (values : List Float) (q : Line) (r : Reads values q (line_read line)) where
  pub all_there : length (take q.figures values) ≡ q.figures
  all_there = ap length r.figures ∙ sym r.count

  pub effect_is : (m : Memory) → effect_of q.asked (take q.figures values) m ≡ line_effect line m
  unfolding line_effect
  effect_is m = ap₂ (λ (a : Asked) (l : List Float). effect_of a l m) r.asked r.figures
