-- `templates::take_text` meets its contract: what is left of the template, taken from where reading stands, is the whole. Assumes nothing.
use mathlib.Core.List.{List}
use mathlib.Core.Path.{◌≡◌}
use Prim.Native.Nat.{ℕ, ◌-◌, ◌≤◌}
use lib.ListN.{length, take, drop}
use lib.Ieee.{Float}
use Rattle.tokens.specs.Tokens.{tokens}
use Rattle.templates.specs.Matching.{take_tokens, take_text}
use Rattle.templates.specs.Cursors.{reading_at, Room}
use Rattle.templates.specs.declared.Cursor.{Cursor}
use Rattle.templates.proofs.take_text.Given as goal

pub record SoFar (line template : List ℕ) (before after : List Float) (c s : Cursor) (i : ℕ) : Type 0 where
  pub place : i ≤ length template
  pub whole : take_text template (reading_at line before c) ≡ take_tokens (tokens (drop i template)) (reading_at line after s)
  pub kept : take c.figures after ≡ take c.figures before
  pub grows : c.figures ≤ s.figures
  pub room : Room line after s
  pub same : length after ≡ length before

abbrev pub invariant-loop-i : goal.invariant-loop-i
invariant-loop-i l = SoFar l.line l.template l.initial.values l.values l.initial.s l.s l.i

abbrev pub decreases-loop-i : goal.decreases-loop-i
decreases-loop-i l = length l.template - l.i
