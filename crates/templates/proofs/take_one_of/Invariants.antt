-- `templates::take_one_of` meets its contract: the alternatives that are left, from the number that is next on, are the
-- whole. Assumes nothing.
use mathlib.Core.List.{List}
use mathlib.Core.Path.{◌≡◌}
use Prim.Native.Nat.{ℕ, ◌+◌, ◌-◌, ◌≤◌}
use lib.ListN.{length, take, drop}
use lib.Ieee.{Float}
use Rattle.templates.specs.declared.Cursor.{Cursor}
use Rattle.templates.specs.Matching.{first_of, one_of, cut_at_bars}
use Rattle.templates.specs.Cursors.{reading_at, Room}
use Rattle.templates.proofs.take_one_of.Given as goal

pub record Trying (line alternatives : List ℕ) (before between : List Float) (c : Cursor) (i number : ℕ) : Type 0 where
  pub place : i ≤ length alternatives
  pub small : number ≤ i + 1
  pub whole : one_of (cut_at_bars alternatives) (reading_at line before c)
      ≡ first_of number (cut_at_bars (drop i alternatives)) (reading_at line before c)
  pub kept : take c.figures between ≡ take c.figures before
  pub room : Room line between c
  pub same : length between ≡ length before

abbrev pub invariant-loop-c : goal.invariant-loop-c
invariant-loop-c l = Trying l.line l.alternatives l.initial.values l.values l.c l.i l.number

abbrev pub decreases-loop-c : goal.decreases-loop-c
decreases-loop-c l = length l.alternatives - l.i
