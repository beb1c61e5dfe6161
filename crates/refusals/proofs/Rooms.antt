-- A list has room, or it does not. Assumes nothing.
use mathlib.Core.Path.{◌≡◌}
use mathlib.Core.Bool.{true, false}
use mathlib.Core.List.{List}
use Prim.Native.Nat.{ℕ, ◌≤◌, ◌<◌}
use borrow.Author.Tests.{le-leb, lt-leb}
use lib.ListN.{length}
use Rattle.refusals.specs.Lent.{room}

module _ {A : Type 0} (m : ℕ) (figures : List A) (n : ℕ) (counts : List ℕ) where
  pub has_room : m ≤ length figures → n ≤ length counts → room m figures n counts ≡ true
  has_room h k = simp (le-leb m (length figures) h, le-leb n (length counts) k)

  pub few_figures : length figures < m → room m figures n counts ≡ false
  few_figures h = simp (lt-leb m (length figures) h)

  pub few_counts : m ≤ length figures → length counts < n → room m figures n counts ≡ false
  few_counts h k = simp (le-leb m (length figures) h, lt-leb n (length counts) k)
