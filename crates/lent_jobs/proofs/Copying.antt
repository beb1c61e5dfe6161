-- A list copied over another. Assumes nothing.
use mathlib.Core.Path.{◌≡◌, ap, ap₂, ◌∙◌}
use mathlib.Core.List.{List, ◌++◌}
use Prim.Native.Nat.{ℕ, ◌+◌, ◌≤◌}
use native.Mathlib.Nat.{zero-add}
use lib.ListN.{length, take, drop}
use lib.Seq.{paste, length-paste, take-length, take-append_seam, drop-append-add, drop-drop}

module _ {A : Type 0} (d : List A) (at : ℕ) (s : List A) where
  pub same_count : (j : ℕ) {b : List A} → at + j ≤ length d → j ≤ length s → b ≡ paste d at s j → length b ≡ length d
  same_count j h l e = ap length e ∙ length-paste d at s j h l

module _ {A : Type 0} where
  pub pasted_first : (d a : List A) → paste d 0 a (length a) ≡ a ++ drop (length a) d
  pasted_first d a = ap₂ (λ (x : List A) (n : ℕ). x ++ drop n d) (take-length a) (zero-add (length a))

  -- and others behind them
  pub pasted_second : (d a b : List A) → paste (a ++ drop (length a) d) (length a) b (length b) ≡ (a ++ b) ++ drop (length a + length b) d
  pasted_second d a b =
      let rest = drop (length a) d in
      ap₂ (λ (x y : List A). x ++ take (length b) b ++ y) (take-append_seam a rest)
      (drop-append-add a rest (length b) ∙ drop-drop (length b) (length a) d)
      ∙ ap (λ (x : List A). a ++ x ++ drop (length a + length b) d) (take-length b)
