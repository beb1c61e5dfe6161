-- Numbers written one by one over the start of a list. Assumes nothing.
use mathlib.Core.Path.{◌≡◌, refl}
use mathlib.Core.List.{List, [], ◌∷◌}
use Prim.Native.Nat.{◌≤◌}
use native.Mathlib.Omega.{arith}
use lib.ListN.{length, set}
use Rattle.refusals.specs.Lent.{over}

module _ {A : Type 0} where
  pub one_written : (list : List A) (a : A) → 1 ≤ length list → set list 0 a ≡ over (a ∷ []) list
  one_written [] a h = absurd (omega arith)
  one_written (x ∷ rest) a h = refl

  pub two_written : (list : List A) (a b : A) → 2 ≤ length list → set (set list 0 a) 1 b ≡ over (a ∷ b ∷ []) list
  two_written [] a b h = absurd (omega arith)
  two_written (x ∷ []) a b h = absurd (omega arith)
  two_written (x ∷ y ∷ rest) a b h = refl

  pub three_written : (list : List A) (a b c : A) → 3 ≤ length list → set (set (set list 0 a) 1 b) 2 c ≡ over (a ∷ b ∷ c ∷ []) list
  three_written [] a b c h = absurd (omega arith)
  three_written (x ∷ []) a b c h = absurd (omega arith)
  three_written (x ∷ y ∷ []) a b c h = absurd (omega arith)
  three_written (x ∷ y ∷ z ∷ rest) a b c h = refl

  pub four_written : (list : List A) (a b c d : A) → 4 ≤ length list →
      set (set (set (set list 0 a) 1 b) 2 c) 3 d ≡ over (a ∷ b ∷ c ∷ d ∷ []) list
  four_written [] a b c d h = absurd (omega arith)
  four_written (x ∷ []) a b c d h = absurd (omega arith)
  four_written (x ∷ y ∷ []) a b c d h = absurd (omega arith)
  four_written (x ∷ y ∷ z ∷ []) a b c d h = absurd (omega arith)
  four_written (x ∷ y ∷ z ∷ w ∷ rest) a b c d h = refl
