-- The rest of a list, cut no further than its end. Assumes nothing.
use mathlib.Core.Bool.{Bool, true, false}
use mathlib.Core.List.{List}
use mathlib.Core.Path.{◌≡◌, refl, sym, ap, ◌∙◌}
use Prim.Native.Nat.{ℕ, ◌-◌, min}
use native.Mathlib.Omega.{arith}
use borrow.Author.Tests.{leb-true, leb-false}
use lib.Dec.{leb}
use lib.ListN.{length, take, drop, length-drop, drop_of_length-le}
use lib.Seq.{take_all}
use lib.Ieee.{Float}

module _ (k : ℕ) (l : List Float) where
  rest_from : drop (min k (length l)) l ≡ drop k l
  rest_from = by (leb k (length l)) refl
    where
      by : (t : Bool) → leb k (length l) ≡ t → drop (min k (length l)) l ≡ drop k l
      by true h = let g = leb-true k (length l) h in let e : min k (length l) ≡ k = omega arith in ap (λ (n : ℕ). drop n l) e
      by false h = let g = leb-false k (length l) h in drop_of_length-le l {i = min k (length l)} (omega arith)
          ∙ sym (drop_of_length-le l {i = k} (omega arith))

  -- as a slice of what is left of the length
  pub rest_part : take (length l - min k (length l)) (drop (min k (length l)) l) ≡ drop k l
  rest_part = let d = length-drop (min k (length l)) l in take_all (length l - min k (length l)) (drop (min k (length l)) l) (omega arith)
      ∙ rest_from
