-- Lists that grow behind their first n. Assumes nothing.
use mathlib.Core.List.{List, [], ◌∷◌, append-nil}
use mathlib.Core.Path.{◌≡◌, refl, sym, ap, ◌∙◌}
use Prim.Native.Nat.{ℕ, ◌+◌, ◌<◌}
use native.Mathlib.Nat.{add-zero}
use native.Mathlib.Numerals.{add-one}
use lib.ListN.{length, take, set}
use lib.Seq.{take-suc-set}
use Rattle.blocks.specs.Steps.{Grown}

module _ {A : Type 0} where
  pub unchanged : (l : List A) (n m : ℕ) → m ≡ n → Grown l n [] l m
  unchanged l n m e = record { ends = e ∙ sym (add-zero n); holds = ap (λ (k : ℕ). take k l) e ∙ sym (append-nil (take n l)) }

  pub one_more : (l : List A) (n : ℕ) (x : A) → n < length l → Grown l n (x ∷ []) (set l n x) (n + 1)
  one_more l n x h = record { ends = refl; holds = ap (λ (k : ℕ). take k (set l n x)) (add-one n) ∙ take-suc-set l n x h }
