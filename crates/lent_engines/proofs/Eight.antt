-- Lists of eight, element by element. Assumes nothing.
use mathlib.Core.Path.{◌≡◌, refl, sym, ap, ◌∙◌}
use mathlib.Core.List.{List}
use Prim.Native.Nat.{ℕ, zero, suc, ◌<◌}
use native.Mathlib.Omega.{arith}
use lib.Dec.{eqb}
use lib.ListN.{length, get_or, set, length-set}
use lib.Seq.{ext_get_or, get_or-set_same, get_or-set_other}
use borrow.Author.Tests.{eqb-true, eqb-false}
use mathlib.Core.Bool.{Bool, true, false}
use Rattle.lent_engines.specs.Memory.{eight}

module _ {A : Type 0} (d : A) where
  -- past the end nothing is asked
  pub at_eight : (f : ℕ → A) (i : ℕ) → i < 8 → get_or (eight f) i d ≡ f i
  at_eight f zero h = refl
  at_eight f (suc zero) h = refl
  at_eight f (suc (suc zero)) h = refl
  at_eight f (suc (suc (suc zero))) h = refl
  at_eight f (suc (suc (suc (suc zero)))) h = refl
  at_eight f (suc (suc (suc (suc (suc zero))))) h = refl
  at_eight f (suc (suc (suc (suc (suc (suc zero)))))) h = refl
  at_eight f (suc (suc (suc (suc (suc (suc (suc zero))))))) h = refl
  at_eight f (suc (suc (suc (suc (suc (suc (suc (suc i)))))))) h = absurd (let none : ⊥ = omega arith in none)

  by_place : (f g : ℕ → A) (i : ℕ) (x : A) → g i ≡ x → ((j : ℕ) → j < 8 → (j ≡ i → ⊥) → g j ≡ f j)
      → (j : ℕ) → j < 8 → i < 8 → (b : Bool) → eqb j i ≡ b → g j ≡ get_or (set (eight f) i x) j d
  by_place f g i x e others j h k true same =
      let is : j ≡ i = eqb-true j i same in
      ap g is ∙ e ∙ sym (get_or-set_same (eight f) i x d k) ∙ ap (λ (n : ℕ). get_or (set (eight f) i x) n d) (sym is)
  by_place f g i x e others j h k false other =
      others j h (eqb-false j i other) ∙ sym (at_eight f j h) ∙ sym (get_or-set_other (eight f) i j x d (eqb-false j i other))

  -- one of the eight is another, the others stay
  pub eight_set : (f g : ℕ → A) (i : ℕ) (x : A) → i < 8 → g i ≡ x → ((j : ℕ) → j < 8 → (j ≡ i → ⊥) → g j ≡ f j)
      → eight g ≡ set (eight f) i x
  eight_set f g i x k e others =
      ext_get_or d (eight g) (set (eight f) i x) (sym (length-set (eight f) i x))
      (λ j h. at_eight g j h ∙ by_place f g i x e others j h k _ refl)

  pub eight_ext : (f g : ℕ → A) → ((i : ℕ) → i < 8 → f i ≡ g i) → eight f ≡ eight g
  eight_ext f g h = ext_get_or d (eight f) (eight g) refl (λ i k. at_eight f i k ∙ h i k ∙ sym (at_eight g i k))

  -- a list of eight is its elements
  pub eight_of : (l : List A) → length l ≡ 8 → eight (λ i. get_or l i d) ≡ l
  eight_of l h = ext_get_or d (eight (λ i. get_or l i d)) l (sym h) (λ i k. at_eight (λ j. get_or l j d) i k)
