-- The least and the largest of a piece's heights, height by height: of those asked none is below the one, or above the
-- other. The order of f64s alone says so, NaNs too, which are below nothing. Assumes nothing.
use mathlib.Core.Path.{◌≡◌, refl, sym, ◌∙◌}
use mathlib.Core.Bool.{Bool, true, false, cond}
use mathlib.Core.List.{List}
use Prim.Native.Nat.{ℕ, ◌+◌}
use borrow.Author.Count.{below_more}
use native.Mathlib.Nat.{not-suc-le-zero}
use lib.Ieee.{Float, nan, inf, fin, lt, is_nan}
use Rattle.floats.specs.Operations.{◌⊗◌, at}
use Rattle.floats.proofs.Bools.{no}
use Rattle.floats.proofs.Order.{lt_asym, not_lt_through, below_nan, not_below_itself}
use Rattle.quadrature.specs.Tally.{WithinTo}

upper_no_nan : (x y : Float) → lt x y ≡ true → is_nan y ≡ false
upper_no_nan x y t = go (is_nan y) refl
  where
    go : (b : Bool) → is_nan y ≡ b → is_nan y ≡ false
    go true n = no (sym t ∙ below_nan x y n)
    go false n = n

lower_no_nan : (x y : Float) → lt x y ≡ true → is_nan x ≡ false
unfolding lt is_nan
lower_no_nan nan y t = sym t
lower_no_nan (inf s) y t = refl
lower_no_nan (fin s m e) y t = refl

module _ (x h y : Float) where
  -- what is not below y is not below the less of h and y, and neither is h
  not_below_less : (b : Bool) → lt h y ≡ b → lt x y ≡ false → lt x (cond b h y) ≡ false
  not_below_less true t u = not_lt_through y h x (upper_no_nan h y t) (lt_asym h y t) u
  not_below_less false t u = u

  not_above_more : (b : Bool) → lt y h ≡ b → lt y x ≡ false → lt (cond b h y) x ≡ false
  not_above_more true t u = not_lt_through y x h (lower_no_nan y h t) u (lt_asym y h t)
  not_above_more false t u = u

itself_below : (h y : Float) (b : Bool) → lt h y ≡ b → lt h (cond b h y) ≡ false
itself_below h y true t = not_below_itself h
itself_below h y false t = t

itself_above : (h y : Float) (b : Bool) → lt y h ≡ b → lt (cond b h y) h ≡ false
itself_above h y true t = not_below_itself h
itself_above h y false t = t

pub first_within : (scale : Float) (heights : List Float) → WithinTo 1 scale heights (at heights 0 ⊗ scale) (at heights 0 ⊗ scale)
first_within scale heights =
    let h = at heights 0 ⊗ scale in
    below_more (λ (j : ℕ). (lt (at heights j ⊗ scale) h ≡ false) × (lt h (at heights j ⊗ scale) ≡ false)) 0
    (λ j l. absurd (not-suc-le-zero l)) (not_below_itself h, not_below_itself h)

pub one_within : (scale : Float) (heights : List Float) (i : ℕ) (lo hi lo' hi' : Float) → WithinTo i scale heights lo hi
    → lo' ≡ cond (lt (at heights i ⊗ scale) lo) (at heights i ⊗ scale) lo
    → hi' ≡ cond (lt hi (at heights i ⊗ scale)) (at heights i ⊗ scale) hi
    → WithinTo (i + 1) scale heights lo' hi'
one_within scale heights i lo hi lo' hi' w e f =
    let h = at heights i ⊗ scale in
    rw (e, f)
    (below_more (λ (j : ℕ). (lt (at heights j ⊗ scale) (cond (lt h lo) h lo) ≡ false)
    × (lt (cond (lt hi h) h hi) (at heights j ⊗ scale) ≡ false)) i
    (λ j l. (
      not_below_less (at heights j ⊗ scale) h lo (lt h lo) refl (w j l).0,
      not_above_more (at heights j ⊗ scale) h hi (lt hi h) refl
          (w j l).1,
    ))
    (itself_below h lo (lt h lo) refl, itself_above h hi (lt hi h) refl))
