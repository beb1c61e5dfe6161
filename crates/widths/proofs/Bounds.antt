-- The bound of a component whose value is 0, and a summed error that is over its bound: their quotient is above 0, or a
-- NaN. Assumes nothing.
use mathlib.Core.Path.{◌≡◌, refl, sym, ◌∙◌, subst}
use mathlib.Core.Bool.{Bool, true, false, cond}
use Prim.Native.Nat.{ℕ, zero, suc, ◌*◌}
use native.Mathlib.Nat.{zero-lt-suc, zero-mul}
use native.Mathlib.Omega.{arith}
use borrow.Author.Tests.{ltb-true}
use lib.Dec.{T, ltb, lt→ltb}
use lib.Ieee.{Float, nan, inf, fin, up, down, round, mul, div, lt, le, ne, is_nan, of_bits}
use lib.Ieee.Bits.{is_true}
use lib.Ieee.Positive.{positive}
use Rattle.floats.specs.Operations.{◌⊗◌, ◌⊘◌, bits}
use Rattle.floats.specs.Constants.{one}
use Rattle.floats.specs.Floats.{abs_of}
use Rattle.floats.proofs.Bools.{no, of_true}
use Rattle.floats.proofs.Order.{not_lt_through, le_not_below, le_no_nan, le_false, le_of_not, le_through, ne_itself}
use Rattle.rounding.proofs.Monotone.{at_least_one}
use Rattle.tolerance.specs.Bounds.{absolute, relative, bound_for}

-- ---- of a value 0: the bound is 1e-16, an error +0 is within it, and over it makes +0
pub bound_zero : bound_for (bits 0) ≡ absolute
unfolding of_bits absolute relative abs_of round mul ne lt
bound_zero = refl

pub zero_within : le (bits 0) absolute ≡ true
unfolding of_bits absolute round le
zero_within = refl

pub zero_over_absolute : bits 0 ⊘ absolute ≡ bits 0
unfolding of_bits absolute round div
zero_over_absolute = refl

-- ---- what lies above 0, or is a NaN
abbrev pub Over0 : Float → Type 0
Over0 x = le x (bits 0) ≡ false

by_bool : {A : Type 0} (b : Bool) → (b ≡ true → A) → (b ≡ false → A) → A
by_bool true h k = h refl
by_bool false h k = k refl

zero_no_nan : is_nan (bits 0) ≡ false
unfolding of_bits is_nan
zero_no_nan = refl

-- what is over stays over, going up
pub over_up : (x y : Float) → le x y ≡ true → Over0 x → Over0 y
over_up x y h o = by_bool (le y (bits 0)) (λ t. no (sym (le_through x y (bits 0) zero_no_nan h t) ∙ o)) (λ t. t)

-- what is not at most an over is over
pub over_beyond : (x y : Float) → le x y ≡ false → ne y y ≡ false → Over0 y → Over0 x
over_beyond x y h n o =
    by_bool (le x (bits 0))
    (λ t. no (sym (le_of_not x y (le_no_nan x (bits 0) t) (sym (ne_itself y) ∙ n)
    (not_lt_through (bits 0) x y zero_no_nan (le_not_below x (bits 0) t) (le_false y (bits 0) o).0)) ∙ h))
    (λ t. t)

pub nan_over : (x : Float) → ne x x ≡ true → Over0 x
unfolding ne le is_nan
nan_over nan h = refl
nan_over (inf s) h = no (sym (sym (ne_itself (inf s)) ∙ h))
nan_over (fin s m e) h = no (sym (sym (ne_itself (fin s m e)) ∙ h))

one_over : Over0 one
unfolding of_bits le
one_over = refl

-- ---- a bound is 1e-16 at least: above 0, finite or infinite
abbrev Strong : Float → Type 0
Strong nan = ⊥
Strong (inf s) = s ≡ false
Strong (fin s m e) = T (positive (fin s m e))

absolute_strong : Strong absolute
unfolding absolute round
absolute_strong = tt

strong_up : (x y : Float) → Strong x → lt x y ≡ true → Strong y
unfolding lt
strong_up nan y s h = absurd s
strong_up (inf true) y s h = no s
strong_up (inf false) nan s h = no (sym h)
strong_up (inf false) (inf t) s h = no (sym h)
strong_up (inf false) (fin t n d) s h = no (sym h)
strong_up (fin true m e) y s h = absurd s
strong_up (fin false m e) nan s h = no (sym h)
strong_up (fin false m e) (inf true) s h = no (sym h)
strong_up (fin false m e) (inf false) s h = refl
strong_up (fin false m e) (fin true n d) s h = no (sym h)
strong_up (fin false m e) (fin false zero d) s h = absurd
    (nothing_below (m * up e * down d) (0 * up d * down e) (subst (λ (z : ℕ). z * down e ≡ 0) (sym (zero-mul (up d))) (zero-mul (down e)))
    h)
  where
    nothing_below : (a b : ℕ) → b ≡ 0 → ltb a b ≡ true → ⊥
    nothing_below a b z h = let l = ltb-true a b h in omega arith
strong_up (fin false m e) (fin false (suc n) d) s h = lt→ltb 0 (suc n) (zero-lt-suc n)

bound_strong : (total : Float) → Strong (bound_for total)
bound_strong total = go (relative ⊗ abs_of total) (ne absolute absolute) refl (lt absolute (relative ⊗ abs_of total)) refl
  where
    go : (t : Float) (b : Bool) → ne absolute absolute ≡ b → (c : Bool) → lt absolute t ≡ c → Strong (cond b t (cond c t absolute))
    go t true p c q = no (sym (sym fine ∙ p))
      where
        fine : ne absolute absolute ≡ false
        fine = unfold absolute round ne in refl
    go t false p true q = strong_up absolute t absolute_strong q
    go t false p false q = absolute_strong

-- ---- an error that is not at most its bound: over it, it makes more than 0
ratio_over : (x y : Float) → Strong y → le x y ≡ false → Over0 (x ⊘ y)
ratio_over nan y s h = unfold div le in refl
ratio_over (inf t) nan s h = absurd s
ratio_over (inf t) (inf true) s h = no s
ratio_over (inf true) (inf false) s h = no (unfold le in h)
ratio_over (inf false) (inf false) s h = no (unfold le in h)
ratio_over (inf t) (fin true n d) s h = absurd s
ratio_over (inf true) (fin false n d) s h = no (unfold le in h)
ratio_over (inf false) (fin false n d) s h = unfold div le of_bits in refl
ratio_over (fin t m e) nan s h = absurd s
ratio_over (fin t m e) (inf true) s h = no s
ratio_over (fin t m e) (inf false) s h = no (unfold le in h)
ratio_over (fin t m e) (fin u n d) s h =
    let x = fin t m e in
    let y = fin u n d in
    over_up one (x ⊘ y)
    (is_true (le one (x ⊘ y))
    (at_least_one x y tt s (of_true (le y x) (le_of_not y x (unfold is_nan in refl) (unfold is_nan in refl) (le_false x y h).0))))
    one_over

pub error_over : (error total : Float) → le error (bound_for total) ≡ false → Over0 (error ⊘ bound_for total)
error_over error total h = ratio_over error (bound_for total) (bound_strong total) h
