-- Whole numbers of steps: a sum of two is one, with the sum of their counts; and where a sum and one part of it are, so
-- is the other part. Each is its count times the units of a step. Assumes nothing.
use mathlib.Core.Path.{◌≡◌, refl, sym, ap, ◌∙◌}
use mathlib.Core.Bool.{Bool, true, false}
use Prim.Native.Nat.{ℕ, zero, suc, ◌*◌, ◌/◌, ◌%◌, ◌^◌, ◌<◌}
use native.Mathlib.Nat.{mul-mod_left, mul-div_cancel, div-add-mod', zero-mul, zero-div}
use native.Mathlib.Omega.{arith}
use borrow.Author.Tests.{eqb-true, eq-eqb}
use lib.IntN.{ℤ, pos, negsuc, neg_ℤ, nat_abs, suc_ℤ, pred_ℤ, ◌+ℤ◌, ◌-ℤ◌, ◌*ℤ◌, +ℤ_assoc, +ℤ_comm, +ℤ_idl, +ℤ_invr, zero-*ℤ, suc_ℤ-+ℤ, pred_ℤ-+ℤ}
use lib.IntN.{suc_ℤ-*ℤ, pred_ℤ-*ℤ, neg_ℤ-neg_ℤ}
use lib.Pow.{pow_pos}
use lib.Signed.{quot_z}
use Rattle.steps.specs.Steps.{is_whole, steps_of}
use Rattle.steps.proofs.Signs.{abs_neg}

-- ---- integers

swap : (a b c : ℤ) → a +ℤ b +ℤ c ≡ a +ℤ c +ℤ b
swap a b c = +ℤ_assoc a b c ∙ ap (λ (z : ℤ). a +ℤ z) (+ℤ_comm b c) ∙ sym (+ℤ_assoc a c b)

module _ (b c : ℤ) where
  one_up : (a : ℤ) → (a +ℤ b) *ℤ c ≡ a *ℤ c +ℤ b *ℤ c → (suc_ℤ a +ℤ b) *ℤ c ≡ suc_ℤ a *ℤ c +ℤ b *ℤ c
  one_up a h =
      ap (λ (z : ℤ). z *ℤ c) (suc_ℤ-+ℤ a b)
      ∙ suc_ℤ-*ℤ (a +ℤ b) c
      ∙ ap (λ (z : ℤ). z +ℤ c) h
      ∙ swap (a *ℤ c) (b *ℤ c) c
      ∙ sym (ap (λ (z : ℤ). z +ℤ b *ℤ c) (suc_ℤ-*ℤ a c))

  one_down : (a : ℤ) → (a +ℤ b) *ℤ c ≡ a *ℤ c +ℤ b *ℤ c → (pred_ℤ a +ℤ b) *ℤ c ≡ pred_ℤ a *ℤ c +ℤ b *ℤ c
  one_down a h =
      ap (λ (z : ℤ). z *ℤ c) (pred_ℤ-+ℤ a b)
      ∙ pred_ℤ-*ℤ (a +ℤ b) c
      ∙ ap (λ (z : ℤ). z -ℤ c) h
      ∙ swap (a *ℤ c) (b *ℤ c) (neg_ℤ c)
      ∙ sym (ap (λ (z : ℤ). z +ℤ b *ℤ c) (pred_ℤ-*ℤ a c))

  up_from_zero : (n : ℕ) → (pos n +ℤ b) *ℤ c ≡ pos n *ℤ c +ℤ b *ℤ c
  up_from_zero zero = ap (λ (z : ℤ). z *ℤ c) (+ℤ_idl b) ∙ sym (ap (λ (z : ℤ). z +ℤ b *ℤ c) (zero-*ℤ c) ∙ +ℤ_idl (b *ℤ c))
  up_from_zero (suc n) = one_up (pos n) (up_from_zero n)

  down_from_zero : (n : ℕ) → (negsuc n +ℤ b) *ℤ c ≡ negsuc n *ℤ c +ℤ b *ℤ c
  down_from_zero zero = one_down (pos zero) (up_from_zero zero)
  down_from_zero (suc n) = one_down (negsuc n) (down_from_zero n)

  distributes : (a : ℤ) → (a +ℤ b) *ℤ c ≡ a *ℤ c +ℤ b *ℤ c
  distributes (pos n) = up_from_zero n
  distributes (negsuc n) = down_from_zero n

negative : (q : ℤ) (s : ℕ) → neg_ℤ q *ℤ pos s ≡ neg_ℤ (q *ℤ pos s)
negative (pos zero) s = ap pos (zero-mul s) ∙ sym (ap (λ (n : ℕ). neg_ℤ (pos n)) (zero-mul s))
negative (pos (suc n)) s = refl
negative (negsuc n) s = sym (neg_ℤ-neg_ℤ (pos (suc n * s)))

-- ---- a whole number of steps is its count times a step

module _ (s : ℕ) (positive : 0 < s) where
  abs_times : (q : ℤ) → nat_abs (q *ℤ pos s) ≡ nat_abs q * s
  abs_times (pos n) = refl
  abs_times (negsuc n) = abs_neg (suc n * s)

  cut_neg : (n : ℕ) → quot_z (neg_ℤ (pos n)) (pos s) ≡ neg_ℤ (pos (n / s))
  cut_neg zero = ap pos (zero-div s) ∙ sym (ap (λ (n : ℕ). neg_ℤ (pos n)) (zero-div s))
  cut_neg (suc n) = refl

  counted : (q : ℤ) → quot_z (q *ℤ pos s) (pos s) ≡ q
  counted (pos n) = ap pos (mul-div_cancel n positive)
  counted (negsuc n) = cut_neg (suc n * s) ∙ ap (λ (k : ℕ). neg_ℤ (pos k)) (mul-div_cancel (suc n) positive)

  times : (k : ℕ) → k % s ≡ 0 → k ≡ k / s * s
  times k g = omega (arith, div-add-mod' k s)

  back : (u : ℤ) → nat_abs u % s ≡ 0 → u ≡ quot_z u (pos s) *ℤ pos s
  back (pos n) h = ap pos (times n h)
  back (negsuc n) h = ap (λ (k : ℕ). neg_ℤ (pos k)) (times (suc n) h) ∙ sym (negative (pos (suc n / s)) s)

-- ---- in steps

abbrev step : ℕ
step = 2 ^ 1054

is_whole_lem : (q : ℤ) → is_whole (q *ℤ pos step) ≡ true
unfolding is_whole
is_whole_lem q = eq-eqb (nat_abs (q *ℤ pos step) % step) 0
    (ap (λ (n : ℕ). n % step) (abs_times step (pow_pos 1054) q) ∙ mul-mod_left (nat_abs q) step)

count_is : (q : ℤ) → steps_of (q *ℤ pos step) ≡ q
unfolding steps_of
count_is q = counted step (pow_pos 1054) q

pub by_steps : (u : ℤ) → is_whole u ≡ true → u ≡ steps_of u *ℤ pos step
unfolding is_whole steps_of
by_steps u h = back step (pow_pos 1054) u (eqb-true (nat_abs u % step) 0 h)

module _ (u v : ℤ) (whole_u : is_whole u ≡ true) (whole_v : is_whole v ≡ true) where
  sum : u +ℤ v ≡ (steps_of u +ℤ steps_of v) *ℤ pos step
  sum = ap (λ (z : ℤ). z +ℤ v) (by_steps u whole_u) ∙ ap (λ (z : ℤ). steps_of u *ℤ pos step +ℤ z) (by_steps v whole_v)
      ∙ sym (distributes (steps_of v) (pos step) (steps_of u))

  whole_sum : is_whole (u +ℤ v) ≡ true
  whole_sum = ap is_whole sum ∙ is_whole_lem (steps_of u +ℤ steps_of v)

  pub steps_of_sum : steps_of (u +ℤ v) ≡ steps_of u +ℤ steps_of v
  steps_of_sum = ap steps_of sum ∙ count_is (steps_of u +ℤ steps_of v)

whole_negative : (u : ℤ) → is_whole u ≡ true → is_whole (neg_ℤ u) ≡ true
whole_negative u h = ap (λ (z : ℤ). is_whole (neg_ℤ z)) (by_steps u h) ∙ ap is_whole (sym (negative (steps_of u) step))
    ∙ is_whole_lem (neg_ℤ (steps_of u))

-- "25 is asked of the exact sum": where one part is whole, the sum is whole exactly where the other part is
pub whole_part : (u v : ℤ) → is_whole u ≡ true → is_whole (u +ℤ v) ≡ is_whole v
whole_part u v h = by (is_whole v) refl (is_whole (u +ℤ v)) refl
  where
    other : v ≡ u +ℤ v +ℤ neg_ℤ u
    other = sym (swap u v (neg_ℤ u) ∙ ap (λ (z : ℤ). z +ℤ v) (+ℤ_invr u) ∙ +ℤ_idl v)

    by : (a : Bool) → is_whole v ≡ a → (b : Bool) → is_whole (u +ℤ v) ≡ b → is_whole (u +ℤ v) ≡ is_whole v
    by true p b q = whole_sum u v h p ∙ sym p
    by false p true q = q ∙ sym (ap is_whole other ∙ whole_sum (u +ℤ v) (neg_ℤ u) q (whole_negative u h))
    by false p false q = q ∙ sym p
