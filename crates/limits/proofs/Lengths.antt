-- What the limits of a length say of its size: at most 2^6, and a multiple of 2^-72; if it lies above 0, at least 2^-20. Assumes nothing.
use Rattle.std.specs.Prelude.{Ok}
use mathlib.Core.Path.{◌≡◌, refl, sym, ap, ◌∙◌, subst}
use mathlib.Core.Logic.{inl, inr}
use mathlib.Core.Bool.{Bool, true, false, ◌&&◌, ◌||◌}
use Prim.Native.Nat.{ℕ, zero, suc, ◌*◌, ◌^◌, zero-le}
use native.Mathlib.Nat.{le_trans, le_of_eq, one-mul, zero-mul, mul-pos, zero-lt-suc}
use native.Mathlib.Omega.{arith}
use mir.Facts.{or_yes}
use lib.Dec.{T, eqb, eqb→eq, lit≤}
use lib.IntN.{pos, negsuc}
use lib.Ieee.{Float, nan, inf, fin, binary64, up, down, fits, lt, eq, le, of_bits}
use lib.Ieee.Bits.{is_true}
use lib.Ieee.Fits.{and_l, and_r, up_pos}
use lib.Ieee.Scale.{finite}
use Rattle.floats.specs.Operations.{bits}
use Rattle.floats.specs.Floats.{abs_of}
use Rattle.floats.proofs.Bools.{no, of_true}
use Rattle.floats.proofs.Zeros.{plus_zero, zero_is}
use Rattle.floats.proofs.Order.{lt_asym, equal_sym, equal_not_below}
use Rattle.rounding.specs.Sizes.{Below, Above, OnGrid}
use Rattle.rounding.proofs.Signs.{minus}
use Rattle.rounding.proofs.Gaps.{grid_of_above}
use Rattle.rounding.proofs.Tests.{most_of_le, least_of_le}
use Rattle.refusals.proofs.Accepted.{holds, both_true}
use Rattle.limits.specs.Limits.{shortest, longest, is_within, length_within, length_check, zero_allowed, negative_allowed}

pub record Length (x : Float) : Type 0 where
  pub below : Below 6 x
  pub grid : OnGrid 72 x

-- a length that is not below 0, as a height is
pub record Height (x : Float) : Type 0 where
  pub length : Length x
  pub not_under : lt x (bits 0) ≡ false

-- a length above 0
pub record PositiveLength (x : Float) : Type 0 where
  pub length : Length x
  pub above : Above 20 x
  pub not_minus : minus x ≡ false

-- ---- zero
zero_length : (x : Float) → T (fits binary64 x) → T (eq x plus_zero) → Length x
unfolding eq fits
zero_length nan t h = absurd h
zero_length (inf s) t h = absurd h
zero_length (fin s zero (pos k)) t h = record
    { below = record { finite = tt; size = (let z = zero-mul (2 ^ k) in omega arith) }; grid = (tt, lit≤ tt) }
zero_length (fin s zero (negsuc k)) t h =
    record {
      below = record { finite = tt; size = zero-le };
      grid = (tt, (let e = eqb→eq (1 * 2 ^ suc k) 1 t in le_trans (le_of_eq (sym (one-mul (2 ^ suc k)) ∙ e)) (lit≤ tt)));
    }
zero_length (fin s (suc m) e) t h =
    absurd
    (let k = eqb→eq (suc m * up e * 1) (0 * 1 * down e) (and_l (eqb (suc m * up e * 1) (0 * 1 * down e)) _ h) in
    let z = zero-mul (down e) in
    let p = mul-pos (zero-lt-suc m) (up_pos e) in
    let n : ⊥ = omega arith in n)

-- ---- "magnitude 2^-20 to 64"
longest_is : longest ≡ fin false 1 (pos 6)
unfolding of_bits
longest_is = refl

shortest_is : shortest ≡ fin false 1 (negsuc 19)
unfolding of_bits
shortest_is = refl

module _ (x : Float) (h : T (is_within shortest longest (abs_of x))) where
  most : Below 6 x
  most = most_of_le x (fin false 1 (pos 6)) tt refl (rw longest_is at (and_r (le shortest (abs_of x)) (le (abs_of x) longest) h))

  least : Above 20 x
  least = least_of_le x (fin false 1 (negsuc 19)) tt refl most.finite
      (rw shortest_is at (and_l (le shortest (abs_of x)) (le (abs_of x) longest) h))

-- ---- the limits of a length
length_within_lem : (z n : Bool) (x : Float) → T (fits binary64 x) → T (length_within z n x) → Length x
unfolding length_within
length_within_lem z n x t h = elim (or_yes (z && eq x (bits 0)) ((n || lt (bits 0) x) && is_within shortest longest (abs_of x)) h) [
  | inl k ↦ zero_length x t (rw zero_is at (and_r z (eq x (bits 0)) k))
  | inr k ↦
      (let w = and_r (n || lt (bits 0) x) (is_within shortest longest (abs_of x)) k in
      record { below = most x w; grid = grid_of_above x 20 t (least x w) })
]

above_plus : (x : Float) → T (finite x) → lt (bits 0) x ≡ true → minus x ≡ false
unfolding lt
above_plus nan i h = absurd i
above_plus (inf s) i h = absurd i
above_plus (fin false m e) i h = refl
above_plus (fin true m e) i h = no (sym h ∙ ap (λ (z : Float). lt z (fin true m e)) zero_is)

above_within : (z n : Bool) (x : Float) → T (fits binary64 x) → T (length_within z n x) → lt (bits 0) x ≡ true → PositiveLength x
unfolding length_within
above_within z n x t h p =
    let l = length_within_lem z n x t h in
    record {
      length = l;
      above = elim (or_yes (z && eq x (bits 0)) ((n || lt (bits 0) x) && is_within shortest longest (abs_of x)) h) [
        | inl k ↦ no (sym p ∙ equal_not_below (bits 0) x (equal_sym x (bits 0) (is_true (eq x (bits 0)) (and_r z (eq x (bits 0)) k))))
        | inr k ↦ least x (and_r (n || lt (bits 0) x) (is_within shortest longest (abs_of x)) k)
      ];
      not_minus = above_plus x l.below.finite p;
    }

-- neither zero nor negative passes
is_above : (x : Float) → length_within false false x ≡ true → lt (bits 0) x ≡ true
unfolding length_within
is_above x h = (both_true (lt (bits 0) x) (is_within shortest longest (abs_of x)) h).0

-- zero passes, negative does not
not_under : (x : Float) → length_within true false x ≡ true → lt x (bits 0) ≡ false
unfolding length_within
not_under x h = elim (or_yes (eq x (bits 0)) (lt (bits 0) x && is_within shortest longest (abs_of x)) (of_true _ h)) [
  | inl k ↦ equal_not_below x (bits 0) (is_true (eq x (bits 0)) k)
  | inr k ↦ lt_asym (bits 0) x (is_true (lt (bits 0) x) (and_l (lt (bits 0) x) (is_within shortest longest (abs_of x)) k))
]

-- ---- of a field whose check accepts
within : (field : ℕ) (x : Float) → length_check field x ≡ Ok tt → length_within (zero_allowed field) (negative_allowed field) x ≡ true
unfolding length_check
within field x h = holds _ _ h

module _ (field : ℕ) (x : Float) (f : T (fits binary64 x)) (h : length_check field x ≡ Ok tt) where
  pub length_checked : Length x
  length_checked = length_within_lem (zero_allowed field) (negative_allowed field) x f (of_true _ (within field x h))

  pub above_checked : lt (bits 0) x ≡ true → PositiveLength x
  above_checked p = above_within (zero_allowed field) (negative_allowed field) x f (of_true _ (within field x h)) p

  by_tests : (z n : Bool) → zero_allowed field ≡ z → negative_allowed field ≡ n → length_within z n x ≡ true
  by_tests z n p q = subst (λ (b : Bool). length_within b n x ≡ true) p
      (subst (λ (b : Bool). length_within (zero_allowed field) b x ≡ true) q (within field x h))

  pub field_above : zero_allowed field ≡ false → negative_allowed field ≡ false → PositiveLength x
  field_above p q = above_checked (is_above x (by_tests false false p q))

  pub height_checked : zero_allowed field ≡ true → negative_allowed field ≡ false → Height x
  height_checked p q = record { length = length_checked; not_under = not_under x (by_tests true false p q) }
