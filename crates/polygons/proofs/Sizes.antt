-- How large sums, differences and products of integers are: at most the sum and the product of the magnitudes. So an i64 holds them.
-- Assumes nothing.
use mathlib.Core.Path.{◌≡◌, refl, subst}
use mathlib.Core.Bool.{Bool, true, false, cond}
use Prim.Native.Nat.{ℕ, zero, suc, ◌+◌, ◌-◌, ◌*◌, ◌^◌, ◌≤◌, ◌<◌}
use native.Mathlib.Nat.{le_refl}
use native.Mathlib.Omega.{arith}
use lib.Dec.{ltb}
use lib.IntN.{ℤ, pos, negsuc, neg_ℤ, nat_abs, sub_ℕ, ◌+ℤ◌, ◌-ℤ◌, ◌*ℤ◌}
use lib.Signed.{mag}
use mir.Syntax.{w64}
use mir.Val.{SFits, of_z, to_z}
use mir.Facts.{to_z-of_z}
use Rattle.polygons.specs.Bounds.{IsCoordinate, IsOffset}

pub abs_neg : (a : ℤ) → nat_abs (neg_ℤ a) ≡ nat_abs a
abs_neg (pos zero) = refl
abs_neg (pos (suc n)) = refl
abs_neg (negsuc n) = refl

either : (t : Bool) (a b : ℤ) (n : ℕ) → nat_abs a ≤ n → nat_abs b ≤ n → nat_abs (cond t a b) ≤ n
either true a b n h k = h
either false a b n h k = k

abs_sub : (a b : ℕ) → nat_abs (sub_ℕ a (suc b)) ≤ a + suc b
abs_sub a b = either (ltb a (suc b)) (negsuc (suc b - suc a)) (pos (a - suc b)) (a + suc b) (omega arith) (omega arith)

pub abs_add : (a b : ℤ) → nat_abs (a +ℤ b) ≤ nat_abs a + nat_abs b
abs_add (pos a) (pos b) = le_refl (a + b)
abs_add (pos a) (negsuc b) = abs_sub a b
abs_add (negsuc a) (pos b) = omega (arith, abs_sub b a)
abs_add (negsuc a) (negsuc b) = omega arith

pub abs_minus : (a b : ℤ) → nat_abs (a -ℤ b) ≤ nat_abs a + nat_abs b
abs_minus a b = subst (λ (n : ℕ). nat_abs (a -ℤ b) ≤ nat_abs a + n) (abs_neg b) (abs_add a (neg_ℤ b))

pub abs_mul : (a b : ℤ) → nat_abs (a *ℤ b) ≡ nat_abs a * nat_abs b
abs_mul (pos a) (pos b) = refl
abs_mul (pos a) (negsuc b) = abs_neg (pos (a * suc b))
abs_mul (negsuc a) (pos b) = abs_neg (pos (suc a * b))
abs_mul (negsuc a) (negsuc b) = refl

mag_le : (z : ℤ) → mag z ≤ nat_abs z
mag_le (pos n) = le_refl n
mag_le (negsuc n) = omega arith

pub fits_i64 : (z : ℤ) → nat_abs z < 2 ^ 63 → SFits w64 z
fits_i64 z h = record { sfits = omega (arith, mag_le z) }

-- a result is in an i64's range, and the machine reads it back
pub result_back : (z : ℤ) → mag z < 2 ^ 63 → to_z w64 (of_z w64 z) ≡ z
result_back z h = to_z-of_z {w = w64} (record { sfits = h })

pub back : (z : ℤ) → nat_abs z < 2 ^ 63 → to_z w64 (of_z w64 z) ≡ z
back z h = to_z-of_z (fits_i64 z h)

pub coordinate_back : (z : ℤ) → IsCoordinate z → to_z w64 (of_z w64 z) ≡ z
coordinate_back z h = back z (omega arith)

pub offset_back : (z : ℤ) → IsOffset z → to_z w64 (of_z w64 z) ≡ z
offset_back z h = back z (omega arith)

-- ---- what the code asks and gives of an operation on two i64s: a local holds bits, from which the machine reads the number back

module _ (f : ℤ → ℤ → ℤ) {a b : ℤ} (fits_a : SFits w64 a) (fits_b : SFits w64 b) (fits : SFits w64 (f a b)) where
  pub asked : SFits w64 (f (to_z w64 (of_z w64 a)) (to_z w64 (of_z w64 b)))
  asked = rw (to_z-of_z fits_a, to_z-of_z fits_b) fits

  pub given : to_z w64 (of_z w64 (f (to_z w64 (of_z w64 a)) (to_z w64 (of_z w64 b)))) ≡ f a b
  given = rw (to_z-of_z fits_a, to_z-of_z fits_b) (to_z-of_z fits)
