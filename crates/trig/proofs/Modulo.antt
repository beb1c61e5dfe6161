-- `mod_four` is the remainder by 4 that is never negative: it is below 4, and n, or −n, is a multiple of 4 when it is taken off.
-- Assumes nothing.
use mathlib.Core.Path.{◌≡◌, refl, ◌∙◌}
use mathlib.Core.Bool.{Bool, true, false}
use Prim.Native.Nat.{ℕ, zero, suc, ◌+◌, ◌-◌, ◌*◌, ◌%◌, ◌<◌}
use native.Mathlib.Omega.{arith}
use lib.IntN.{ℤ, pos, negsuc}
use Rattle.trig.specs.Trig.{mod_four, signed}

pub below_four : (z : ℤ) → mod_four z < 4
below_four (pos n) = omega arith
below_four (negsuc n) = omega arith

pub of_positive : (n : ℕ) → (n - mod_four (signed false n)) % 4 ≡ 0
of_positive n = omega arith

-- 0 has the same remainder with either sign
pub negative_is : (n : ℕ) → (4 - n % 4) % 4 ≡ mod_four (signed true n)
negative_is zero = refl
negative_is (suc n) = refl

pub of_negative : (n : ℕ) → (n + mod_four (signed true n)) % 4 ≡ 0
of_negative n = let e = negative_is n in omega arith

pub of_multiple : (s : Bool) (n : ℕ) → 0 ≡ mod_four (signed s (n * 4))
of_multiple true n = (let z : 0 ≡ (4 - n * 4 % 4) % 4 = omega arith in z) ∙ negative_is (n * 4)
of_multiple false n = omega arith
