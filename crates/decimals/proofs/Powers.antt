-- Powers of five and of ten. Assumes nothing.
use mathlib.Core.Path.{◌≡◌, refl, sym, ap, ◌∙◌}
use Prim.Native.Nat.{ℕ, zero, suc, ◌+◌, ◌*◌, ◌/◌, ◌%◌, ◌^◌, ◌≤◌, ◌<◌}
use native.Mathlib.Nat.{pow-suc, mul-pos, mul-mul-mul_comm, pow-le-pow_right}
use native.Mathlib.Omega.{arith}
use lib.Pow.{pow-add}

pub five_pos : (k : ℕ) → 0 < 5 ^ k
five_pos zero = omega arith
five_pos (suc k) = rw (pow-suc 5 k) (mul-pos (five_pos k) (let z : 0 < 5 = omega arith in z))

pub ten_to : (k : ℕ) → 10 ^ k ≡ 5 ^ k * 2 ^ k
ten_to zero = refl
ten_to (suc k) = pow-suc 10 k ∙ ap (λ (x : ℕ). x * 10) (ten_to k)
    ∙ sym (ap (λ (x : ℕ). x * 2 ^ suc k) (pow-suc 5 k) ∙ ap (λ (x : ℕ). 5 ^ k * 5 * x) (pow-suc 2 k) ∙ mul-mul-mul_comm (5 ^ k) 5 (2 ^ k) 2)

pub five_most : (k : ℕ) → k ≤ 18 → 5 ^ k ≤ 5 ^ 18
five_most k h = let z : 0 < 5 = omega arith in pow-le-pow_right z h

-- by its fives and the rest
pub five_of : (k high low : ℕ) → high ≡ 5 ^ (5 * (k / 5)) → low ≡ 5 ^ (k % 5) → high * low ≡ 5 ^ k
five_of k high low h l =
    ap (λ (x : ℕ). x * low) h ∙ ap (λ (x : ℕ). 5 ^ (5 * (k / 5)) * x) l ∙ sym (pow-add 5 (5 * (k / 5)) (k % 5))
    ∙ ap (λ (x : ℕ). 5 ^ x) (let z : 5 * (k / 5) + k % 5 ≡ k = omega arith in z)
