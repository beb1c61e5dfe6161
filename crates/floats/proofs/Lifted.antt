-- The shift that brings the leading digit of m to place 52. Assumes nothing.
use mathlib.Core.Path.{◌≡◌, sym, ap, ◌∙◌}
use Prim.Native.Nat.{ℕ, suc, ◌+◌, ◌-◌, ◌*◌, ◌^◌, ◌≤◌, ◌<◌}
use native.Mathlib.Nat.{le_trans, le_of_eq, lt_of_lt_of_le, lt_of_not-le, not-le_of_lt, mul-le-mul_right}
use native.Mathlib.Omega.{arith}
use lib.Count.{count_leading_zeros, leading_top}
use lib.Pow.{pow-add, pow_mono, shl_lt}

pub record Lifted (m z : ℕ) : Type 0 where
  pub most : z ≤ 52
  pub low : 2 ^ 52 ≤ m * 2 ^ z
  pub high : m * 2 ^ z < 2 ^ 53

pub lifted : (m : ℕ) → 0 < m → m < 2 ^ 53 → (11 ≤ count_leading_zeros 64 m) × Lifted m (count_leading_zeros 64 m - 11)
lifted m p h =
    let t = leading_top 64 m p (omega arith) in
    let l = count_leading_zeros 64 m in
    let j = t.0 in
    let e : l + suc j ≡ 64 = t.1 in
    let f : j < 53 = lt_of_not-le (λ (g : 53 ≤ j). not-le_of_lt h (le_trans (pow_mono g) t.2)) in
    let z = l - 11 in
    let x : j + z ≡ 52 = omega arith in
    let y : suc j + z ≡ 53 = omega arith in (
      omega arith,
      record {
        most = omega arith;
        low = le_trans (le_of_eq (ap (λ (i : ℕ). 2 ^ i) (sym x) ∙ pow-add 2 j z)) (mul-le-mul_right (2 ^ z) t.2);
        high = lt_of_lt_of_le (shl_lt (suc j) z t.3) (le_of_eq (ap (λ (i : ℕ). 2 ^ i) y));
      },
    )
