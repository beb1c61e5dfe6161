-- `nearest_whole` is the nearest whole number, halves up: the M with M − 1/2 ≤ num / den < M + 1/2, which no other whole number meets.
-- And what it is of the fractions that the code meets. Assumes nothing.
use mathlib.Core.Path.{◌≡◌, sym, ap, subst⁻¹, ◌∙◌}
use Prim.Native.Nat.{ℕ, zero, suc, ◌+◌, ◌-◌, ◌*◌, ◌/◌, ◌≤◌, ◌<◌}
use native.Mathlib.Nat.{le_trans, lt_of_lt_of_le, lt_irrefl, mul-pos, zero-lt-suc, mul-le-mul_right, div-mul-le_self, lt-div-mul-add}
use native.Mathlib.Nat.{div-div-eq-div-mul, add-div_right, le-div_iff_mul-le, div-lt_iff_lt-mul}
use native.Mathlib.Omega.{arith}
use lib.Ieee.Nearest.{div_same}
use Rattle.trig.specs.Trig.{nearest_whole}

-- M − 1/2 ≤ num / den < M + 1/2
pub record IsNearest (num den M : ℕ) : Type 0 where
  pub low : (2 * M - 1) * den ≤ 2 * num
  pub high : 2 * num < (2 * M + 1) * den

low_of : (num den M : ℕ) → 2 * M * den ≤ 2 * num + den → (2 * M - 1) * den ≤ 2 * num
low_of num den zero h = let z : (2 * 0 - 1) * den ≡ 0 = omega arith in omega arith
low_of num den (suc M) h = let z : (2 * suc M - 1) * den ≡ (2 * M + 1) * den = ap (λ (x : ℕ). x * den) (omega arith) in omega arith

pub nearest_is : (num den : ℕ) → 0 < den → IsNearest num den (nearest_whole num den)
nearest_is num den p =
    let l = div-mul-le_self (2 * num + den) (2 * den) in
    let h = lt-div-mul-add {a = 2 * num + den} (mul-pos (zero-lt-suc 1) p) in
    record { low = low_of num den (nearest_whole num den) (omega arith); high = omega arith }

no_less : (num den M N : ℕ) → IsNearest num den M → IsNearest num den N → M < N → ⊥
no_less num den M N m n h =
    let e : 2 * M + 1 ≤ 2 * N - 1 = omega arith in
    lt_irrefl (2 * num) (lt_of_lt_of_le m.high (le_trans (mul-le-mul_right den e) n.low))

pub nearest_only : (num den M N : ℕ) → IsNearest num den M → IsNearest num den N → M ≡ N
nearest_only num den M N m n = omega (arith, no_less num den M N m n, no_less num den N M n m)

-- equal fractions have the same nearest whole number
pub nearest_same : (a d n c : ℕ) → 0 < d → 0 < c → a * c ≡ n * d → nearest_whole a d ≡ nearest_whole n c
nearest_same a d n c p r e = div_same (2 * a + d) (2 * d) (2 * n + c) (2 * c) (mul-pos (zero-lt-suc 1) p) (mul-pos (zero-lt-suc 1) r)
    (omega arith)

-- where den is 2·p·u, twice the fraction is a / p: that cut, and half of one more
pub nearest_halved : (a u p den : ℕ) → 0 < u → 0 < p → den ≡ 2 * p * u → nearest_whole (a * u) den ≡ (a / p + 1) / 2
nearest_halved a u p den i h e =
    let t = mul-pos (zero-lt-suc 1) h in
    let c = ap (λ (x : ℕ). a * x) e in
    nearest_same (a * u) den a (2 * p) (subst⁻¹ (λ (x : ℕ). 0 < x) e (mul-pos t i)) t (omega arith)
    ∙ div_same (2 * a + 2 * p) (2 * (2 * p)) (a + p) (p * 2) (mul-pos (zero-lt-suc 1) t) (mul-pos h (zero-lt-suc 1)) (omega arith)
    ∙ sym (div-div-eq-div-mul (a + p) p 2)
    ∙ ap (λ (x : ℕ). x / 2) (add-div_right a h)

-- where u is w·den, the fraction is the whole number a·w
pub nearest_whole_lem : (a w u den : ℕ) → 0 < den → u ≡ w * den → nearest_whole (a * u) den ≡ a * w
nearest_whole_lem a w u den p e =
    let c = ap (λ (x : ℕ). a * x) e in
    nearest_same (a * u) den (a * w) 1 p (zero-lt-suc 0) (omega arith) ∙ (let z : (2 * (a * w) + 1) / 2 ≡ a * w = omega arith in z)

-- below one half it is 0, from one half on it is not, and below a whole number it is no more than that
module _ (num den : ℕ) (p : 0 < den) where
  pub nearest_none : 2 * num < den → nearest_whole num den ≡ 0
  nearest_none h = nearest_only num den (nearest_whole num den) 0 (nearest_is num den p) (record { low = omega arith; high = omega arith })

  pub nearest_some : den ≤ 2 * num → 0 < nearest_whole num den
  nearest_some h = (le-div_iff_mul-le (mul-pos (zero-lt-suc 1) p)).1 (omega arith)

  pub nearest_most : (M : ℕ) → num < M * den → nearest_whole num den ≤ M
  nearest_most M h = let z : nearest_whole num den < M + 1 = (div-lt_iff_lt-mul (mul-pos (zero-lt-suc 1) p)).1 (omega arith) in omega arith
