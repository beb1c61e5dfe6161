-- The root of an f64 from 0 to 4^k is at most 2^k. Assumes nothing.
use mathlib.Core.Path.{◌≡◌, sym, ap, ◌∙◌, subst}
use mathlib.Core.Bool.{Bool, true, false, not, ◌&&◌, true≢false}
use Prim.Native.Nat.{ℕ, zero, suc, ◌+◌, ◌*◌, ◌/◌, ◌%◌, ◌^◌, ◌≤◌, ◌<◌, zero-le}
use native.Mathlib.Nat.{le_trans, le_of_eq, lt_of_lt_of_le, mul-one, one-mul, zero-mul, mul_assoc, mul_right_comm, mul-le-mul}
use native.Mathlib.Nat.{mul-le-mul_right, le_of_mul-le-mul_right, mul-mul-mul_comm, div-one, zero-lt-suc, mul-pos}
use native.Mathlib.Omega.{arith}
use lib.Dec.{T, leb, ltb, eqb, leb→le, nleb→lt, nltb→le, lt→ltb}
use lib.IntN.{ℤ, pos}
use lib.Pow.{pow-add, pow-lt, pow_pos}
use lib.Ieee.{Float, nan, inf, fin, binary64, up, down, odd, fits, lt}
use Rattle.floats.specs.Operations.{bits}
use Rattle.floats.proofs.Zeros.{zero_is}
use lib.Ieee.Digits.{Equals, odd_val}
use lib.Ieee.Fits.{and_i, up_pos, down_pos}
use lib.Ieee.Nearest.{div_mono}
use Rattle.floats.specs.Units.{units_of}
use Rattle.root.specs.Root.{radicand, root_of, kept, dropped}
use Rattle.floats.proofs.Units.{units_are}
use Rattle.root.proofs.Nearest.{is_root}
use Rattle.root.proofs.Squares.{even_square}
use Rattle.rounding.specs.Sizes.{Below}

-- a root above b of a number up to b * b would be nearer to b
too_large : (a b n : ℕ) → b < a → n ≤ b * b → (a + b) * (a + b) < 4 * n → ⊥
too_large a b n l h k =
    let s : (b + b) * (b + b) ≤ (a + b) * (a + b) = mul-le-mul (more a b l) (more a b l) in
    let e : (b + b) * (b + b) ≡ 4 * (b * b) = ap (λ (z : ℕ). z * z) (twice b) ∙ even_square b in
    let z : ⊥ = omega arith in z
  where
    more : (a b : ℕ) → b < a → b + b ≤ a + b
    more a b h = omega arith

    twice : (b : ℕ) → b + b ≡ 2 * b
    twice b = omega arith

not_above : (a b n : ℕ) → n ≤ b * b → (b < a → (a + b) * (a + b) < 4 * n) → a ≤ b
not_above a b n h k = go (leb a b) (leb→le a b) (nleb→lt a b)
  where
    go : (t : Bool) → (T t → a ≤ b) → (T (not t) → b < a) → a ≤ b
    go true p q = p tt
    go false p q = absurd (too_large a b n (q tt) h (k (q tt)))

-- a power of two is an f64
pub power_fits : (k : ℕ) → k ≤ 1023 → T (fits binary64 (fin false 1 (pos k)))
unfolding fits
power_fits k h = and_i (eqb (1 % 2) 1 && ltb 1 (2 ^ 53) && leb 1 (2 ^ 1074)) (ltb (1 * 2 ^ k) (2 ^ 1024 * 1)) tt
    (lt→ltb (1 * 2 ^ k) (2 ^ 1024 * 1) (rw (one-mul (2 ^ k)) (lt_of_lt_of_le (pow-lt (room k h)) (le_of_eq (sym (mul-one (2 ^ 1024)))))))
  where
    room : (k : ℕ) → k ≤ 1023 → k < 1024
    room k h = omega arith

-- in units of 1 / u
units_most : (n d k u : ℕ) → 0 < d → n * 1 ≤ 2 ^ (k + k) * d → n * u / d * u ≤ 2 ^ k * u * (2 ^ k * u)
units_most n d k u D h =
    let a : n * u * 1 ≤ 2 ^ (k + k) * u * d = rw (mul-one (n * u), mul_right_comm (2 ^ (k + k)) u d)
    (mul-le-mul_right u (rw (mul-one n) at h)) in
    let b : n * u / d ≤ 2 ^ (k + k) * u = le_trans (div_mono (n * u) d (2 ^ (k + k) * u) 1 D (zero-lt-suc 0) a)
    (le_of_eq (div-one (2 ^ (k + k) * u))) in
    le_trans (mul-le-mul_right u b)
    (le_of_eq (ap (λ (z : ℕ). z * u * u) (pow-add 2 k k) ∙ mul_assoc (2 ^ k * 2 ^ k) u u ∙ mul-mul-mul_comm (2 ^ k) (2 ^ k) u u))

power_units : (k : ℕ) → units_of (fin false 1 (pos k)) ≡ 2 ^ k * 2 ^ 1074
power_units k = div-one (1 * 2 ^ k * 2 ^ 1074) ∙ ap (λ (z : ℕ). z * 2 ^ 1074) (one-mul (2 ^ k))

root_value : (m : ℕ) (e : ℤ) → Equals (root_of (fin false (suc m) e)) (units_of (root_of (fin false (suc m) e))) (2 ^ 1074)
unfolding root_of
root_value m e =
    let n = radicand (fin false (suc m) e) in
    let v = odd_val 53 false (kept n) (dropped n) 1074 in
    subst (λ (z : ℕ). Equals (odd 53 false (kept n) (dropped n) 1074) z (2 ^ 1074))
    (sym (units_are (odd 53 false (kept n) (dropped n) 1074) (kept n * 2 ^ dropped n) v)) v

of_units : (r : Float) (a k : ℕ) → Equals r a (2 ^ 1074) → a ≤ 2 ^ k * 2 ^ 1074 → Below k r
of_units nan a k v h = absurd v
of_units (inf s) a k v h = absurd v
of_units (fin s m e) a k v h =
    record {
      finite = tt;
      size = plain (m * up e) (down e) (2 ^ k) (2 ^ 1074) a (pow_pos 1074) v h;
    }
  where
    plain : (n d p u a : ℕ) → 0 < u → n * u ≡ a * d → a ≤ p * u → n * 1 ≤ p * d
    plain n d p u a U e h = rw (mul-one n)
        (le_of_mul-le-mul_right (le_trans (le_of_eq e) (le_trans (mul-le-mul_right d h) (le_of_eq (mul_right_comm p u d)))) U)

root_of_plus : (m : ℕ) (e : ℤ) (k : ℕ) → k ≤ 1023 → T (fits binary64 (fin false (suc m) e)) → Below (k + k) (fin false (suc m) e)
    → Below k (root_of (fin false (suc m) e))
root_of_plus m e k l f h =
    let x = fin false (suc m) e in
    let r = root_of x in
    let near = is_root x f in
    of_units r (units_of r) k (root_value m e)
    (not_above (units_of r) (2 ^ k * 2 ^ 1074) (radicand x) (units_most (suc m * up e) (down e) k (2 ^ 1074) (down_pos e) h.size)
    (subst (λ (z : ℕ). z < units_of r → (units_of r + z) * (units_of r + z) < 4 * radicand x) (power_units k)
    (near.nearest (fin false 1 (pos k)) (power_fits k l)).above))

negative : (m : ℕ) (e : ℤ) → lt (fin true (suc m) e) (bits 0) ≡ false → ⊥
unfolding lt
negative m e h =
    let k = nltb→le 0 (suc m * up e * 1 + 0 * 1 * down e)
    (is_not (ltb 0 (suc m * up e * 1 + 0 * 1 * down e)) (sym (ap (lt (fin true (suc m) e)) zero_is) ∙ h)) in
    let p = mul-pos (zero-lt-suc m) (up_pos e) in
    let z : ⊥ = omega arith in z
  where
    is_not : (b : Bool) → b ≡ false → T (not b)
    is_not true e = absurd (true≢false e)
    is_not false e = tt

-- not below 0: a zero of either sign is its own root
pub root_below : (x : Float) (k : ℕ) → k ≤ 1023 → T (fits binary64 x) → lt x (bits 0) ≡ false → Below (k + k) x → Below k (root_of x)
root_below nan k l f s h = absurd h.finite
root_below (inf t) k l f s h = absurd h.finite
root_below (fin t zero e) k l f s h = unfold root_of in record { finite = tt; size = rw (zero-mul (up e)) zero-le }
root_below (fin true (suc m) e) k l f s h = absurd (negative m e s)
root_below (fin false (suc m) e) k l f s h = root_of_plus m e k l f h
