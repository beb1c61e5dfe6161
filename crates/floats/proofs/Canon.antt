-- Each finite f64 is q * 2 ^ k units, with a q of 53 binary digits or a k of 0, and q's last bit is its own. Assumes nothing.
use mathlib.Core.Path.{◌≡◌, refl, sym, ap, subst, ◌∙◌}
use mathlib.Core.Bool.{Bool, true, false, cond}
use Prim.Native.Nat.{ℕ, ◌+◌, ◌-◌, ◌*◌, ◌/◌, ◌%◌, ◌^◌, ◌≤◌, ◌<◌}
use native.Mathlib.Nat.{mul_assoc, mul-div_cancel}
use native.Mathlib.Omega.{arith}
use lib.Dec.{T}
use lib.Pow.{pow-add, pow_pos, shl_lt}
use lib.Ieee.{Float, nan, inf, fin, binary64, size, fits, to_bits}
use lib.Ieee.Digits.{size-le, size_reaches}
use lib.Ieee.Fits.{kept-lt}
use native.Mathlib.Nat.{le-div_iff_mul-le}
use Rattle.floats.specs.Floats.{is_finite}
use Rattle.floats.specs.Units.{units_of}
use Rattle.floats.proofs.Units.{Grid, grid}

pub record Canon (x : Float) : Type 0 where
  pub q : ℕ
  pub k : ℕ
  pub is : units_of x ≡ q * 2 ^ k
  pub few : q < 2 ^ 53
  pub full : 0 < k → 2 ^ 52 ≤ q
  pub last : to_bits binary64 x % 2 ≡ q % 2

-- the places of n that are dropped, and what is left
abbrev places : ℕ → ℕ
places n = size n - 53

whole : (n : ℕ) → Grid n → n / 2 ^ places n * 2 ^ places n ≡ n
whole n g =
    let k = places n in
    let m = g.m in
    let j = g.j in
    let l : size n ≤ 53 + j = size-le n (53 + j) (subst (λ (x : ℕ). x < 2 ^ (53 + j)) (sym g.is) (shl_lt 53 j g.few)) in
    let e : n ≡ m * 2 ^ (j - k) * 2 ^ k = g.is
    ∙ ap (λ (x : ℕ). m * x) (ap (λ (x : ℕ). 2 ^ x) (let z : j ≡ j - k + k = omega arith in z) ∙ pow-add 2 (j - k) k)
    ∙ sym (mul_assoc m (2 ^ (j - k)) (2 ^ k)) in
    ap (λ (x : ℕ). x / 2 ^ k * 2 ^ k) e ∙ ap (λ (x : ℕ). x * 2 ^ k) (mul-div_cancel (m * 2 ^ (j - k)) (pow_pos k)) ∙ sym e

full_of : (n : ℕ) → 0 < places n → 2 ^ 52 ≤ n / 2 ^ places n
full_of n h =
    let k = places n in
    let r : 2 ^ (52 + k) ≤ n = size_reaches n (52 + k) (omega arith) in
    (le-div_iff_mul-le (pow_pos k)).1 (subst (λ (x : ℕ). x ≤ n) (pow-add 2 52 k) r)

parity : (b k q : ℕ) → b % 2 ≡ 0 → (b + k * 2 ^ 52 + q) % 2 ≡ q % 2
parity b k q h = omega arith

top_even : (s : Bool) → cond s (2 ^ 63) 0 % 2 ≡ 0
top_even true = refl
top_even false = refl

pub canon : (x : Float) → T (fits binary64 x) → T (is_finite x) → Canon x
unfolding to_bits
canon nan f h = absurd h
canon (inf s) f h = absurd h
canon (fin s m e) f h =
    let n = units_of (fin s m e) in
    record {
      q = n / 2 ^ places n;
      k = places n;
      is = sym (whole n (grid (fin s m e) f));
      few = kept-lt 53 n;
      full = full_of n;
      last = parity (cond s (2 ^ 63) 0) (places n) (n / 2 ^ places n) (top_even s);
    }
