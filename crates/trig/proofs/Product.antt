-- Every finite f has an m: its product with 0.6366197723675814 is finite. Assumes nothing.
use mathlib.Core.Path.{◌≡◌, refl, sym, ap, subst, ◌∙◌}
use mathlib.Core.Bool.{Bool, true, false, cond}
use Prim.Native.Nat.{ℕ, zero, suc, ◌-◌, ◌*◌, ◌^◌, ◌≤◌, ◌<◌}
use native.Mathlib.Nat.{le_of_lt, mul-pos, mul-le-mul_right, zero-lt-suc}
use native.Mathlib.Omega.{arith}
use lib.Dec.{T, ltb, lit≤}
use lib.Pow.{pow_pos}
use lib.Ieee.{Float, nan, inf, fin, binary64, up, down, odd, units, round, mul, le, lt, eq, fits, of_bits, unlike}
use lib.Ieee.Fits.{down_pos, round_is}
use lib.Ieee.Order.{drop, kept, round_mono}
use Rattle.floats.specs.Floats.{is_finite}
use Rattle.floats.proofs.Bools.{no}
use Rattle.trig.specs.Trig.{quarter_turns}
use Rattle.trig.proofs.Exact.{bounds}

-- ---- a fraction that rounds to no more than a finite value, rounded with either sign

odd_finite : (d : ℕ) (s : Bool) (q k l : ℕ) → is_finite (odd d s q k l) ≡ true
unfolding odd
odd_finite d s zero k l = refl
odd_finite d s (suc q) k l = refl

infinity_above : (y : Float) → is_finite y ≡ true → T (le (inf false) y) → ⊥
unfolding le lt eq
infinity_above nan f h = h
infinity_above (inf t) f h = no (sym f)
infinity_above (fin t m e) f h = h

module _ (s : Bool) (y : Float) (f : is_finite y ≡ true) where
  units_finite : (q k : ℕ) → T (le (units binary64 false q k) y) → is_finite (units binary64 s q k) ≡ true
  unfolding units
  units_finite q k = go (ltb (q * 2 ^ k) (2 ^ 2098))
    where
      go : (t : Bool) → T (le (cond t (odd 54 false q k 1074) (inf false)) y) → is_finite (cond t (odd 54 s q k 1074) (inf s)) ≡ true
      go true h = odd_finite 54 s q k 1074
      go false h = absurd (infinity_above y f h)

  round_finite : (a b : ℕ) → T (le (round binary64 false a b) y) → is_finite (round binary64 s a b) ≡ true
  round_finite a b h =
      ap is_finite (round_is binary64 s a b)
      ∙ units_finite (kept 53 (a * 2 ^ 1074) b) (drop 53 (a * 2 ^ 1074) b)
      (subst (λ (z : Float). T (le z y)) (round_is binary64 false a b) h)

-- ---- the largest f64, (2^53 − 1)·2^971, is above 2^1024 times the constant

largest_finite : is_finite (round binary64 false ((2 ^ 53 - 1) * 2 ^ 971) 1) ≡ true
unfolding round
largest_finite = refl

scaled : (a d p n m q : ℕ) → a < p * d → p * n ≤ m * q → a * n * 1 ≤ m * (d * q)
scaled a d p n m q h k = let x = mul-le-mul_right n (le_of_lt h) in let y = mul-le-mul_right d k in omega arith

pub product_finite : (f : Float) → T (fits binary64 f) → is_finite f ≡ true → is_finite (quarter_turns f) ≡ true
unfolding mul of_bits
product_finite nan f h = h
product_finite (inf t) f h = no (sym h)
product_finite (fin s k e) f h =
    let n : ℕ = 0x14_5f30_6dc9_c883 in
    let m : ℕ = (2 ^ 53 - 1) * 2 ^ 971 in
    round_finite (unlike s false) (round binary64 false m 1) largest_finite (k * up e * n) (down e * 2 ^ 53)
    (round_mono binary64 (k * up e * n) (down e * 2 ^ 53) m 1 (mul-pos (down_pos e) (pow_pos 53)) (zero-lt-suc 0)
    (scaled (k * up e) (down e) (2 ^ 1024) n m (2 ^ 53) (bounds s k e f).1 (lit≤ tt)))
