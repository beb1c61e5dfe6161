-- Of a component that is +0 in every sample: its weighted sums are +0, and half a piece's width times +0 is +0. Assumes nothing.
use mathlib.Core.Path.{◌≡◌, refl, sym}
use mathlib.Core.Bool.{Bool, true, false}
use Prim.Native.Nat.{ℕ, zero, suc, ◌≤◌, ◌<◌}
use native.Mathlib.Nat.{le_refl}
use native.Mathlib.Omega.{arith}
use lib.Dec.{lit≤}
use lib.IntN.{pos, negsuc}
use lib.Ieee.{Float, nan, inf, fin, mul, sub, le, eq, of_bits}
use lib.Ieee.Bits.{is_true}
use Rattle.floats.specs.Operations.{◌⊖◌, ◌⊗◌, bits, every}
use Rattle.floats.specs.Constants.{half, one}
use Rattle.floats.proofs.Bools.{no}
use Rattle.floats.proofs.Zeros.{zero_is}
use Rattle.floats.proofs.Order.{below_of_le}
use Rattle.floats.proofs.Every.{every_holds}
use Rattle.rounding.specs.Sizes.{InOrder}
use Rattle.rounding.proofs.Sizes.{half_below, sub_below, mul_below}
use Rattle.rounding.proofs.Zeros.{zero_plus_zero, times_zero, half_minus, less_minus}
use Rattle.gauss_kronrod.specs.Tables.{kronrod_weights, gauss_weights}
use Rattle.quadrature.specs.Rule.{half_width, minus_side, plus_side, kronrod_weight, gauss_weight, weighted_to}

-- ---- a table's weights times +0
abbrev is_plus_zero : Float → Bool
is_plus_zero nan = false
is_plus_zero (inf s) = false
is_plus_zero (fin true m e) = false
is_plus_zero (fin false (suc m) e) = false
is_plus_zero (fin false zero (negsuc k)) = false
is_plus_zero (fin false zero (pos (suc k))) = false
is_plus_zero (fin false zero (pos zero)) = true

is_zero : (x : Float) → is_plus_zero x ≡ true → x ≡ bits 0
is_zero nan h = no (sym h)
is_zero (inf s) h = no (sym h)
is_zero (fin true m e) h = no (sym h)
is_zero (fin false (suc m) e) h = no (sym h)
is_zero (fin false zero (negsuc k)) h = no (sym h)
is_zero (fin false zero (pos (suc k))) h = no (sym h)
is_zero (fin false zero (pos zero)) h = sym zero_is

kronrod_zeros : every 8 (λ i. is_plus_zero (kronrod_weight i ⊗ bits 0)) ≡ true
unfolding of_bits mul every kronrod_weights
kronrod_zeros = refl

gauss_zeros : every 8 (λ i. is_plus_zero (gauss_weight i ⊗ bits 0)) ≡ true
unfolding of_bits mul every gauss_weights
gauss_zeros = refl

sum_zeros : (weight : ℕ → Float) → ((i : ℕ) → i < 8 → weight i ⊗ bits 0 ≡ bits 0) → (y : Float → Float) → ((h : Float) → y h ≡ bits 0)
    → (centre reach : Float) (n : ℕ) → n ≤ 7
    → weighted_to n weight y centre reach ≡ bits 0
unfolding weighted_to
sum_zeros weight z y e centre reach zero l = rw (e centre, z 7 (lit≤ tt)) zero_plus_zero
sum_zeros weight z y e centre reach (suc n) l =
    rw (
      sum_zeros weight z y e centre reach n (omega arith),
      e (minus_side centre reach n),
      e (plus_side centre reach n),
      z n (omega arith),
      zero_plus_zero,
    ) zero_plus_zero

pub kronrod_zero : (y : Float → Float) → ((h : Float) → y h ≡ bits 0) → (centre reach : Float)
    → weighted_to 7 kronrod_weight y centre reach ≡ bits 0
kronrod_zero y e centre reach = sum_zeros kronrod_weight (λ i l. is_zero _ (every_holds 8 _ kronrod_zeros i l)) y e centre reach 7
    (le_refl 7)

pub gauss_zero : (y : Float → Float) → ((h : Float) → y h ≡ bits 0) → (centre reach : Float)
    → weighted_to 7 gauss_weight y centre reach ≡ bits 0
gauss_zero y e centre reach = sum_zeros gauss_weight (λ i l. is_zero _ (every_holds 8 _ gauss_zeros i l)) y e centre reach 7 (le_refl 7)

-- ---- half the width of a piece whose ends are in order and not equal
pub half_width_zero : (a b : Float) → InOrder 1000 a b → eq a b ≡ false → half_width a b ⊗ bits 0 ≡ bits 0
half_width_zero a b w e =
    let d = sub_below b a 1000 (lit≤ tt) w.upper_below w.lower_below in
    let h = mul_below half (b ⊖ a) 0 1001 (lit≤ tt) half_below d in
    times_zero (half_width a b) h.finite
    (half_minus (b ⊖ a) d.finite
    (less_minus a b w.lower_below.finite w.upper_below.finite (below_of_le a b (is_true (le a b) w.ordered) e)))

-- why the ends are bounded and in order: between −2^1023 and 2^1023 a zero component would have the value NaN, between 1 and 0 the value −0
pub too_far_apart : half_width (bits 0xffe0_0000_0000_0000) (bits 0x7fe0_0000_0000_0000) ⊗ bits 0 ≡ nan
unfolding of_bits sub mul
too_far_apart = refl

pub turned_round : half_width one (bits 0) ⊗ bits 0 ≡ bits 0x8000_0000_0000_0000
unfolding of_bits sub mul
turned_round = refl
