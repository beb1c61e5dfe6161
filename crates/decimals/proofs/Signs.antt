-- A decimal's value meets the statement with either sign, and nothing else does; minus the value is the value of the
-- minus. Assumes nothing.
use mathlib.Core.Path.{◌≡◌, refl, sym, ap, subst, ◌∙◌}
use mathlib.Core.Bool.{Bool, true, false, not}
use Prim.Native.Nat.{ℕ, ◌+◌, ◌-◌, ◌*◌, ◌/◌, ◌%◌, ◌^◌, ◌≤◌, ◌<◌}
use native.Mathlib.Nat.{mul-pos}
use lib.Pow.{pow_pos}
use native.Mathlib.Omega.{arith}
use lib.Ieee.{Float, nan, inf, fin, binary64, size, to_bits, neg}
use lib.Ieee.Fits.{neg-fits}
use Rattle.floats.specs.Units.{units_of, Signed}
use Rattle.floats.specs.Nearest.{distance, IsNearest}
use Rattle.floats.proofs.Nearest.{round_nearest}
use Rattle.floats.proofs.Unique.{nearest_unique}
use Rattle.decimals.specs.Decimals.{decimal_of}
use Rattle.decimals.proofs.Powers.{ten_to, five_pos}

neg_units : (x : Float) → units_of (neg x) ≡ units_of x
unfolding neg
neg_units nan = refl
neg_units (inf s) = refl
neg_units (fin s m e) = refl

neg_sign : (x : Float) → Signed false x → Signed true (neg x)
unfolding neg
neg_sign nan h = h
neg_sign (inf s) h = h
neg_sign (fin s m e) h = ap not h

neg_last : (x : Float) → Signed false x → to_bits binary64 x % 2 ≡ 0 → to_bits binary64 (neg x) % 2 ≡ 0
unfolding neg to_bits
neg_last nan h e = absurd h
neg_last (inf s) h e = absurd h
neg_last (fin true m e') h e = absurd (let z : ◌≡◌ {A = ℕ} 0 1 = cc in let y : ⊥ = omega arith in y)
neg_last (fin false m e') h e = let n = units_of (fin false m e') in go (size n - 53) (n / 2 ^ (size n - 53)) e
  where
    go : (k q : ℕ) → (0 + k * 2 ^ 52 + q) % 2 ≡ 0 → (2 ^ 63 + k * 2 ^ 52 + q) % 2 ≡ 0
    go k q h = omega arith

minus_nearest : (n d : ℕ) (x : Float) → IsNearest false n d x → IsNearest true n d (neg x)
minus_nearest n d x p = record {
  held = neg-fits binary64 x p.held;
  sign = neg_sign x p.sign;
  least = λ y f g. subst (λ (u : ℕ). (n * 2 ^ 1074 - u * d) + (u * d - n * 2 ^ 1074) ≤ distance n d y) (sym (neg_units x)) (p.least y f g);
  even = λ y f g t h. neg_last x p.sign (p.even y f g
      (subst (λ (u : ℕ). (n * 2 ^ 1074 - u * d) + (u * d - n * 2 ^ 1074) ≡ distance n d y) (neg_units x) t) (λ z. h (neg_units x ∙ z)));
}

ten_pos : (k : ℕ) → 0 < 10 ^ k
ten_pos k = subst (λ (x : ℕ). 0 < x) (sym (ten_to k)) (mul-pos (five_pos k) (pow_pos k))

pub decimal_nearest : (s : Bool) (n k : ℕ) → n < 2 ^ 64 → IsNearest s n (10 ^ k) (decimal_of s n k)
decimal_nearest s n k h = round_nearest s n (10 ^ k) h (ten_pos k)

-- what meets the statement is the value
pub decimal_only : (s : Bool) (n k : ℕ) (x : Float) → n < 2 ^ 64 → IsNearest s n (10 ^ k) x → x ≡ decimal_of s n k
decimal_only s n k x h p = nearest_unique s n (10 ^ k) (ten_pos k) x (decimal_of s n k) p (decimal_nearest s n k h)

minus_decimal : (n k : ℕ) → n < 2 ^ 64 → neg (decimal_of false n k) ≡ decimal_of true n k
minus_decimal n k h = decimal_only true n k (neg (decimal_of false n k)) h
    (minus_nearest n (10 ^ k) (decimal_of false n k) (decimal_nearest false n k h))

abbrev Value : Bool → ℕ → ℕ → Float → Type 0
Value s n k x = (x ≡ decimal_of s n k) × IsNearest s n (10 ^ k) x

value : (s : Bool) (n k : ℕ) (x : Float) → n < 2 ^ 64 → x ≡ decimal_of s n k → Value s n k x
value s n k x h e = (e, subst (IsNearest s n (10 ^ k)) (sym e) (decimal_nearest s n k h))

-- a magnitude with its sign
pub with_plus : (s : Bool) (n k : ℕ) (x : Float) → n < 2 ^ 64 → s ≡ false → x ≡ decimal_of false n k → Value s n k x
with_plus s n k x h t e = rw t (value false n k x h e)

pub with_minus : (s : Bool) (n k : ℕ) (x : Float) → n < 2 ^ 64 → s ≡ true → x ≡ decimal_of false n k → Value s n k (neg x)
with_minus s n k x h t e = rw t (value true n k (neg x) h (ap neg e ∙ minus_decimal n k h))
