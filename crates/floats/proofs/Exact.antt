-- Where a rounded operation changes nothing: an f64 rounds to itself, since it is a whole number of units below 2 ^ 53
-- times a power of two and no other f64 of its sign has as many units. Times 1, over itself, times, plus and minus 0
-- follow. Assumes nothing.
use mathlib.Core.Path.{◌≡◌, refl, sym, ap, ◌∙◌}
use mathlib.Core.Bool.{Bool, true, false, ◌&&◌, cond, true≢false}
use Prim.Native.Nat.{ℕ, zero, suc, ◌+◌, ◌-◌, ◌*◌, ◌%◌, ◌/◌, ◌^◌, ◌<◌, compare}
use native.Mathlib.Nat.{zero-lt-suc, zero-mul, mul-zero, mul-one, one-mul, mul-pos, mul_right_comm, sub-zero, mul-lt-mul_of_pos_right}
use native.Mathlib.Nat.{lt_of_mul-lt-mul_right}
use native.Mathlib.Omega.{arith}
use borrow.Author.Tests.{le-ltb, ne_eqb}
use lib.Dec.{T, leb, ltb, eqb, ltb→lt}
use lib.IntN.{ℤ, pos}
use lib.Pow.{pow_pos}
use lib.Ieee.{Float, nan, inf, fin, binary64, up, down, size, nearest, odd, units, round, sum, add, sub, mul, div, neg, fits, of_bits}
use lib.Ieee.{unlike}
use lib.Ieee.Fits.{up_pos, down_pos, and_r, round-fits}
use lib.Ieee.Exact.{HasValue, round_exact}
use lib.Ieee.Nearest.{div_same}
use lib.Ieee.Scale.{round_same}
use lib.Ieee.Positive.{positive}
use Rattle.floats.specs.Operations.{◌⊕◌, ◌⊖◌, ◌⊗◌, ◌⊘◌, bits}
use Rattle.floats.specs.Constants.{one}
use Rattle.floats.specs.Units.{units_of, Signed}
use Rattle.floats.proofs.Units.{for_positive, exponent, few_digits, same_units}

-- ---- an f64 rounds to itself

signed_of : (x : Float) (s : Bool) (a c : ℕ) → HasValue x s a c → Signed s x
signed_of nan s a c h = h
signed_of (inf t) s a c h = h
signed_of (fin t m e) s a c h = h.0

units_of_lem : (x : Float) (s : Bool) (m : ℕ) (e : ℤ) → HasValue x s (m * up e) (down e) → units_of x ≡ units_of (fin s m e)
units_of_lem nan s m e h = absurd h
units_of_lem (inf t) s m e h = absurd h
units_of_lem (fin t n d) s m e h =
    div_same (n * up d * 2 ^ 1074) (down d) (m * up e * 2 ^ 1074) (down e) (down_pos d) (down_pos e)
    (mul_right_comm (n * up d) (2 ^ 1074) (down e) ∙ ap (λ (x : ℕ). x * 2 ^ 1074) h.1 ∙ mul_right_comm (m * up e) (down d) (2 ^ 1074))

-- the units are below 2 ^ 2098, since the value is below 2 ^ 1024
below_top : (a b c d t : ℕ) → 0 < c → 0 < t → a * t ≡ b * c → a < d * c → b < d * t
below_top a b c d t p q e h =
    let l : a * t < d * c * t = mul-lt-mul_of_pos_right h q in
    lt_of_mul-lt-mul_right c (rw (e, mul_right_comm d c t) at l)

value : (s : Bool) (m : ℕ) (e : ℤ) → T (fits binary64 (fin s m e)) → HasValue (round binary64 s (m * up e) (down e)) s (m * up e) (down e)
unfolding fits
value s zero e f = round_exact binary64 s (0 * up e) (down e) 0 0 (down_pos e) (pow_pos 53) (pow_pos 2098)
    (ap (λ (x : ℕ). x * 2 ^ 1074) (zero-mul (up e)) ∙ sym (zero-mul (down e)))
value s (suc m) e f =
    let d = few_digits s m e f in
    let x = exponent (suc m) e d.1 in
    let under : suc m * up e < 2 ^ 1024 * down e = ltb→lt (suc m * up e) (2 ^ 1024 * down e)
    (and_r (eqb (suc m % 2) 1 && ltb (suc m) (2 ^ 53) && leb (down e) (2 ^ 1074)) (ltb (suc m * up e) (2 ^ 1024 * down e)) f) in
    round_exact binary64 s (suc m * up e) (down e) (suc m) x.0 (down_pos e) d.0
    (below_top (suc m * up e) (suc m * 2 ^ x.0) (down e) (2 ^ 1024) (2 ^ 1074) (down_pos e) (pow_pos 1074) x.1 under)
    x.1

pub round_itself : (s : Bool) (m : ℕ) (e : ℤ) → T (fits binary64 (fin s m e)) → round binary64 s (m * up e) (down e) ≡ fin s m e
round_itself s m e f =
    let v = value s m e f in
    let r = round binary64 s (m * up e) (down e) in
    same_units s r (fin s m e) (round-fits binary64 s (m * up e) (down e)) f (signed_of r s (m * up e) (down e) v) refl
    (units_of_lem r s m e v)

-- the same fraction in other terms
pub round_value : (s : Bool) (m : ℕ) (e : ℤ) (a c : ℕ) → T (fits binary64 (fin s m e)) → 0 < c → a * down e ≡ m * up e * c
    → round binary64 s a c ≡ fin s m e
round_value s m e a c f p h = round_same binary64 s a c (m * up e) (down e) p (down_pos e) h ∙ round_itself s m e f

-- ---- operations

one_is : one ≡ fin false 1 (pos 0)
unfolding of_bits
one_is = refl

zero_is : bits 0 ≡ fin false 0 (pos 0)
unfolding of_bits
zero_is = refl

plus_sign : (s : Bool) → unlike s false ≡ s
plus_sign true = refl
plus_sign false = refl

module _ (s : Bool) (m : ℕ) (e : ℤ) (f : T (fits binary64 (fin s m e))) where
  -- what times 1, plus 0 and minus 0 round
  same_terms : (a : ℕ) → a ≡ m * up e → round binary64 s a (down e * 1) ≡ fin s m e
  same_terms a h = round_value s m e a (down e * 1) f (rw (mul-one (down e)) (down_pos e)) (rw (h, mul-one (down e)))

pub times_one : (x : Float) → T (fits binary64 x) → x ⊗ one ≡ x
unfolding mul
times_one nan f = refl
times_one (inf s) f = rw one_is (ap inf (plus_sign s))
times_one (fin s m e) f = rw one_is
    (ap (λ (t : Bool). round binary64 t (m * up e * 1) (down e * 1)) (plus_sign s) ∙ same_terms s m e f (m * up e * 1) (mul-one (m * up e)))

-- a positive number over itself
one_over_one : round binary64 false 1 1 ≡ one
unfolding round of_bits
one_over_one = refl

pub over_itself : (x : Float) → T (positive x) → x ⊘ x ≡ one
unfolding div
over_itself = for_positive (λ (x : Float). x ⊘ x ≡ one)
    (λ m e. rw (ne_eqb (suc m) 0 (λ z. omega arith))
    (go (suc m * up e * down e) (mul-pos (mul-pos (zero-lt-suc m) (up_pos e)) (down_pos e))))
  where
    go : (a : ℕ) → 0 < a → round binary64 false a a ≡ one
    go a h = round_same binary64 false a a 1 1 h (zero-lt-suc 0) (mul-one a ∙ sym (one-mul a)) ∙ one_over_one

-- a positive number times 0
pub times_zero : (x : Float) → T (positive x) → x ⊗ bits 0 ≡ bits 0
unfolding mul fits
times_zero = for_positive (λ (x : Float). x ⊗ bits 0 ≡ bits 0)
    (λ m e. rw zero_is
    (round_value false 0 (pos 0) (suc m * up e * (0 * 1)) (down e * 1) tt (mul-pos (down_pos e) (zero-lt-suc 0))
    (go (suc m * up e) (down e * 1))))
  where
    go : (a c : ℕ) → a * (0 * 1) * 1 ≡ 0 * 1 * c
    go a c = omega (arith, mul-zero a, zero-mul c)

-- the sign plus, which a product of positive numbers has
abbrev pub Plus : Float → Type 0
Plus nan = ⊥
Plus (inf t) = t ≡ false
Plus (fin t m e) = t ≡ false

round_plus : (a c : ℕ) → Plus (round binary64 false a c)
unfolding round units odd
round_plus a c =
    let n = a * 2 ^ 1074 in
    let k = size (n / c) - 53 in
    let u = c * 2 ^ k in
    go (nearest (n / u) (compare (n % u * 2) u)) k
  where
    odd_plus : (q k : ℕ) → Plus (odd 54 false q k 1074)
    odd_plus zero k = refl
    odd_plus (suc q) k = refl

    either : (b : Bool) (x : Float) → Plus x → Plus (cond b x (inf false))
    either true x h = h
    either false x h = refl

    go : (q k : ℕ) → Plus (units binary64 false q k)
    go q k = either (ltb (q * 2 ^ k) (2 ^ 2098)) (odd 54 false q k 1074) (odd_plus q k)

pub product_plus : (x y : Float) → T (positive x) → T (positive y) → Plus (x ⊗ y)
unfolding mul
product_plus x y = for_positive (λ (x : Float). T (positive y) → Plus (x ⊗ y))
    (λ m e. for_positive (λ (y : Float). Plus (fin false (suc m) e ⊗ y))
    (λ n d. round_plus (suc m * up e * (suc n * up d)) (down e * down d)) y) x

-- 0 added to a number that has the sign plus, and taken from any
pub plus_zero_lem : (x : Float) → T (fits binary64 x) → Plus x → x ⊕ bits 0 ≡ x
unfolding add sum
plus_zero_lem nan f h = absurd h
plus_zero_lem (inf s) f h = rw zero_is
plus_zero_lem (fin true m e) f h = absurd (true≢false h)
plus_zero_lem (fin false m e) f h = rw zero_is
    (same_terms false m e f (m * up e * 1 + 0 * 1 * down e) (omega (arith, mul-one (m * up e), zero-mul (down e))))

less_nothing : (a z c : ℕ) → z ≡ 0
    → cond (ltb a z) (round binary64 true (z - a) c) (round binary64 (false && ltb z a) (a - z) c) ≡ round binary64 false a c
less_nothing a z c h = rw (le-ltb a z (omega arith), h, sub-zero a)

pub minus_zero_lem : (x : Float) → T (fits binary64 x) → x ⊖ bits 0 ≡ x
unfolding sub add neg sum
minus_zero_lem nan f = refl
minus_zero_lem (inf s) f = rw zero_is
minus_zero_lem (fin true m e) f = rw zero_is
    (same_terms true m e f (m * up e * 1 + 0 * 1 * down e) (omega (arith, mul-one (m * up e), zero-mul (down e))))
minus_zero_lem (fin false m e) f = rw zero_is
    (less_nothing (m * up e * 1) (0 * 1 * down e) (down e * 1) (zero-mul (down e))
    ∙ same_terms false m e f (m * up e * 1) (mul-one (m * up e)))
