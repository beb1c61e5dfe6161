-- What is made of +0 is +0: sums, and products with what is finite and of sign plus. b − a has that sign if a < b. Assumes nothing.
use mathlib.Core.Path.{◌≡◌, refl, sym, ap, ◌∙◌, subst}
use mathlib.Core.Bool.{Bool, true, false, cond}
use Prim.Native.Nat.{ℕ, zero, suc, ◌+◌, ◌-◌, ◌*◌, ◌≤◌, ◌<◌}
use native.Mathlib.Nat.{mul-pos, zero-lt-suc, zero-mul, mul-zero}
use native.Mathlib.Omega.{arith}
use borrow.Author.Tests.{ltb-true}
use lib.Dec.{T, ltb}
use lib.IntN.{ℤ}
use lib.Ieee.{Float, nan, inf, fin, binary64, level, up, down, round, add, sub, lt, eq, fits, of_bits}
use lib.Ieee.Fits.{mul-fits, up_pos}
use lib.Ieee.Scale.{finite}
use lib.Ieee.Positive.{num, den}
use Rattle.floats.specs.Operations.{◌⊕◌, ◌⊖◌, ◌⊗◌, bits}
use Rattle.floats.specs.Constants.{half}
use Rattle.floats.specs.Floats.{abs_of}
use Rattle.floats.proofs.Bools.{no}
use Rattle.floats.proofs.Zeros.{zero_is, equal_zero}
use Rattle.rounding.proofs.Signs.{minus, round_minus}
use Rattle.rounding.proofs.Exact.{zero_exact}
use Rattle.rounding.proofs.Operations.{mul_is, mul_most}
use Rattle.rounding.proofs.Sizes.{half_below}

-- ---- computed
pub zero_plus_zero : bits 0 ⊕ bits 0 ≡ bits 0
unfolding of_bits add
zero_plus_zero = refl

pub zero_less_zero : bits 0 ⊖ bits 0 ≡ bits 0
unfolding of_bits sub
zero_less_zero = refl

pub abs_zero : abs_of (bits 0) ≡ bits 0
unfolding of_bits abs_of
abs_zero = refl

-- ---- a product
none : (x : Float) → num x * 1 ≤ 0 * den x → num x ≡ 0
none x h = go (num x) (den x) h
  where
    go : (a d : ℕ) → a * 1 ≤ 0 * d → a ≡ 0
    go a d h = let z = zero-mul d in omega arith

only_zero : (x : Float) → T (finite x) → minus x ≡ false → T (fits binary64 x) → num x ≡ 0 → x ≡ bits 0
only_zero nan i s f h = absurd i
only_zero (inf t) i s f h = absurd i
only_zero (fin true m e) i s f h = no s
only_zero (fin false zero e) i s f h = sym (equal_zero (fin false zero e) f (unfold eq of_bits in level_zero e) ∙ (unfold abs_of in refl))
  where
    level_zero : (e : ℤ) → level false (0 * up e * 1) false (0 * 1 * down e) ≡ true
    level_zero e = rw (zero-mul (up e), zero-mul (down e))
only_zero (fin false (suc m) e) i s f h = absurd (plain (suc m * up e) (mul-pos (zero-lt-suc m) (up_pos e)) h)
  where
    plain : (a : ℕ) → 0 < a → a ≡ 0 → ⊥
    plain a l z = omega arith

pub times_zero : (x : Float) → T (finite x) → minus x ≡ false → x ⊗ bits 0 ≡ bits 0
times_zero x i s =
    let z : T (finite (bits 0)) = subst (λ (z : Float). T (finite z)) (sym zero_is) tt in
    let n : num (bits 0) ≡ 0 = ap num zero_is in
    let m = mul_most binary64 x (bits 0) 0 1 (zero-lt-suc 0) (zero_exact binary64) i z
    (rw (n, mul-zero (num x)) (plain (0 * (den x * den (bits 0))))) in
    only_zero (x ⊗ bits 0) m.finite
    (ap minus (mul_is binary64 x (bits 0) i z) ∙ rw (s, zero_is) (round_minus binary64 (num x * 0) (den x * 1)))
    (mul-fits binary64 x (bits 0))
    (none (x ⊗ bits 0) m.size)
  where
    plain : (a : ℕ) → 0 * 1 ≤ a
    plain a = omega arith

pub half_minus : (x : Float) → T (finite x) → minus x ≡ false → minus (half ⊗ x) ≡ false
half_minus x i s = ap minus (mul_is binary64 half x half_below.finite i)
    ∙ rw (s, half_sign) (round_minus binary64 (num half * num x) (den half * den x))
  where
    half_sign : minus half ≡ false
    half_sign = unfold of_bits in refl

-- b − a rounds with the sign plus where a < b
pub less_minus : (a b : Float) → T (finite a) → T (finite b) → lt a b ≡ true → minus (b ⊖ a) ≡ false
unfolding sub lt
less_minus nan b i j h = absurd i
less_minus (inf s) b i j h = absurd i
less_minus (fin s m e) nan i j h = absurd j
less_minus (fin s m e) (inf t) i j h = absurd j
less_minus (fin false m e) (fin false n d) i j h = go (m * up e * down d) (n * up d * down e) (down d * down e) h
    (ltb (n * up d * down e) (m * up e * down d)) refl
  where
    go : (a b c : ℕ) → ltb a b ≡ true → (x : Bool) → ltb b a ≡ x
        → minus (cond x (round binary64 true (a - b) c) (round binary64 false (b - a) c)) ≡ false
    go a b c h true q = absurd (let l = ltb-true a b h in let k = ltb-true b a q in let z : ⊥ = omega arith in z)
    go a b c h false q = round_minus binary64 (b - a) c
less_minus (fin false m e) (fin true n d) i j h = no (sym h)
less_minus (fin true m e) (fin false n d) i j h = round_minus binary64 (n * up d * down e + m * up e * down d) (down d * down e)
less_minus (fin true m e) (fin true n d) i j h = go (m * up e * down d) (n * up d * down e) (down d * down e)
    (ltb (n * up d * down e) (m * up e * down d)) h
  where
    go : (a b c : ℕ) (x : Bool) → x ≡ true → minus (cond x (round binary64 false (a - b) c) (round binary64 (ltb a b) (b - a) c)) ≡ false
    go a b c true h = round_minus binary64 (a - b) c
    go a b c false h = no (sym h)
