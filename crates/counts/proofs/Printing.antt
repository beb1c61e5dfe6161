-- The fewest digits that hold a number are its digits with no zero leading. Assumes nothing.
use mathlib.Core.List.{[], ◌∷◌, ◌++◌}
use mathlib.Core.Bool.{Bool, true, false, cond}
use mathlib.Core.Path.{◌≡◌, refl, sym, subst}
use Prim.Native.Nat.{ℕ, zero, suc, ◌+◌, ◌-◌, ◌/◌, ◌%◌, ◌^◌, ◌<◌, ◌≤◌}
use native.Mathlib.Nat.{pow-suc, one-le-pow, pow-le-pow_right, mod-eq_of_lt}
use native.Mathlib.Omega.{arith}
use borrow.Author.Tests.{lt-ltb, le-ltb, leb-true, leb-false}
use lib.Dec.{ltb, leb}
use lib.ListN.{length, length-append}
use Rattle.io.specs.Digits.{IsDigitCount}
use Rattle.io.specs.Digits.{last_digits as digits_at_end}
use Rattle.counts.specs.Counts.{digits, count_text}

-- not more digits than are allowed
at_most_lem : (k n : ℕ) → length (digits k n) ≤ k
unfolding digits
at_most_lem zero n = omega arith
at_most_lem (suc k) n = by (ltb n 10) (at_most_lem k (n / 10))
  where
    by : (t : Bool) → length (digits k (n / 10)) ≤ k → length (cond t ((48 + n) ∷ []) (digits k (n / 10) ++ ((48 + n % 10) ∷ []))) ≤ suc k
    by true h = omega arith
    by false h = simp length-append (omega arith)

pub twenty : (n : ℕ) → length (count_text n) ≤ 20
unfolding count_text
twenty n = at_most_lem 20 n

one_less : (k n : ℕ) → IsDigitCount 10 1 n (suc (suc k)) → (10 ≤ n) × IsDigitCount 10 1 (n / 10) (suc k)
one_less k n f =
    let p = pow-suc 10 k in let q = pow-suc 10 (suc k) in let o = one-le-pow k 10 (omega arith) in
    let e : suc (suc k) - 1 ≡ suc k = omega arith in
    let d : suc k - 1 ≡ k = omega arith in
    let low : 10 ^ suc k ≤ n = subst (λ (j : ℕ). 10 ^ j ≤ n) e (f.2 (omega arith)) in
    let high = f.1 in
    let next : 10 ^ k ≤ n / 10 = omega arith in
    (omega arith, (omega arith, omega arith, λ _. subst (λ (j : ℕ). 10 ^ j ≤ n / 10) (sym d) next))

fewest : (m k n : ℕ) → suc k ≤ m → IsDigitCount 10 1 n (suc k) → digits_at_end 10 (suc k) n ≡ digits m n
unfolding digits
fewest zero k n h f = absurd (let z : ⊥ = omega arith in z)
fewest (suc m) zero n h f =
    let b : n < 10 = f.1 in
    let e = mod-eq_of_lt b in
    rw (e, lt-ltb n 10 b)
fewest (suc m) (suc k) n h f =
    let g = one_less k n f in
    let d : n % 10 < 10 = omega arith in
    let i = fewest m k (n / 10) (omega arith) g.1 in
    rw (le-ltb n 10 g.0, lt-ltb (n % 10) 10 d, i)

-- a 64-bit number takes at most twenty
pub at_most_twenty : (n k : ℕ) → n < 2 ^ 64 → IsDigitCount 10 1 n k → k ≤ 20
at_most_twenty n k h f = by (leb k 20) refl
  where
    by : (t : Bool) → leb k 20 ≡ t → k ≤ 20
    by true e = leb-true k 20 e
    by false e =
        let g = leb-false k 20 e in
        let l : 10 ^ 20 ≤ 10 ^ (k - 1) = let p : 0 < 10 = omega arith in let j : 20 ≤ k - 1 = omega arith in pow-le-pow_right p j in
        let m = f.2 (omega arith) in
        let z : 2 ^ 64 ≤ 10 ^ 20 = omega arith in
        absurd (let y : ⊥ = omega arith in y)

-- the digits as `io::decimal` prints them
pub printed : (n k : ℕ) → n < 2 ^ 64 → IsDigitCount 10 1 n k → digits_at_end 10 k n ≡ count_text n
unfolding count_text
printed n zero h f = let l = f.0 in absurd (let z : ⊥ = omega arith in z)
printed n (suc k) h f = fewest 20 k n (at_most_twenty n (suc k) h f) f
