-- What is printed is within half a unit of its last digit. Assumes nothing.
use mathlib.Core.Path.{◌≡◌, refl, sym, ap, subst, ◌∙◌}
use mathlib.Core.Bool.{Bool, true, false, cond}
use Prim.Native.Nat.{ℕ, zero, suc, ◌+◌, ◌-◌, ◌*◌, ◌/◌, ◌%◌, ◌^◌, ◌≤◌, ◌<◌}
use native.Mathlib.Nat.{div-add-mod', suc-mul, mul_assoc, mod-lt, pow-suc, pow-succ'}
use native.Mathlib.Omega.{arith}
use borrow.Author.Tests.{ltb-true, ltb-false}
use lib.Dec.{T, ltb, eqb, eqb→eq}
use Rattle.floats.specs.Nearest.{apart}
use Rattle.significant.specs.Significant.{nearest_whole, first_place, first_digits, digits_of, place_of}
use Rattle.significant.proofs.Values.{ten_pos}

-- a is q * b + r: one of q and q + 1 is at most half of b away
pub nearest_within : (a b : ℕ) → 0 < b → apart a (nearest_whole a b * b) * 2 ≤ b
unfolding nearest_whole
nearest_within a b o = by (ltb (r * 2) b) refl
  where
    q : ℕ
    q = a / b

    r : ℕ
    r = a % b

    whole : q * b + r ≡ a
    whole = div-add-mod' a b

    cut : r * 2 ≤ b → apart a (q * b) * 2 ≤ b
    cut h = let w = whole in omega (arith, w, h)

    up : b ≤ r * 2 → apart a (suc q * b) * 2 ≤ b
    up h = let w = whole in let l = mod-lt a o in let e : suc q * b ≡ q * b + b = suc-mul q b in omega (arith, w, h, l, e)

    even : (p : ℕ) → p < 2 → r * 2 ≡ b → apart a ((q + p) * b) * 2 ≤ b
    even zero h e = subst (λ (x : ℕ). apart a (x * b) * 2 ≤ b) (let z : q ≡ q + 0 = omega arith in z) (cut (omega (arith, e)))
    even (suc zero) h e = subst (λ (x : ℕ). apart a (x * b) * 2 ≤ b) (let z : suc q ≡ q + 1 = omega arith in z) (up (omega (arith, e)))
    even (suc (suc p)) h e = absurd (let z : ⊥ = omega arith in z)

    over : (t : Bool) → ltb b (r * 2) ≡ t → b ≤ r * 2 → apart a (cond t (suc q) (q + q % 2) * b) * 2 ≤ b
    over true e h = up h
    over false e h = let g = ltb-false b (r * 2) e in even (q % 2) (omega arith) (omega (arith, g, h))

    by : (t : Bool) → ltb (r * 2) b ≡ t → apart a (cond t q (cond (ltb b (r * 2)) (suc q) (q + q % 2)) * b) * 2 ≤ b
    by true e = let g = ltb-true (r * 2) b e in cut (omega (arith, g))
    by false e = over (ltb b (r * 2)) refl (ltb-false (r * 2) b e)

-- u units are within half of the last digit's 10 ^ place
pub within_half : (n u : ℕ) → 1 ≤ n → apart u (digits_of n u * 10 ^ place_of n u) * 2 ≤ 10 ^ place_of n u
unfolding digits_of place_of
within_half n u o = by (eqb (first_digits n u) (10 ^ n)) refl
  where
    near : apart u (first_digits n u * 10 ^ first_place n u) * 2 ≤ 10 ^ first_place n u
    near = nearest_within u (10 ^ first_place n u) (ten_pos (first_place n u))

    by : (t : Bool) → eqb (first_digits n u) (10 ^ n) ≡ t
        → apart u (cond t (10 ^ (n - 1)) (first_digits n u) * 10 ^ cond t (suc (first_place n u)) (first_place n u)) * 2 ≤ 10 ^ cond t
        (suc (first_place n u)) (first_place n u)
    by true e =
        let p = first_place n u in
        let f : first_digits n u ≡ 10 ^ n = eqb→eq (first_digits n u) (10 ^ n) (subst T (sym e) tt) in
        let g : 10 ^ (n - 1) * 10 ^ suc p ≡ 10 ^ n * 10 ^ p =
        ap (λ (x : ℕ). 10 ^ (n - 1) * x) (pow-succ' 10 p) ∙ sym (mul_assoc (10 ^ (n - 1)) 10 (10 ^ p))
        ∙ ap (λ (x : ℕ). x * 10 ^ p) (sym (pow-suc 10 (n - 1)) ∙ ap (λ (j : ℕ). 10 ^ j) (let z : suc (n - 1) ≡ n = omega arith in z)) in
        let h : apart u (10 ^ (n - 1) * 10 ^ suc p) * 2 ≤ 10 ^ p = subst (λ (x : ℕ). apart u x * 2 ≤ 10 ^ p)
        (ap (λ (x : ℕ). x * 10 ^ p) f ∙ sym g) near in
        let k = pow-succ' 10 p in
        omega (arith, h, k)
    by false e = near
