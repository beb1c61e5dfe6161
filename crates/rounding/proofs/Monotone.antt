-- Sums, products and quotients grow with an operand, as f64 compares them; so a quotient is at most 1, or at least 1, as its operands
-- stand, and what lies between two bounded values is bounded. Assumes nothing.
use mathlib.Core.Path.{◌≡◌, refl, sym, ap, ◌∙◌, subst}
use mathlib.Core.Bool.{Bool, true, false, true≢false}
use Prim.Native.Nat.{ℕ, ◌+◌, ◌*◌, ◌≤◌, ◌<◌}
use native.Mathlib.Nat.{le_trans, le_of_eq, mul-one, one-mul, zero-mul, mul_comm, mul_assoc, mul_left_comm, mul-pos, zero-lt-suc}
use native.Mathlib.Omega.{arith}
use lib.Dec.{T, ltb→lt, lit≤}
use lib.IntN.{pos}
use lib.Ieee.{Float, nan, inf, fin, Format, binary64, unlike, round, add, mul, div, le, of_bits}
use lib.Ieee.Fits.{up_pos}
use lib.Ieee.Scale.{finite}
use lib.Ieee.Positive.{num, den, den_pos, positive, positive-finite, through}
use Rattle.floats.specs.Operations.{◌⊘◌, bits}
use Rattle.floats.specs.Constants.{one}
use Rattle.floats.proofs.Zeros.{zero_is}
use Rattle.rounding.specs.Sizes.{AtMost, Below}
use Rattle.rounding.proofs.Signs.{minus, unlike_plus, positive_plus}
use Rattle.rounding.proofs.Signed.{Leq, scale, Adds, adds_scale, adds_mono}
use Rattle.rounding.proofs.Exact.{pow_exact}
use Rattle.rounding.proofs.Ordered.{le→order}
use Rattle.rounding.proofs.Rounding.{round_order}
use Rattle.rounding.proofs.Operations.{add_is, mul_is, div_is, div_most}

-- ---- the sum
swap : (n d e c : ℕ) → n * d * (e * c) ≡ n * e * (d * c)
swap n d e c = simp (mul_assoc, mul_left_comm)

pub add_mono : (f : Format) (a b c : Float) → T (finite a) → T (finite b) → T (finite c) → T (le a b) → T (le (add f a c) (add f b c))
add_mono f a b c i j k h =
    let x = add_is f a c i k in
    let y = add_is f b c j k in
    let da = den a in
    let db = den b in
    let dc = den c in
    let o : Leq (minus a) (num a * dc * (db * dc)) (minus b) (num b * dc * (da * dc)) =
    subst (λ (z : ℕ). Leq (minus a) z (minus b) (num b * dc * (da * dc))) (swap (num a) db dc dc)
    (subst (λ (z : ℕ). Leq (minus a) (num a * db * (dc * dc)) (minus b) z) (swap (num b) da dc dc)
    (scale (minus a) (num a * db) (minus b) (num b * da) (dc * dc) (le→order a b i j h))) in
    let p = adds_scale (minus a) (num a * dc) (minus c) (num c * da) x.sign x.size (db * dc) x.adds in
    let q : Adds (minus b) (num b * dc * (da * dc)) (minus c) (num c * da * (db * dc)) y.sign (y.size * (da * dc)) =
    subst (λ (z : ℕ). Adds (minus b) (num b * dc * (da * dc)) (minus c) z y.sign (y.size * (da * dc))) (swap (num c) db da dc)
    (adds_scale (minus b) (num b * dc) (minus c) (num c * db) y.sign y.size (da * dc) y.adds) in
    subst (λ (z : Float). T (le z (add f b c))) (sym x.is)
    (subst (λ (z : Float). T (le (round f x.sign x.size (da * dc)) z)) (sym y.is)
    (round_order f x.sign x.size (da * dc) y.sign y.size (db * dc) (mul-pos (den_pos a) (den_pos c))
    (mul-pos (den_pos b) (den_pos c))
    (adds_mono (minus a) (num a * dc * (db * dc)) (minus b) (num b * dc * (da * dc)) (minus c) (num c * da * (db * dc)) x.sign
    (x.size * (db * dc)) y.sign (y.size * (da * dc)) o p q)))

-- ---- the product with a factor of sign plus
mul_plus : (f : Format) (a c : Float) → T (finite a) → T (finite c) → minus c ≡ false
    → mul f a c ≡ round f (minus a) (num a * num c) (den a * den c)
mul_plus f a c i k s = mul_is f a c i k ∙ ap (λ (t : Bool). round f (unlike (minus a) t) (num a * num c) (den a * den c)) s
    ∙ ap (λ (t : Bool). round f t (num a * num c) (den a * den c)) (unlike_plus (minus a))

cross : (n d m e : ℕ) → n * d * (m * e) ≡ n * m * (d * e)
cross n d m e = simp (mul_assoc, mul_left_comm)

pub mul_mono : (f : Format) (a b c : Float) → T (finite a) → T (finite b) → T (finite c) → minus c ≡ false → T (le a b)
    → T (le (mul f a c) (mul f b c))
mul_mono f a b c i j k s h =
    subst (λ (z : Float). T (le z (mul f b c))) (sym (mul_plus f a c i k s))
    (subst (λ (z : Float). T (le (round f (minus a) (num a * num c) (den a * den c)) z)) (sym (mul_plus f b c j k s))
    (round_order f (minus a) (num a * num c) (den a * den c) (minus b) (num b * num c) (den b * den c) (mul-pos (den_pos a) (den_pos c))
    (mul-pos (den_pos b) (den_pos c))
    (subst (λ (z : ℕ). Leq (minus a) z (minus b) (num b * num c * (den a * den c))) (cross (num a) (den b) (num c) (den c))
    (subst (λ (z : ℕ). Leq (minus a) (num a * den b * (num c * den c)) (minus b) z) (cross (num b) (den a) (num c) (den c))
    (scale (minus a) (num a * den b) (minus b) (num b * den a) (num c * den c) (le→order a b i j h))))))

-- ---- the quotient by a value above 0
pub positive_num : (c : Float) → T (positive c) → 0 < num c
positive_num nan k = absurd k
positive_num (inf s) k = absurd k
positive_num (fin true m e) k = absurd k
positive_num (fin false m e) k = mul-pos (ltb→lt 0 m k) (up_pos e)

div_plus : (f : Format) (a c : Float) → T (finite a) → T (positive c) → div f a c ≡ round f (minus a) (num a * den c) (num c * den a)
div_plus f a c i k =
    div_is f a c i (positive-finite c k) (positive_num c k)
    ∙ ap (λ (t : Bool). round f (unlike (minus a) t) (num a * den c) (num c * den a)) (positive_plus c k)
    ∙ ap (λ (t : Bool). round f t (num a * den c) (num c * den a)) (unlike_plus (minus a))

pub div_mono : (f : Format) (a b c : Float) → T (finite a) → T (finite b) → T (positive c) → T (le a b) → T (le (div f a c) (div f b c))
div_mono f a b c i j k h =
    subst (λ (z : Float). T (le z (div f b c))) (sym (div_plus f a c i k))
    (subst (λ (z : Float). T (le (round f (minus a) (num a * den c) (num c * den a)) z)) (sym (div_plus f b c j k))
    (round_order f (minus a) (num a * den c) (num c * den a) (minus b) (num b * den c) (num c * den b)
    (mul-pos (positive_num c k) (den_pos a)) (mul-pos (positive_num c k) (den_pos b))
    (subst (λ (z : ℕ). Leq (minus a) z (minus b) (num b * den c * (num c * den a))) (turned (num a) (den b) (den c) (num c))
    (subst (λ (z : ℕ). Leq (minus a) (num a * den b * (den c * num c)) (minus b) z) (turned (num b) (den a) (den c) (num c))
    (scale (minus a) (num a * den b) (minus b) (num b * den a) (den c * num c) (le→order a b i j h))))))
  where
    turned : (n d m e : ℕ) → n * d * (m * e) ≡ n * m * (e * d)
    turned n d m e = simp (mul_assoc, mul_comm, mul_left_comm)

-- ---- 0 <= x <= y: x / y is at most 1
no_more : (x y : Float) → T (finite x) → T (positive y) → T (le (bits 0) x) → T (le x y) → num x * den y ≤ num y * den x
no_more x y i k z h =
    go (minus x) (minus y) (positive_plus y k) (le→order (fin false 0 (pos 0)) x tt i (subst (λ (v : Float). T (le v x)) zero_is z))
    (le→order x y i (positive-finite y k) h)
  where
    gone : (n c d : ℕ) → n * 1 ≤ 0 → n * c ≤ d
    gone n c d h = let e : n ≡ 0 = omega arith in le_trans (le_of_eq (ap (λ (w : ℕ). w * c) e ∙ zero-mul c)) (omega arith)

    go : (s t : Bool) → t ≡ false → Leq false (0 * den x) s (num x * 1) → Leq s (num x * den y) t (num y * den x)
        → num x * den y ≤ num y * den x
    go s true e p q = absurd (true≢false e)
    go false false e p q = (omega arith)
    go true false e p q = gone (num x) (den y) (num y * den x) (omega arith)

pub at_most_one : (x y : Float) → T (finite x) → T (positive y) → T (le (bits 0) x) → T (le x y) → Below 0 (x ⊘ y)
at_most_one x y i k z h =
    div_most binary64 x y 1 1 (zero-lt-suc 0) (pow_exact binary64 0 (lit≤ tt)) i (positive-finite y k) (positive_num y k)
    (rw (mul-one (num x * den y), one-mul (num y * den x)) (no_more x y i k z h))

-- ---- 0 < y <= x: x / y is at least 1
one_is : one ≡ round binary64 false 1 1
unfolding of_bits round
one_is = refl

pub at_least_one : (x y : Float) → T (finite x) → T (positive y) → T (le y x) → T (le one (x ⊘ y))
at_least_one x y i p h =
    subst (λ (z : Float). T (le z (x ⊘ y))) (sym one_is)
    (subst (λ (z : Float). T (le (round binary64 false 1 1) z)) (sym (div_plus binary64 x y i p))
    (round_order binary64 false 1 1 (minus x) (num x * den y) (num y * den x) (zero-lt-suc 0) (mul-pos (positive_num y p) (den_pos x))
    (go (minus x) (minus y) (positive_plus y p) (mul-pos (positive_num y p) (den_pos x)) (le→order y x (positive-finite y p) i h))))
  where
    go : (s t : Bool) → t ≡ false → 0 < num y * den x → Leq t (num y * den x) s (num x * den y)
        → Leq false (1 * (num y * den x)) s (num x * den y * 1)
    go s true e z l = absurd (true≢false e)
    go true false e z l = absurd (plain (num y * den x) (num x * den y) z l)
      where
        plain : (a b : ℕ) → 0 < a → a + b ≤ 0 + 0 → ⊥
        plain a b z l = omega arith
    go false false e z l = rw (one-mul (num y * den x), mul-one (num x * den y)) l

-- ---- between two
pub between_most : (a m b : Float) (c d : ℕ) → T (finite m) → T (le a m) → T (le m b) → AtMost c d a → AtMost c d b → AtMost c d m
between_most a m b c d i h k ha hb =
    record { finite = i; size = go (minus m) (le→order a m ha.finite i h) (le→order m b i hb.finite k) }
  where
    right : (s : Bool) (x y : ℕ) → Leq false x s y → x ≤ y
    right false x y h = omega arith
    right true x y h = omega arith

    left : (s : Bool) (x y : ℕ) → Leq s x true y → y ≤ x
    left false x y h = omega arith
    left true x y h = omega arith

    go : (s : Bool) → Leq (minus a) (num a * den m) s (num m * den a) → Leq s (num m * den b) (minus b) (num b * den m)
        → num m * d ≤ c * den m
    go false p q = through (num m) (num b) c (den m) (den b) d (den_pos b) (right (minus b) (num m * den b) (num b * den m) q) hb.size
    go true p q = through (num m) (num a) c (den m) (den a) d (den_pos a) (left (minus a) (num a * den m) (num m * den a) p) ha.size
