-- Numbers that are not below 0: sums, products, and the order of f64s. Assumes nothing.
use mathlib.Core.Path.{◌≡◌, sym, subst}
use Prim.Native.Nat.{ℕ, ◌+◌, ◌-◌, ◌*◌, ◌≤◌, ◌<◌}
use native.Mathlib.Nat.{le_refl, mul-le-mul_right, le_of_mul-le-mul_right, one-mul, mul-one, zero-mul, mul-zero, zero-add, add-zero}
use native.Mathlib.Omega.{arith}
use lib.Ieee.{Float}
use Rattle.rounding_error.proofs.Numbers.{Number, number, Size, ◌per◌, ◌of◌, ◌upto◌, ◌less◌, ◌and◌, IsNumber, IsSize, Over, Under, Near}
use Rattle.rounding_error.proofs.Numbers.{value_of}
use Rattle.rounding_error.proofs.Distances.{sorted, over_trans, over_upto}
use Rattle.rounding_error.proofs.Counts as Counts
use Rattle.rounding_error.proofs.Polynomials.{◌equals◌}
use Rattle.error_terms.proofs.Floors.{NotBelow}

ruleset plain = (sorted, one-mul, mul-one, zero-mul, mul-zero, zero-add, add-zero)

pub equal_not_below : {x y : Number} → IsNumber x → x equals y → NotBelow x → NotBelow y
equal_not_below {x = number p n d} {y = number q m e} D s h = le_of_mul-le-mul_right (go s.same (mul-le-mul_right e h)) D
  where
    go : p * e + m * d ≡ q * d + n * e → n * e ≤ p * e → m * d ≤ q * d
    go u v = omega (arith, u, v)

-- ---- the size of a number that is not below 0
abbrev pub extent_of : Number → Size
extent_of (number p n d) = (p - n) per d

split : {n p : ℕ} → n ≤ p → p ≡ n + (p - n)
split h = omega arith

pub extent_under : (v : Number) → NotBelow v → Under (1 of extent_of v) v
extent_under (number p n d) h = record { below = low (p - n) (split h); above = high (p - n) (split h) }
  where
    low : (x : ℕ) → p ≡ n + x → (p * 1 + 0 * d) * d ≤ (0 * d + n * 1) * d + 1 * x * (d * 1)
    low x e = subst (λ (p : ℕ). (p * 1 + 0 * d) * d ≤ (0 * d + n * 1) * d + 1 * x * (d * 1)) (sym e) (simp plain (omega arith))

    high : (x : ℕ) → p ≡ n + x → (0 * d + n * 1) * d ≤ (p * 1 + 0 * d) * d + 1 * x * (1 * d)
    high x e = subst (λ (p : ℕ). (0 * d + n * 1) * d ≤ (p * 1 + 0 * d) * d + 1 * x * (1 * d)) (sym e) (simp plain (omega arith))

pub extent_upto : (v w : Number) → IsNumber v → NotBelow v → NotBelow (w less v) → extent_of v upto extent_of w
extent_upto (number p n d) (number q m e) D h k =
    let u = more (p - n) (split h) k in
    least (p - n) (q - m) (split (le_of_mul-le-mul_right (less_of (p - n) u) D)) u
  where
    more : (x : ℕ) → p ≡ n + x → m * d + p * e ≤ q * d + n * e → m * d + x * e ≤ q * d
    more x f u = rest (subst (λ (p : ℕ). m * d + p * e ≤ q * d + n * e) f u)
      where
        rest : m * d + (n + x) * e ≤ q * d + n * e → m * d + x * e ≤ q * d
        rest t = let z = simp sorted at t in simp sorted (omega (arith, z))

    less_of : (x : ℕ) → m * d + x * e ≤ q * d → m * d ≤ q * d
    less_of x u = omega (arith, u)

    least : (x y : ℕ) → q ≡ m + y → m * d + x * e ≤ q * d → x * e ≤ y * d
    least x y f u = rest (subst (λ (q : ℕ). m * d + x * e ≤ q * d) f u)
      where
        rest : m * d + x * e ≤ (m + y) * d → x * e ≤ y * d
        rest t = let z = simp sorted at t in simp sorted (omega (arith, z))

-- ---- two f64s near numbers that are in order are as near when they change places, if they are not in order themselves
no_more : (e : Size) → IsSize e → ((0 per 1) and e) upto e
no_more (a per c) C = go
  where
    go : (0 * c + a * 1) * c ≤ a * (1 * c)
    go = simp plain (le_refl _)

no_more' : (e : Size) → IsSize e → (e and (0 per 1)) upto e
no_more' (a per c) C = go
  where
    go : (a * 1 + 0 * c) * c ≤ a * (c * 1)
    go = simp plain (le_refl _)

none_over : (x y : Number) → NotBelow (y less x) → Over (0 per 1) x y
none_over (number p n d) (number q m e) h = go h
  where
    go : m * d + p * e ≤ q * d + n * e → (p * e + m * d) * 1 ≤ (q * d + n * e) * 1 + 0 * (d * e)
    go u = omega (arith, u)

and_real : (e : Size) → IsSize e → IsSize ((0 per 1) and e)
and_real (a per c) C = go C
  where
    go : 0 < c → 0 < 1 * c
    go u = omega (arith, u)

and_real' : (e : Size) → IsSize e → IsSize (e and (0 per 1))
and_real' (a per c) C = go C
  where
    go : 0 < c → 0 < c * 1
    go u = omega (arith, u)

below_over : (e : Size) (x y z : Number) → IsSize e → IsNumber y → NotBelow (y less x) → Over e y z → Over e x z
below_over e x y z C Y h o =
    over_upto ((0 per 1) and e) e x z (and_real e C) (no_more e C) (over_trans (0 per 1) e x y z Y (none_over x y h) o)

over_below : (e : Size) (x y z : Number) → IsSize e → IsNumber y → NotBelow (z less y) → Over e x y → Over e x z
over_below e x y z C Y h o =
    over_upto (e and (0 per 1)) e x z (and_real' e C) (no_more' e C) (over_trans e (0 per 1) x y z Y o (none_over y z h))

pub exchanged : (e : Size) (x y : Float) (A B : Number) → IsSize e → IsNumber A → IsNumber B → NotBelow (B less A)
    → NotBelow (value_of x less value_of y) → Near x A e → Near y B e → Near y A e × Near x B e
exchanged e x y A B C a b o s h k =
    let X = value_of x in
    let Y = value_of y in (
      record {
        finite = k.finite;
        within = record {
          below = below_over e Y X A C (Counts.value_is x) s h.within.below;
          above = below_over e A B Y C b o k.within.above;
        };
      },
      record {
        finite = h.finite;
        within = record {
          below = over_below e X A B C a o h.within.below;
          above = over_below e B Y X C (Counts.value_is y) s k.within.above;
        };
      },
    )
