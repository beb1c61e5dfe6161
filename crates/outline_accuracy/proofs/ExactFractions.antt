-- The numbers of proofs are the fractions of the statement: order, inverses, x on an edge. Assumes nothing.
use mathlib.Core.Path.{◌≡◌, refl, sym, ◌∙◌, subst}
use mathlib.Core.Bool.{Bool, true, false}
use Prim.Native.Nat.{ℕ, suc, ◌+◌, ◌-◌, ◌*◌, ◌≤◌, ◌<◌}
use native.Mathlib.Nat.{zero-add}
use native.Mathlib.Omega.{arith}
use lib.Dec.{T, leb→le}
use lib.IntN.{ℤ, pos, negsuc, neg_ℤ, ◌*ℤ◌}
use lib.Signed.{◌≤ℤ◌}
use lib.Ieee.{Float}
use lib.Ieee.Scale.{finite}
use lib.Ieee.Positive.{num, den, positive}
use Rattle.floats.specs.Fractions.{Fraction, ◌over◌, ◌plus◌ as sum, minus as negated, ◌times◌ as product, value_of as fraction_of}
use Rattle.rounding_error.specs.Distances.{◌at_most◌}
use Rattle.rounding_error.proofs.Numbers.{Number, number, minus, ◌less◌, ◌times◌, zero_number, value_of}
use Rattle.rounding_error.proofs.Fractions.{IsFraction, plus_fraction, times_fraction, minus_fraction, value_fraction, whole_fraction}
use Rattle.rounding_error.proofs.Fractions.{shifted_fraction}
use Rattle.error_terms.proofs.Monomials.{top}
use Rattle.error_terms.proofs.Laws.{inverse_of, Reaches}
use Rattle.error_terms.proofs.Floors.{NotBelow}
use Rattle.error_terms.proofs.Shares.{positive_value}
use Rattle.outline_accuracy.specs.OutlineAreas.{◌less◌ as ◌without◌, inverse, on_line}
use Rattle.outline_accuracy.proofs.Signs.{extent_of}
use Rattle.outline_accuracy.proofs.Crossings.{rise_inverse, line_at}
use Rattle.outline_accuracy.proofs.Lines.{height_of}

-- ---- the order
whole_order : (P N Q M : ℕ) (z w : ℤ) → IsFraction (number P N 1) (z over 1) → IsFraction (number Q M 1) (w over 1) → z ≤ℤ w → P + M ≤ Q + N
whole_order P N Q M (pos k) (pos l) h i o = let e = h.1 in let f = i.1 in let g = leb→le k l o.le in omega (arith, e, f, g)
whole_order P N Q M (pos k) (negsuc l) h i o = absurd o.le
whole_order P N Q M (negsuc k) (pos l) h i o = let e = h.1 in let f = i.1 in omega (arith, e, f)
whole_order P N Q M (negsuc k) (negsuc l) h i o = let e = h.1 in let f = i.1 in let g = leb→le l k o.le in omega (arith, e, f, g)

pub in_order : (x y : Number) (v w : Fraction) → IsFraction x v → IsFraction y w → v at_most w → NotBelow (y less x)
in_order (number p n d) (number q m e) (z over b) (u over c) h i o =
    let s = times_fraction (number p n d) (number c 0 1) (z over b) (pos c over 1) h (whole_fraction c 1) in
    let t = times_fraction (number q m e) (number b 0 1) (u over c) (pos b over 1) i (whole_fraction b 1) in
    let r = whole_order (p * c + n * 0) (p * 0 + n * c) (q * b + m * 0) (q * 0 + m * b) (z *ℤ pos c) (u *ℤ pos b) (refl, s.1) (refl, t.1)
    o.1 in
    go r h.0 i.0
  where
    go : p * c + n * 0 + (q * 0 + m * b) ≤ q * b + m * 0 + (p * 0 + n * c) → d ≡ b → e ≡ c → m * d + p * e ≤ q * d + n * e
    go r f g =
        subst (λ (d : ℕ). m * d + p * e ≤ q * d + n * e) (sym f)
        (subst (λ (e : ℕ). m * b + p * e ≤ q * b + n * e) (sym g) (omega (arith, r)))

-- ---- 1 over a number

rise_inverse_lem : (v : Number) (w : Fraction) → NotBelow v → IsFraction v w → IsFraction (inverse_of v) (inverse w)
rise_inverse_lem (number q m e) (pos k over c) l h = (diff h.1, h.0 ∙ sym (zero-add c))
  where
    diff : q ≡ m + k → q - m ≡ k
    diff f = omega (arith, f)
rise_inverse_lem (number q m e) (negsuc k over c) l h = absurd (clash h.1)
  where
    clash : m ≡ q + suc k → ⊥
    clash f = omega (arith, f, l)

fall_inverse : (yp yq : Number) (w : Fraction) → 0 < top (extent_of (yp less yq)) → IsFraction (yq less yp) w
    → IsFraction (zero_number less inverse_of (yp less yq)) (inverse w)
fall_inverse (number p n d) (number q m e) (pos k over c) l h = absurd (clash h.1 l)
  where
    clash : q * d + n * e ≡ m * d + p * e + k → 0 < (p * e + m * d) - (n * e + q * d) → ⊥
    clash f g = omega (arith, f, g)
fall_inverse (number p n d) (number q m e) (negsuc k over c) l h =
    let X = (p * e + m * d) - (n * e + q * d) in
    subst (λ (x : ℕ). IsFraction (number (0 * X + 0 * 1) (0 * X + d * e * 1) (1 * X)) (neg_ℤ (pos c) over x)) (sym (lower h.1))
    (shifted_fraction (0 * X + 0 * 1) (0 * X + d * e * 1) 0 c (1 * X) (neg_ℤ (pos c) over (1 * X)) (parts h.0)
    (minus_fraction (number c 0 (1 * X)) (pos c over (1 * X)) (whole_fraction c (1 * X))))
  where
    lower : m * d + p * e ≡ q * d + n * e + suc k → suc k ≡ 1 * ((p * e + m * d) - (n * e + q * d))
    lower f = omega (arith, f)

    parts : e * d ≡ c → 0 * ((p * e + m * d) - (n * e + q * d)) + 0 * 1 + c ≡ 0 * ((p * e + m * d) - (n * e + q * d)) + d * e * 1 + 0
    parts f = go ((p * e + m * d) - (n * e + q * d)) f
      where
        go : (X : ℕ) → e * d ≡ c → 0 * X + 0 * 1 + c ≡ 0 * X + d * e * 1 + 0
        go X f = omega (arith, f)

-- ---- differences, and x on an edge
pub less_fraction : (x y : Number) (v w : Fraction) → IsFraction x v → IsFraction y w → IsFraction (x less y) (v without w)
less_fraction x y v w h i = plus_fraction x (minus y) v (negated w) h (minus_fraction y w i)

line_by : (xp yp xq inv η : Number) (a b c i y : Fraction) → IsFraction xp a → IsFraction yp b → IsFraction xq c → IsFraction inv i →
    IsFraction η y
    → IsFraction (line_at xp yp xq inv η) (sum a (product (product (y without b) (c without a)) i))
line_by xp yp xq inv η a b c i y A B C I Y =
    plus_fraction xp ((η less yp) times (xq less xp) times inv) a (product (product (y without b) (c without a)) i) A
    (times_fraction ((η less yp) times (xq less xp)) inv (product (y without b) (c without a)) i
    (times_fraction (η less yp) (xq less xp) (y without b) (c without a) (less_fraction η yp y b Y B) (less_fraction xq xp c a C A)) I)

pub line_fraction : (rises : Bool) (xp yp xq yq : Float) (η : Number) (y : Fraction) → T (finite xp) → T (finite yp) → T (finite xq) → T
    (finite yq)
    → NotBelow (height_of rises (value_of yp) (value_of yq)) → 0 < top (extent_of (height_of rises (value_of yp) (value_of yq)))
    → IsFraction η y
    → IsFraction (line_at (value_of xp) (value_of yp) (value_of xq) (rise_inverse rises (height_of rises (value_of yp) (value_of yq))) η)
    (on_line xp yp xq yq y)
line_fraction rises xp yp xq yq η y fxp fyp fxq fyq l s Y =
    line_by (value_of xp) (value_of yp) (value_of xq) (rise_inverse rises (height_of rises (value_of yp) (value_of yq))) η (fraction_of xp)
    (fraction_of yp) (fraction_of xq)
    (inverse (fraction_of yq without fraction_of yp)) y (value_fraction xp fxp) (value_fraction yp fyp) (value_fraction xq fxq)
    (inverted rises l s) Y
  where
    rise : IsFraction (value_of yq less value_of yp) (fraction_of yq without fraction_of yp)
    rise = less_fraction (value_of yq) (value_of yp) (fraction_of yq) (fraction_of yp) (value_fraction yq fyq) (value_fraction yp fyp)

    inverted : (r : Bool) → NotBelow (height_of r (value_of yp) (value_of yq))
        → 0 < top (extent_of (height_of r (value_of yp) (value_of yq)))
        → IsFraction (rise_inverse r (height_of r (value_of yp) (value_of yq))) (inverse (fraction_of yq without fraction_of yp))
    inverted true l s = rise_inverse_lem (value_of yq less value_of yp) (fraction_of yq without fraction_of yp) l rise
    inverted false l s = fall_inverse (value_of yp) (value_of yq) (fraction_of yq without fraction_of yp) s rise

-- ---- 1/4096 of the span
pub high_number : (span : Float) (v : Number) (w : Fraction) → T (positive span) → T (finite span) → IsFraction v w
    → product (pos 1 over 4096) (fraction_of span) at_most w → Reaches 1 (num span) (den span * 4096) v
high_number span v w p f h o =
    go v (in_order (number 1 0 4096 times number (num span) 0 (den span)) v (product (pos 1 over 4096) (fraction_of span)) w
    (times_fraction (number 1 0 4096) (number (num span) 0 (den span)) (pos 1 over 4096) (fraction_of span) (whole_fraction 1 4096)
    (subst (λ (x : Number). IsFraction x (fraction_of span)) (positive_value span p) (value_fraction span f))) h o)
  where
    go : (v : Number) → NotBelow (v less (number 1 0 4096 times number (num span) 0 (den span))) → Reaches 1 (num span) (den span * 4096) v
    go (number q m e) u = all (num span) (den span) u
      where
        all : (N D : ℕ) → m * (4096 * D) + (1 * N + 0 * 0) * e ≤ q * (4096 * D) + (1 * 0 + 0 * N) * e → 1 * N * e + m * (D * 4096) ≤ q *
            (D * 4096)
        all N D t = omega (arith, t)
