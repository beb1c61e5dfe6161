-- The numbers of proofs/Numbers are the fractions of floats/specs/Fractions: sums, products and values of f64s, and how far they are apart.
-- Assumes nothing.
use mathlib.Core.Path.{◌≡◌, refl, sym, ap, ◌∙◌, subst}
use mathlib.Core.Bool.{Bool, true, false, not, cond}
use Prim.Native.Nat.{ℕ, zero, suc, ◌+◌, ◌-◌, ◌*◌, ◌≤◌, ◌<◌}
use native.Mathlib.Nat.{mul-pos}
use native.Mathlib.Omega.{arith}
use lib.Dec.{T, ltb, ltb→lt, nltb→le, le→leb}
use lib.IntN.{ℤ, pos, negsuc, neg_ℤ, sub_ℕ, ◌+ℤ◌, ◌*ℤ◌}
use lib.Signed.{◌≤ℤ◌}
use lib.Ieee.{Float, nan, inf, fin, up}
use lib.Ieee.Scale.{finite}
use Rattle.floats.specs.Fractions.{Fraction, ◌over◌, ◌plus◌ as sum, minus as negated, ◌times◌ as product, value_of as fraction_of}
use Rattle.rounding_error.specs.Distances.{◌at_most◌, Within as Near}
use Rattle.rounding_error.proofs.Numbers.{Number, number, ◌per◌, ◌plus◌, minus, ◌times◌, IsNumber, Over, Within, value_of}

-- ---- z is p − n
abbrev Stands : ℤ → ℕ → ℕ → Type 0
Stands (pos k) p n = p ≡ n + k
Stands (negsuc k) p n = n ≡ p + suc k

shifted : (z : ℤ) (a b p n : ℕ) → p + b ≡ n + a → Stands z a b → Stands z p n
shifted (pos k) a b p n e h = omega arith
shifted (negsuc k) a b p n e h = omega arith

difference : (a b : ℕ) → Stands (sub_ℕ a b) a b
difference a b = go (ltb a b) (ltb→lt a b) (nltb→le a b)
  where
    go : (c : Bool) → (T c → a < b) → (T (not c) → b ≤ a) → Stands (cond c (negsuc (b - suc a)) (pos (a - b))) a b
    go true h k = rest (h tt)
      where
        rest : a < b → b ≡ a + suc (b - suc a)
        rest l = omega arith
    go false h k = rest (k tt)
      where
        rest : b ≤ a → a ≡ b + (a - b)
        rest l = omega arith

negative : (x p n : ℕ) → n ≡ p + x → Stands (neg_ℤ (pos x)) p n
negative zero p n h = omega arith
negative (suc x) p n h = h

sum_stands : (z w : ℤ) (p n q m : ℕ) → Stands z p n → Stands w q m → Stands (z +ℤ w) (p + q) (n + m)
sum_stands (pos k) (pos l) p n q m h i = omega arith
sum_stands (pos k) (negsuc l) p n q m h i = shifted (sub_ℕ k (suc l)) k (suc l) (p + q) (n + m) (omega arith) (difference k (suc l))
sum_stands (negsuc k) (pos l) p n q m h i = shifted (sub_ℕ l (suc k)) l (suc k) (p + q) (n + m) (omega arith) (difference l (suc k))
sum_stands (negsuc k) (negsuc l) p n q m h i = omega arith

product_stands : (z w : ℤ) (p n q m : ℕ) → Stands z p n → Stands w q m → Stands (z *ℤ w) (p * q + n * m) (p * m + n * q)
product_stands (pos k) (pos l) p n q m h i = subst (λ (p : ℕ). p * q + n * m ≡ p * m + n * q + k * l) (sym h)
    (subst (λ (q : ℕ). (n + k) * q + n * m ≡ (n + k) * m + n * q + k * l) (sym i) (go n k m l))
  where
    go : (n k m l : ℕ) → (n + k) * (m + l) + n * m ≡ (n + k) * m + n * (m + l) + k * l
    go n k m l = omega arith
product_stands (pos k) (negsuc l) p n q m h i =
    negative (k * suc l) (p * q + n * m) (p * m + n * q)
    (subst (λ (p : ℕ). p * m + n * q ≡ p * q + n * m + k * suc l) (sym h)
    (subst (λ (m : ℕ). (n + k) * m + n * q ≡ (n + k) * q + n * m + k * suc l) (sym i) (go n k q (suc l))))
  where
    go : (n k q l : ℕ) → (n + k) * (q + l) + n * q ≡ (n + k) * q + n * (q + l) + k * l
    go n k q l = omega arith
product_stands (negsuc k) (pos l) p n q m h i =
    negative (suc k * l) (p * q + n * m) (p * m + n * q)
    (subst (λ (n : ℕ). p * m + n * q ≡ p * q + n * m + suc k * l) (sym h)
    (subst (λ (q : ℕ). p * m + (p + suc k) * q ≡ p * q + (p + suc k) * m + suc k * l) (sym i) (go p (suc k) m l)))
  where
    go : (p k m l : ℕ) → p * m + (p + k) * (m + l) ≡ p * (m + l) + (p + k) * m + k * l
    go p k m l = omega arith
product_stands (negsuc k) (negsuc l) p n q m h i =
    subst (λ (n : ℕ). p * q + n * m ≡ p * m + n * q + suc k * suc l) (sym h)
    (subst (λ (m : ℕ). p * q + (p + suc k) * m ≡ p * m + (p + suc k) * q + suc k * suc l) (sym i) (go p (suc k) q (suc l)))
  where
    go : (p k q l : ℕ) → p * q + (p + k) * (q + l) ≡ p * (q + l) + (p + k) * q + k * l
    go p k q l = omega arith

ordered : (z w : ℤ) (p n q m : ℕ) → Stands z p n → Stands w q m → p + m ≤ q + n → z ≤ℤ w
ordered (pos k) (pos l) p n q m h i o = record { le = le→leb k l (omega arith) }
ordered (pos k) (negsuc l) p n q m h i o = absurd (no p n q m k l h i o)
  where
    no : (p n q m k l : ℕ) → p ≡ n + k → m ≡ q + suc l → p + m ≤ q + n → ⊥
    no p n q m k l h i o = omega arith
ordered (negsuc k) (pos l) p n q m h i o = record { le = tt }
ordered (negsuc k) (negsuc l) p n q m h i o = record { le = le→leb l k (omega arith) }

-- ---- a number and the fraction that it is
abbrev pub IsFraction : Number → Fraction → Type 0
IsFraction (number p n d) (z over c) = (d ≡ c) × Stands z p n

by_whole : (z : ℤ) (p n c : ℕ) → Stands z p n → Stands (z *ℤ pos c) (p * c) (n * c)
by_whole z p n c s = shifted (z *ℤ pos c) (p * c + n * 0) (p * 0 + n * c) (p * c) (n * c) (omega arith)
    (product_stands z (pos c) p n c 0 s (omega arith))

pub plus_fraction : (x y : Number) (v w : Fraction) → IsFraction x v → IsFraction y w → IsFraction (x plus y) (sum v w)
plus_fraction (number p n d) (number q m e) (z over b) (w over c) h i = (
  ap (λ (t : ℕ). t * e) h.0 ∙ ap (λ (t : ℕ). b * t) i.0,
  subst (λ (k : ℕ). Stands (z *ℤ pos c +ℤ w *ℤ pos b) (p * k + q * d) (n * k + m * d)) (sym i.0)
      (subst (λ (k : ℕ). Stands (z *ℤ pos c +ℤ w *ℤ pos b) (p * c + q * k) (n * c + m * k)) (sym h.0)
      (sum_stands (z *ℤ pos c) (w *ℤ pos b) (p * c) (n * c) (q * b) (m * b) (by_whole z p n c h.1) (by_whole w q m b i.1))),
)

pub times_fraction : (x y : Number) (v w : Fraction) → IsFraction x v → IsFraction y w → IsFraction (x times y) (product v w)
times_fraction (number p n d) (number q m e) (z over b) (w over c) h i =
    (ap (λ (t : ℕ). t * e) h.0 ∙ ap (λ (t : ℕ). b * t) i.0, product_stands z w p n q m h.1 i.1)

pub minus_fraction : (x : Number) (v : Fraction) → IsFraction x v → IsFraction (minus x) (negated v)
minus_fraction (number p n d) (pos k over c) h = (h.0, negative k n p h.1)
minus_fraction (number p n d) (negsuc k over c) h = (h.0, h.1)

pub value_fraction : (x : Float) → T (finite x) → IsFraction (value_of x) (fraction_of x)
value_fraction nan i = absurd i
value_fraction (inf s) i = absurd i
value_fraction (fin true m e) i = (refl, negative (m * up e) 0 (m * up e) (omega arith))
value_fraction (fin false m e) i = (refl, omega arith)

pub whole_fraction : (a b : ℕ) → IsFraction (number a 0 b) (pos a over b)
whole_fraction a b = (refl, omega arith)

-- with other parts of the same difference
pub shifted_fraction : (p n a b d : ℕ) (v : Fraction) → p + b ≡ n + a → IsFraction (number a b d) v → IsFraction (number p n d) v
shifted_fraction p n a b d (z over c) e h = (h.0, shifted z a b p n e h.1)

-- ---- the distance
at_most_lem : (a c p n d q m e : ℕ) (g z w : ℤ) → 0 < d → 0 < e → 0 < c → Stands g a 0 → Stands z p n → Stands w q m
    → Over (a per c) (number p n d) (number q m e)
    → (z over d) at_most sum (w over e) (g over c)
at_most_lem a c p n d q m e g z w D E C i h l o = (
  mul-pos D (mul-pos E C),
  ordered (z *ℤ pos (e * c)) ((w *ℤ pos c +ℤ g *ℤ pos e) *ℤ pos d) (p * (e * c)) (n * (e * c)) ((q * c + a * e) * d) (m * c * d)
      (by_whole z p n (e * c) h)
      (shifted ((w *ℤ pos c +ℤ g *ℤ pos e) *ℤ pos d) ((q * c + a * e) * d) ((m * c + 0 * e) * d) ((q * c + a * e) * d) (m * c * d)
      (omega arith)
      (by_whole (w *ℤ pos c +ℤ g *ℤ pos e) (q * c + a * e) (m * c + 0 * e) d
      (sum_stands (w *ℤ pos c) (g *ℤ pos e) (q * c) (m * c) (a * e) (0 * e) (by_whole w q m c l) (by_whole g a 0 e i))))
      (omega arith),
)

pub within_fraction : (a c : ℕ) (x y : Number) (g v w : Fraction) → 0 < c → IsNumber x → IsNumber y → IsFraction (number a 0 c) g
    → IsFraction x v → IsFraction y w
    → Within (a per c) x y → Near g v w
within_fraction a c (number p n d) (number q m e) (g over c') (z over b) (w over f) C D E i h l o =
    subst (λ (k : ℕ). Near (g over k) (z over b) (w over f)) i.0
    (subst (λ (k : ℕ). Near (g over c) (z over k) (w over f)) h.0
    (subst (λ (k : ℕ). Near (g over c) (z over d) (w over k)) l.0
    (record {
      not_above = at_most_lem a c p n d q m e g z w D E C i.1 h.1 l.1 o.below;
      not_below = at_most_lem a c q m e p n d g w z E D C i.1 l.1 h.1 o.above;
    })))
