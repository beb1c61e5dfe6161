-- Lower bounds of exact numbers, computed as the upper ones are: of polynomials whose factors are not below 0, at numbers not below 0.
-- Assumes nothing.
use Rattle.rounding_error.proofs.Numbers.{◌less◌, Number, number, Size, ◌per◌, ◌plus◌, ◌times◌, ◌of◌, IsNumber, Under, zero_number, value_of}
use Rattle.rounding.proofs.Signs.{finite_no_nan}
use Rattle.rounding.proofs.Ordered.{le→order}
use Rattle.floats.proofs.Order.{le_of_not}
use Rattle.floats.proofs.Bools.{of_true}
use lib.Ieee.Scale.{finite}
use lib.Ieee.{up, down, le, lt, Float, nan, inf, fin, of_bits}
use mathlib.Core.Path.{◌≡◌, sym, ap, subst}
use mathlib.Core.Bool.{Bool, true, false, ◌&&◌, cond}
use mathlib.Core.List.{List, [], ◌∷◌}
use Prim.Native.Nat.{ℕ, zero, suc, ◌+◌, ◌-◌, ◌*◌, ◌/◌, ◌^◌, ◌≤◌, ◌<◌, zero-le}
use native.Mathlib.Nat.{le_refl, le_trans, mul-pos, mul-le-mul_left, mul-le-mul_right, le_of_mul-le-mul_right, mul_comm, one-mul, mul-one}
use native.Mathlib.Nat.{zero-mul, mul-zero, zero-add, add-zero, div-mul-le_self}
use native.Mathlib.Omega.{arith}
use lib.Dec.{T, leb, leb→le}
use lib.Pow.{pow_pos}
use lib.Ieee.Positive.{positive}
use lib.Ieee.Fits.{and_l, and_r}
use Rattle.floats.specs.Operations.{bits}
use Rattle.rounding_error.proofs.Distances.{sorted, four}
use Rattle.rounding_error.proofs.Polynomials as Poly
use Rattle.rounding_error.proofs.Polynomials.{Product, factor, product, sum_of, ◌equals◌}
use Rattle.error_terms.proofs.Monomials.{top, bottom, mono, added, alike, AllRanges, alike_upto, top_by, bottom_by, bottom_pos}
use Rattle.error_terms.proofs.Laws.{inverse_of, Reaches}
use Rattle.error_terms.proofs.Terms.{Shape, shape, Given, entry, larger, Extent, extent, Term, inverse_by, numbers_of, exact, normal_of}
use Rattle.error_terms.proofs.Terms.{plain_term, cancelled, Known, Lowest, AllKnown}
use Rattle.error_terms.proofs.Sound.{numbers_are, cancelled_sum, normal_is}

ruleset plain = (sorted, one-mul, mul-one, zero-mul, mul-zero, zero-add, add-zero)

-- 0 <= v
abbrev pub NotBelow : Number → Type 0
NotBelow (number p n d) = n ≤ p

pub positive_from : (x : Float) → T (positive x) → NotBelow (value_of x)
positive_from nan p = absurd p
positive_from (inf s) p = absurd p
positive_from (fin true m e) p = absurd p
positive_from (fin false m e) p = zero-le

pub times_not_below : (x y : Number) → NotBelow x → NotBelow y → NotBelow (x times y)
times_not_below (number p n d) (number q m e) h k = go (four n p m q h k)
  where
    go : n * q + p * m ≤ p * q + n * m → p * m + n * q ≤ p * q + n * m
    go u = omega (arith, u)

pub plus_not_below : (x y : Number) → NotBelow x → NotBelow y → NotBelow (x plus y)
plus_not_below (number p n d) (number q m e) h k = go (mul-le-mul_right e h) (mul-le-mul_right d k)
  where
    go : n * e ≤ p * e → m * d ≤ q * d → n * e + m * d ≤ p * e + q * d
    go u v = omega (arith, u, v)

-- of f64s in order
pub ordered_not_below : (x y : Float) → T (finite x) → T (finite y) → T (le x y) → NotBelow (value_of y less value_of x)
ordered_not_below nan y f g h = absurd f
ordered_not_below (inf s) y f g h = absurd f
ordered_not_below (fin s m e) nan f g h = absurd g
ordered_not_below (fin s m e) (inf t) f g h = absurd g
ordered_not_below (fin false m e) (fin false n d) f g h = go (m * up e) (down e) (n * up d) (down d)
    (le→order (fin false m e) (fin false n d) tt tt h)
  where
    go : (M E N D : ℕ) → M * D + 0 ≤ N * E + 0 → 0 * E + M * D ≤ N * E + 0 * D
    go M E N D u = omega (arith, u)
ordered_not_below (fin false m e) (fin true n d) f g h = go (m * up e) (down e) (n * up d) (down d)
    (le→order (fin false m e) (fin true n d) tt tt h)
  where
    go : (M E N D : ℕ) → M * D + N * E ≤ 0 + 0 → N * E + M * D ≤ 0 * E + 0 * D
    go M E N D u = omega (arith, u)
ordered_not_below (fin true m e) (fin false n d) f g h = go (m * up e) (down e) (n * up d) (down d)
  where
    go : (M E N D : ℕ) → 0 * E + 0 * D ≤ N * E + M * D
    go M E N D = omega arith
ordered_not_below (fin true m e) (fin true n d) f g h = go (m * up e) (down e) (n * up d) (down d)
    (le→order (fin true m e) (fin true n d) tt tt h)
  where
    go : (M E N D : ℕ) → 0 + N * E ≤ 0 + M * D → N * E + 0 * D ≤ 0 * E + M * D
    go M E N D u = omega (arith, u)

pub unordered_not_below : (x y : Float) → T (finite x) → T (finite y) → lt y x ≡ false → NotBelow (value_of y less value_of x)
unordered_not_below x y f g e = ordered_not_below x y f g (of_true _ (le_of_not x y (finite_no_nan x f) (finite_no_nan y g) e))

-- |v| <= b / d from both sides
pub under_both : (b d : ℕ) (v : Number) → NotBelow (number b 0 d less v) → NotBelow (number b 0 d plus v) → Under (1 of (b per d)) v
under_both b d (number p n e) h k = record { below = one h; above = two k }
  where
    one : 0 * e + p * d ≤ b * e + n * d → (p * 1 + 0 * e) * d ≤ (0 * e + n * 1) * d + 1 * b * (e * 1)
    one u = let x = simp plain at u in simp plain (omega (arith, x))

    two : 0 * e + n * d ≤ b * e + p * d → (0 * e + n * 1) * d ≤ (p * 1 + 0 * e) * d + 1 * b * (1 * e)
    two u = let x = simp plain at u in simp plain (omega (arith, x))

-- no entry is below 0
abbrev pub Signed : List Given → Type 0
Signed [] = Unit {0}
Signed (entry x v s low ∷ G) = NotBelow v × Signed G
Signed (larger i j ∷ G) = Signed G

-- ---- what a place is at least
abbrev pub low_extent : Given → Extent
low_extent (entry x v (shape k i p q) low) = extent low p q
low_extent (larger i j) = extent 0 [] []

abbrev pub inverse_low_by : ℕ → Shape → Extent
inverse_low_by zero s = extent 0 [] []
inverse_low_by (suc low) (shape k i p q) = extent (2 ^ 30 * 2 ^ 30 / suc i) q p

abbrev pub inverse_low : Given → Extent
inverse_low (entry x v s low) = inverse_low_by low s
inverse_low (larger i j) = extent 0 [] []

abbrev pub lows : List Given → ℕ → Extent
lows [] k = extent 0 [] []
lows (g ∷ G) zero = low_extent g
lows (g ∷ G) (suc zero) = inverse_low g
lows (g ∷ G) (suc (suc k)) = lows G k

abbrev pub times_low : Extent → Extent → Extent
times_low (extent i p q) (extent j p' q') = extent (i * j / 2 ^ 30) (added p p') (added q q')

abbrev pub product_low : List Given → List ℕ → Extent
product_low G [] = extent (2 ^ 30) [] []
product_low G (i ∷ l) = times_low (lows G i) (product_low G l)

-- a product of another unit counts as 0
abbrev pub part_low : List ℕ → List ℕ → ℕ → ℕ → ℕ → Extent → ℕ
part_low p q a b d (extent j p' q') = cond (alike (added p q') (added p' q)) ((a - b) * j / suc d) 0

abbrev pub floor_of : List Given → List ℕ → List ℕ → List Product → ℕ
floor_of G p q [] = 0
floor_of G p q (factor a b d l ∷ F) = part_low p q a b d (product_low G l) + floor_of G p q F

abbrev pub rising : List Product → Bool
rising [] = true
rising (factor a b d l ∷ F) = leb b a && rising F

-- ---- numbers
pub reaches_none : (n c : ℕ) (v : Number) → NotBelow v → Reaches 0 n c v
reaches_none n c (number p m e) h = go (mul-le-mul_right c h)
  where
    go : m * c ≤ p * c → 0 * n * e + m * c ≤ p * c
    go u = let x = simp plain at u in simp plain x

pub not_below : (j n c : ℕ) (v : Number) → 0 < c → Reaches j n c v → NotBelow v
not_below j n c (number p m e) C h = le_of_mul-le-mul_right (go h) C
  where
    go : j * n * e + m * c ≤ p * c → m * c ≤ p * c
    go u = omega arith

-- (X − Y)·(Z − W) >= A·B
both_above : (A Y X B W Z : ℕ) → A + Y ≤ X → B + W ≤ Z → A * B + (X * W + Y * Z) ≤ X * Z + Y * W
both_above A Y X B W Z h k = go (X - (A + Y)) (Z - (B + W)) (split h) (split k)
  where
    split : {a b : ℕ} → a ≤ b → b ≡ a + (b - a)
    split u = omega arith

    go : (s t : ℕ) → X ≡ A + Y + s → Z ≡ B + W + t → A * B + (X * W + Y * Z) ≤ X * Z + Y * W
    go s t e f =
        subst (λ (X : ℕ). A * B + (X * W + Y * Z) ≤ X * Z + Y * W) (sym e)
        (subst (λ (Z : ℕ). A * B + ((A + Y + s) * W + Y * Z) ≤ (A + Y + s) * Z + Y * W) (sym f) (simp sorted (omega arith)))

times_reaches : (i j J n1 d1 n2 d2 P : ℕ) (x y : Number) → 0 < P → J * P ≤ i * j → Reaches i n1 (d1 * P) x → Reaches j n2 (d2 * P) y
    → Reaches J (n1 * n2) (d1 * d2 * P) (x times y)
times_reaches i j J n1 d1 n2 d2 P (number q m e) (number r k f) PP u h g =
    le_of_mul-le-mul_right (go (mul-le-mul_right (n1 * n2 * (e * f)) u)
    (both_above (i * n1 * e) (m * (d1 * P)) (q * (d1 * P)) (j * n2 * f) (k * (d2 * P)) (r * (d2 * P)) h g)) PP
  where
    go : J * P * (n1 * n2 * (e * f)) ≤ i * j * (n1 * n2 * (e * f))
        → i * n1 * e * (j * n2 * f) + (q * (d1 * P) * (k * (d2 * P)) + m * (d1 * P) * (r * (d2 * P))) ≤ q * (d1 * P) *
        (r * (d2 * P)) + m * (d1 * P) * (k * (d2 * P))
        → (J * (n1 * n2) * (e * f) + (q * k + m * r) * (d1 * d2 * P)) * P ≤ (q * r + m * k) * (d1 * d2 * P) * P
    go s t = let x = simp sorted at s in let y = simp sorted at t in simp sorted (omega (arith, x, y))

-- times (a − b)/D
pub factor_reaches : (a b D j K n c : ℕ) (y : Number) → b ≤ a → K * D ≤ (a - b) * j → Reaches j n c y
    → Reaches K n c (number a b D times y)
factor_reaches a b D j K n c (number q m e) l u h = go (a - b) (split l) (mul-le-mul_right (n * e) u) (mul-le-mul_left (a - b) h)
  where
    split : b ≤ a → a ≡ b + (a - b)
    split v = omega arith

    go : (t : ℕ) → a ≡ b + t → K * D * (n * e) ≤ t * j * (n * e) → t * (j * n * e + m * c) ≤ t * (q * c)
        → K * n * (D * e) + (a * m + b * q) * c ≤ (a * q + b * m) * c
    go t f s w =
        subst (λ (a : ℕ). K * n * (D * e) + (a * m + b * q) * c ≤ (a * q + b * m) * c) (sym f)
        (let x = simp sorted at s in let y = simp sorted at w in simp sorted (omega (arith, x, y)))

pub plus_reaches : (K L n c : ℕ) (x y : Number) → Reaches K n c x → Reaches L n c y → Reaches (K + L) n c (x plus y)
plus_reaches K L n c (number q m e) (number r k f) h g = go (mul-le-mul_right f h) (mul-le-mul_right e g)
  where
    go : (K * n * e + m * c) * f ≤ q * c * f → (L * n * f + k * c) * e ≤ r * c * e
        → (K + L) * n * (e * f) + (m * f + k * e) * c ≤ (q * f + r * e) * c
    go s t = let x = simp sorted at s in let y = simp sorted at t in simp sorted (omega (arith, x, y))

pub equal_reaches : (K n c : ℕ) {x y : Number} → IsNumber x → x equals y → Reaches K n c x → Reaches K n c y
equal_reaches K n c {x = number q m e} {y = number r k f} E s h =
    le_of_mul-le-mul_right (go (mul-le-mul_right f h) (ap (λ (z : ℕ). z * c) s.same)) E
  where
    go : (K * n * e + m * c) * f ≤ q * c * f → (q * f + k * e) * c ≡ (r * e + m * f) * c → (K * n * f + k * c) * e ≤ r * c * e
    go u v = let x = simp sorted at u in let y = simp sorted at v in simp sorted (omega (arith, x, y))

-- in an equal unit
same_reaches : (K n' d' n d P : ℕ) (x : Number) → 0 < d' → n * d' ≤ n' * d → Reaches K n' (d' * P) x → Reaches K n (d * P) x
same_reaches K n' d' n d P (number q m e) D u h = le_of_mul-le-mul_right (go (mul-le-mul_right (K * e) u) (mul-le-mul_right d h)) D
  where
    go : n * d' * (K * e) ≤ n' * d * (K * e) → (K * n' * e + m * (d' * P)) * d ≤ q * (d' * P) * d
        → (K * n * e + m * (d * P)) * d' ≤ q * (d * P) * d'
    go s t = let x = simp sorted at s in let y = simp sorted at t in simp sorted (omega (arith, x, y))

abbrev pub ReachesBy : List Size → Extent → Number → Type 0
ReachesBy B (extent j p q) v = Reaches j (mono top B p * mono bottom B q) (mono bottom B p * mono top B q * 2 ^ 30) v

zero_from : NotBelow (value_of (bits 0))
unfolding of_bits
zero_from = le_refl _

module _ (B : List Size) (r : AllRanges 32 B) where
  zero_low : ReachesBy B (extent 0 [] []) (value_of (bits 0))
  zero_low = reaches_none (mono top B [] * mono bottom B []) (mono bottom B [] * mono top B [] * 2 ^ 30) (value_of (bits 0)) zero_from

  entry_low : (x : Float) (v : Number) (s : Shape) (low : ℕ) → Lowest B x v s low → NotBelow v
      → ReachesBy B (low_extent (entry x v s low)) v
  entry_low x v (shape k i p q) zero l n = reaches_none (mono top B p * mono bottom B q) (mono bottom B p * mono top B q * 2 ^ 30) v n
  entry_low x v (shape k i p q) (suc low) l n = l.1

  inverse_reaches : (n d P i J : ℕ) (v : Number) → 0 < P → 0 < d → J * suc i ≤ P * P → NotBelow v → Under (i of (n per (d * P))) v
      → Reaches J d (n * P) (inverse_of v)
  inverse_reaches n d P i J (number q m e) PP D u l h =
      le_of_mul-le-mul_right (go (q - m) (split l) (mul-le-mul_right (n * e) (le_trans (mul-le-mul_left J (step i)) u)) h.below) PP
    where
      step : (i : ℕ) → i ≤ suc i
      step i = omega arith

      split : m ≤ q → q ≡ m + (q - m)
      split v = omega arith

      go : (t : ℕ) → q ≡ m + t → J * i * (n * e) ≤ P * P * (n * e)
          → (q * 1 + 0 * e) * (d * P) ≤ (0 * e + m * 1) * (d * P) + i * n * (e * 1) → (J * d * t + 0 * (n * P)) * P ≤ e * (n * P) * P
      go t f s w = last s (mul-le-mul_left J (first
          (subst (λ (q : ℕ). (q * 1 + 0 * e) * (d * P) ≤ (0 * e + m * 1) * (d * P) + i * n * (e * 1)) f w)))
        where
          first : ((m + t) * 1 + 0 * e) * (d * P) ≤ (0 * e + m * 1) * (d * P) + i * n * (e * 1) → t * (d * P) ≤ i * n * e
          first a = let x = simp plain at a in simp plain (omega (arith, x))

          last : J * i * (n * e) ≤ P * P * (n * e) → J * (t * (d * P)) ≤ J * (i * n * e) → (J * d * t + 0 * (n * P)) * P ≤ e * (n * P) * P
          last a b = let x = simp plain at a in let y = simp plain at b in simp plain (omega (arith, x, y))

  inverse_low_lem : (x : Float) (v : Number) (s : Shape) (low : ℕ) → Known B x v s → NotBelow v
      → ReachesBy B (inverse_low_by low s) (inverse_by low v)
  inverse_low_lem x v (shape k i p q) zero h n = zero_low
  inverse_low_lem x v (shape k i p q) (suc low) h n =
      let J = 2 ^ 30 * 2 ^ 30 / suc i in
      subst (λ (a : ℕ). Reaches J a (mono bottom B q * mono top B p * 2 ^ 30) (inverse_of v)) (mul_comm (mono bottom B p) (mono top B q))
      (subst (λ (a : ℕ). Reaches J (mono bottom B p * mono top B q) (a * 2 ^ 30) (inverse_of v))
      (mul_comm (mono top B p) (mono bottom B q))
      (inverse_reaches (mono top B p * mono bottom B q) (mono bottom B p * mono top B q) (2 ^ 30) i J v (pow_pos 30)
      (bottom_pos 32 B r p q) (div-mul-le_self (2 ^ 30 * 2 ^ 30) (suc i)) n h.size))

  lows_are : (G : List Given) → AllKnown B G → Signed G → (i : ℕ) → ReachesBy B (lows G i) (numbers_of G i)
  lows_are [] h s i = zero_low
  lows_are (entry x v t low ∷ G) h s zero = entry_low x v t low h.0.1 s.0
  lows_are (entry x v t low ∷ G) h s (suc zero) = inverse_low_lem x v t low h.0.0 s.0
  lows_are (entry x v t low ∷ G) h s (suc (suc k)) = lows_are G h.1 s.1 k
  lows_are (larger a b ∷ G) h s zero = zero_low
  lows_are (larger a b ∷ G) h s (suc zero) = zero_low
  lows_are (larger a b ∷ G) h s (suc (suc k)) = lows_are G h.1 s k

  times_low_lem : (e f : Extent) (x y : Number) → ReachesBy B e x → ReachesBy B f y → ReachesBy B (times_low e f) (x times y)
  times_low_lem (extent i p q) (extent j p' q') x y h g =
      let J = i * j / 2 ^ 30 in
      let n1 = mono top B p * mono bottom B q in
      let d1 = mono bottom B p * mono top B q in
      let n2 = mono top B p' * mono bottom B q' in
      let d2 = mono bottom B p' * mono top B q' in
      subst (λ (n : ℕ). Reaches J n (mono bottom B (added p p') * mono top B (added q q') * 2 ^ 30) (x times y))
      (sym (top_by B p q p' q'))
      (subst (λ (d : ℕ). Reaches J (n1 * n2) (d * 2 ^ 30) (x times y)) (sym (bottom_by B p q p' q'))
      (times_reaches i j J n1 d1 n2 d2 (2 ^ 30) x y (pow_pos 30) (div-mul-le_self (i * j) (2 ^ 30)) h g))

  module _ (G : List Given) (h : AllKnown B G) (s : Signed G) where
    product_low_lem : (l : List ℕ) → ReachesBy B (product_low G l) (product (numbers_of G) l)
    product_low_lem [] = go (mono top B []) (mono bottom B []) (2 ^ 30)
      where
        go : (x y P : ℕ) → P * (x * y) * 1 + 0 * (y * x * P) ≤ 1 * (y * x * P)
        go x y P = simp plain (le_refl _)
    product_low_lem (i ∷ l) = times_low_lem (lows G i) (product_low G l) (numbers_of G i) (product (numbers_of G) l) (lows_are G h s i)
        (product_low_lem l)

    part_low_lem : (p q : List ℕ) (a b d : ℕ) (e : Extent) (y : Number) → b ≤ a → ReachesBy B e y
        → ReachesBy B (extent (part_low p q a b d e) p q) (number a b (suc d) times y)
    part_low_lem p q a b d (extent j p' q') y l h = go (alike (added p q') (added p' q)) (λ t. alike_upto B p q p' q' t)
      where
        n1 : ℕ
        n1 = mono top B p' * mono bottom B q'

        d1 : ℕ
        d1 = mono bottom B p' * mono top B q'

        there : Reaches ((a - b) * j / suc d) n1 (d1 * 2 ^ 30) (number a b (suc d) times y)
        there = factor_reaches a b (suc d) j ((a - b) * j / suc d) n1 (d1 * 2 ^ 30) y l (div-mul-le_self ((a - b) * j) (suc d)) h

        go : (c : Bool) → (T c → (mono top B p * mono bottom B q) * d1 ≤ n1 * (mono bottom B p * mono top B q))
            → ReachesBy B (extent (cond c ((a - b) * j / suc d) 0) p q) (number a b (suc d) times y)
        go true f = same_reaches ((a - b) * j / suc d) n1 d1 (mono top B p * mono bottom B q) (mono bottom B p * mono top B q) (2 ^ 30)
            (number a b (suc d) times y) (bottom_pos 32 B r p' q') (f tt) there
        go false f = reaches_none (mono top B p * mono bottom B q) (mono bottom B p * mono top B q * 2 ^ 30) (number a b (suc d) times y)
            (not_below ((a - b) * j / suc d) n1 (d1 * 2 ^ 30) (number a b (suc d) times y)
            (mul-pos (bottom_pos 32 B r p' q') (pow_pos 30)) there)

    pub sum_low : (p q : List ℕ) (F : List Product) → T (rising F) → ReachesBy B (extent (floor_of G p q F) p q) (sum_of (numbers_of G) F)
    sum_low p q [] t = reaches_none (mono top B p * mono bottom B q) (mono bottom B p * mono top B q * 2 ^ 30) zero_number zero-le
    sum_low p q (factor a b d l ∷ F) t =
        plus_reaches (part_low p q a b d (product_low G l)) (floor_of G p q F) (mono top B p * mono bottom B q)
        (mono bottom B p * mono top B q * 2 ^ 30)
        (number a b (suc d) times product (numbers_of G) l) (sum_of (numbers_of G) F)
        (part_low_lem p q a b d (product_low G l) (product (numbers_of G) l) (leb→le b a (and_l (leb b a) (rising F) t))
        (product_low_lem l))
        (sum_low p q F (and_r (leb b a) (rising F) t))

    -- what the exact number of a term is at least, in parts of the unit
    pub exact_reaches : (t : Term) (p q : List ℕ) → T (plain_term t) → T (rising (cancelled G (normal_of G t)))
        → ReachesBy B (extent (floor_of G p q (cancelled G (normal_of G t))) p q) (exact G t)
    exact_reaches t p q e u =
        let F = cancelled G (normal_of G t) in
        let x = numbers_of G in
        let is = numbers_are B r G h in
        equal_reaches (floor_of G p q F) (mono top B p * mono bottom B q) (mono bottom B p * mono top B q * 2 ^ 30) (Poly.sum_is x is F)
        (Poly.trans (Poly.sum_is x is (normal_of G t)) (cancelled_sum B r G h (normal_of G t)) (normal_is B r G h t e)) (sum_low p q F u)
