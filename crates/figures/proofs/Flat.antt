-- An outline whose points all lie on the root has no area: products with a zero, and sums of zeros, are zeros. Assumes nothing.
use mathlib.Core.Path.{◌≡◌, refl, sym, ap, subst, ◌∙◌}
use mathlib.Core.Bool.{Bool, true, false, cond, ◌&&◌, beq}
use mathlib.Core.List.{List}
use Prim.Native.Nat.{ℕ, zero, suc, ◌+◌, ◌-◌, ◌*◌, ◌<◌, ◌≤◌, ◌%◌, ◌^◌}
use native.Mathlib.Nat.{zero-mul, mul-zero, mul-pos, mod-lt, zero-lt-suc}
use native.Mathlib.Omega.{arith}
use borrow.Author.Tests.{eqb-true}
use lib.Dec.{ltb}
use lib.IntN.{ℤ, pos}
use lib.Pow.{pow_pos}
use lib.Ieee.{Float, nan, inf, fin, binary64, prec, low, emax, up, down, level, lt, eq, le, neg, sum, add, sub, mul, round, of_bits}
use lib.Ieee.Fits.{up_pos, down_pos}
use lib.Ieee.Exact.{HasValue, round_exact}
use Rattle.floats.specs.Operations.{◌⊕◌, ◌⊖◌, ◌⊗◌, bits}
use Rattle.floats.specs.Floats.{abs_of}
use Rattle.floats.proofs.Bools.{no}
use Rattle.refusals.proofs.Accepted.{both_true}
use Rattle.planforms.specs.Planforms.{x_at, height_at, pair_count}
use Rattle.segments.specs.Segments.{next}
use Rattle.limits.specs.Limits.{length_within}
use Rattle.outlines.specs.Outlines.{edge_at, edge_term, sum_of_terms, twice_area}

-- ---- a zero of either sign, and a number that is finite

abbrev pub Zero : Float → Type 0
Zero nan = ⊥
Zero (inf s) = ⊥
Zero (fin s m e) = m ≡ 0

abbrev pub Finite : Float → Type 0
Finite nan = ⊥
Finite (inf s) = ⊥
Finite (fin s m e) = Unit {0}

no_factor : (a b : ℕ) → 0 < b → a * b ≡ 0 → a ≡ 0
no_factor zero b p h = refl
no_factor (suc a) b p h = absurd (let q = mul-pos (zero-lt-suc a) p in let z : ⊥ = omega arith in z)

pub zero_of : (x : Float) → eq x (bits 0) ≡ true → Zero x
unfolding eq of_bits
zero_of nan h = no (sym h)
zero_of (inf s) h = no (sym h)
zero_of (fin s m e) h =
    let z : m * up e * 1 ≡ 0 * 1 * down e = eqb-true (m * up e * 1) (0 * 1 * down e) (both_true _ _ h).0 in
    no_factor m (up e) (up_pos e) (let d = zero-mul (down e) in omega arith)

pub zero_is : (x : Float) → Zero x → eq x (bits 0) ≡ true
unfolding eq of_bits
zero_is nan h = absurd h
zero_is (inf s) h = absurd h
zero_is (fin s m e) h =
    ap (λ (k : ℕ). level s (k * up e * 1) false (0 * 1 * down e)) h
    ∙ ap (λ (k : ℕ). level s (k * 1) false (0 * 1 * down e)) (zero-mul (up e))
    ∙ ap (λ (k : ℕ). level s 0 false k) (zero-mul (down e)) ∙ both s
  where
    both : (s : Bool) → level s 0 false 0 ≡ true
    both true = refl
    both false = refl

pub zero_zero : Zero (bits 0)
unfolding of_bits
zero_zero = refl

zero_value : (x : Float) (s : Bool) (den : ℕ) → 0 < den → HasValue x s 0 den → Zero x
zero_value nan s den p h = h
zero_value (inf t) s den p h = h
zero_value (fin t m e) s den p h = no_factor m (up e) (up_pos e) (no_factor (m * up e) den p (h.1 ∙ zero-mul (down e)))

zero_round : (s : Bool) (num den : ℕ) → 0 < den → num ≡ 0 → Zero (round binary64 s num den)
zero_round s num den p h =
    subst (λ (n : ℕ). Zero (round binary64 s n den)) (sym h)
    (zero_value (round binary64 s 0 den) s den p
    (round_exact binary64 s 0 den 0 0 p (pow_pos (prec binary64)) (pow_pos (low binary64 + suc (emax binary64)))
    (zero-mul (2 ^ low binary64) ∙ sym (zero-mul den))))

zero_product : (x y : Float) → Finite x → Zero y → Zero (x ⊗ y)
unfolding mul
zero_product nan y f z = absurd f
zero_product (inf s) y f z = absurd f
zero_product (fin s m e) nan f z = absurd z
zero_product (fin s m e) (inf t) f z = absurd z
zero_product (fin s m e) (fin t n d) f z =
    zero_round _ (m * up e * (n * up d)) (down e * down d) (mul-pos (down_pos e) (down_pos d))
    (ap (λ (k : ℕ). m * up e * (k * up d)) z ∙ ap (λ (k : ℕ). m * up e * k) (zero-mul (up d)) ∙ mul-zero (m * up e))

zero_sum : (x y : Float) → Zero x → Zero y → Zero (x ⊕ y)
unfolding add sum
zero_sum nan y p q = absurd p
zero_sum (inf s) y p q = absurd p
zero_sum (fin s m e) nan p q = absurd q
zero_sum (fin s m e) (inf t) p q = absurd q
zero_sum (fin s m e) (fin t n d) p q =
    go (m * up e * down d) (n * up d * down e) (down e * down d) (none m (up e) (down d) p) (none n (up d) (down e) q)
    (mul-pos (down_pos e) (down_pos d)) (beq s t) (ltb (m * up e * down d) (n * up d * down e))
  where
    none : (k a b : ℕ) → k ≡ 0 → k * a * b ≡ 0
    none k a b h = ap (λ (i : ℕ). i * a * b) h ∙ ap (λ (i : ℕ). i * b) (zero-mul a) ∙ zero-mul b

    go : (a b c : ℕ) → a ≡ 0 → b ≡ 0 → 0 < c → (same less : Bool)
        → Zero (cond same (round binary64 s (a + b) c) (cond less (round binary64 t (b - a) c) (round binary64 (s && ltb b a) (a - b) c)))
    go a b c x y l true less = zero_round s (a + b) c l (omega arith)
    go a b c x y l false true = zero_round t (b - a) c l (omega arith)
    go a b c x y l false false = zero_round _ (a - b) c l (omega arith)

zero_neg : (x : Float) → Zero x → Zero (neg x)
unfolding neg
zero_neg nan h = h
zero_neg (inf s) h = h
zero_neg (fin s m e) h = h

zero_difference : (x y : Float) → Zero x → Zero y → Zero (x ⊖ y)
unfolding sub
zero_difference x y p q = zero_sum x (neg y) p (zero_neg y q)

-- ---- an outline

-- a length within its limits is finite
pub within_finite : (x : Float) → length_within true true x ≡ true → Finite x
unfolding length_within eq le lt abs_of of_bits
within_finite nan h = no (sym h)
within_finite (inf s) h = no (sym h)
within_finite (fin s m e) h = tt

module _ (points : List Float) (x : (k : ℕ) → k < pair_count points → Finite (x_at points k))
    (y : (k : ℕ) → k < pair_count points → Zero (height_at points k)) where
  term_zero : (i : ℕ) → i < pair_count points → Zero (edge_term (edge_at points i))
  term_zero i l =
      let n = pair_count points in
      let j = next n i in
      let m : j < n = mod-lt (i + 1) (let z : 0 < n = omega arith in z) in
      zero_difference (x_at points i ⊗ height_at points j) (x_at points j ⊗ height_at points i)
      (zero_product (x_at points i) (height_at points j) (x i l) (y j m))
      (zero_product (x_at points j) (height_at points i) (x j m) (y i l))

  sum_zero : (i : ℕ) → i ≤ pair_count points → Zero (sum_of_terms points i)
  unfolding sum_of_terms
  sum_zero zero l = zero_zero
  sum_zero (suc i) l =
      zero_sum (sum_of_terms points i) (edge_term (edge_at points i)) (sum_zero i (omega arith)) (term_zero i (omega arith))

  pub no_area : eq (twice_area points) (bits 0) ≡ true
  no_area = zero_is (twice_area points) (sum_zero (pair_count points) (omega arith))
