-- The rounded half of the rounded sum of two f64s lies between them, and of an f64 and itself is that f64, bit for bit. Assumes nothing.
use mathlib.Core.Path.{◌≡◌, refl, sym, ap, ◌∙◌, subst}
use mathlib.Core.Bool.{Bool, true, false, beq}
use Prim.Native.Nat.{ℕ, ◌+◌, ◌*◌, ◌^◌, ◌≤◌, ◌<◌}
use native.Mathlib.Nat.{lt_of_le_of_lt, mul-one, mul_comm, mul_assoc, mul_left_comm, mul_right_comm, mul-le-mul_right, mul-pos, zero-lt-suc}
use native.Mathlib.Nat.{mul-lt-mul_of_pos_right}
use native.Mathlib.Omega.{arith}
use lib.Dec.{T, lit≤}
use lib.IntN.{ℤ, negsuc}
use lib.Pow.{pow-add, pow-lt}
use lib.Ieee.{Float, nan, inf, fin, binary64, up, down, round, sum, add, fits, lt, eq, le, of_bits}
use lib.Ieee.Bits.{is_true}
use lib.Ieee.Exact.{HasValue}
use lib.Ieee.Fits.{mul-fits, down_pos}
use lib.Ieee.Scale.{finite, round_same}
use lib.Ieee.Positive.{num, den, den_pos}
use Rattle.floats.specs.Operations.{◌⊕◌, ◌⊗◌}
use Rattle.floats.specs.Constants.{half}
use Rattle.floats.proofs.Exact.{round_value}
use Rattle.floats.proofs.Order.{not_equal_sym, below_of_le}
use Rattle.rounding.specs.Sizes.{Below, InOrder}
use Rattle.rounding.proofs.Signs.{minus, plus_unlike}
use Rattle.rounding.proofs.Signed.{over, under, over_mul, under_mul, Leq, leq_trans, leq_same, scale, Adds}
use Rattle.rounding.proofs.Exact.{Exact, exact_value, fits_exact}
use Rattle.rounding.proofs.Ordered.{order→le, le→order}
use Rattle.rounding.proofs.Rounding.{round_over, round_under}
use Rattle.rounding.proofs.Operations.{mul_is, add_is}
use Rattle.rounding.proofs.Sizes.{half_below, add_below, mul_below, weaker}
use Rattle.rounding.proofs.Monotone.{between_most}

-- ---- twice the smaller, the sum, twice the larger
twice_less : (s : Bool) (x : ℕ) (t : Bool) (y : ℕ) (u : Bool) (z : ℕ) → Leq s x t y → Adds s x t y u z → Leq s (x * 2) u z
twice_less s x t y u z h a = rw (over_mul s x 2, under_mul s x 2)
    (plain (over s x) (under s x) (over t y) (under t y) (over u z) (under u z) h a)
  where
    plain : (p p' q q' r r' : ℕ) → p + q' ≤ q + p' → p + q + r' ≡ p' + q' + r → p * 2 + r' ≤ r + p' * 2
    plain p p' q q' r r' h a = omega arith

twice_more : (s : Bool) (x : ℕ) (t : Bool) (y : ℕ) (u : Bool) (z : ℕ) → Leq s x t y → Adds s x t y u z → Leq u z t (y * 2)
twice_more s x t y u z h a = rw (over_mul t y 2, under_mul t y 2)
    (plain (over s x) (under s x) (over t y) (under t y) (over u z) (under u z) h a)
  where
    plain : (p p' q q' r r' : ℕ) → p + q' ≤ q + p' → p + q + r' ≡ p' + q' + r → r + q' * 2 ≤ q * 2 + r'
    plain p p' q q' r r' h a = omega arith

-- ---- room for the double
room : (n d p j q : ℕ) → 0 < d → j + p < q → n * 1 ≤ 2 ^ p * d → n * 2 ^ j < 2 ^ q * d
room n d p j q D l h =
    lt_of_le_of_lt (mul-le-mul_right (2 ^ j) (rw (mul-one n) at h))
    (rw (mul_right_comm (2 ^ p) d (2 ^ j), mul_comm (2 ^ p) (2 ^ j), ← (pow-add 2 j p)) (mul-lt-mul_of_pos_right (pow-lt l) D))

exact_itself : (x : Float) → T (fits binary64 x) → Below 1000 x → Exact binary64 (num x) (den x)
exact_itself x t h = subst (λ (z : ℕ). Exact binary64 z (den x)) (mul-one (num x))
    (fits_exact binary64 x 0 t h.finite (room (num x) (den x) 1000 0 1024 (den_pos x) (lit≤ tt) h.size))

exact_double : (x : Float) → T (fits binary64 x) → Below 1000 x → Exact binary64 (num x * 2) (den x)
exact_double x t h = fits_exact binary64 x 1 t h.finite (room (num x) (den x) 1000 1 1024 (den_pos x) (lit≤ tt) h.size)

-- ---- the half
half_is : half ≡ fin false 1 (negsuc 0)
unfolding of_bits
half_is = refl

halved : (x : Float) → T (finite x) → half ⊗ x ≡ round binary64 (minus x) (num x * 1) (den x * 2)
halved x i =
    rw half_is
    (mul_is binary64 (fin false 1 (negsuc 0)) x tt i
    ∙ ap (λ (s : Bool). round binary64 s (1 * num x) (2 * den x)) (plus_unlike (minus x))
    ∙ ap (λ (n : ℕ). round binary64 (minus x) n (2 * den x)) (mul_comm 1 (num x))
    ∙ ap (λ (n : ℕ). round binary64 (minus x) (num x * 1) n) (mul_comm 2 (den x)))

arrange : (n d e : ℕ) → n * 2 * (d * e) ≡ n * e * 2 * d
arrange n d e = simp (mul_assoc, mul_comm, mul_left_comm)

module _ (p : ℕ) (l : p ≤ 1000) (a b : Float) (w : InOrder p a b) where
  ha : Below 1000 a
  ha = weaker a p 1000 l w.lower_below

  hb : Below 1000 b
  hb = weaker b p 1000 l w.upper_below

  sum_below : Below 1001 (a ⊕ b)
  sum_below = add_below a b 1000 (lit≤ tt) ha hb

  half_sum_below : Below 1001 (half ⊗ (a ⊕ b))
  half_sum_below = mul_below half (a ⊕ b) 0 1001 (lit≤ tt) half_below sum_below

  in_order : Leq (minus a) (num a * den b) (minus b) (num b * den a)
  in_order = le→order a b ha.finite hb.finite w.ordered

  sum_over : Leq (minus a) (num a * 2 * den (a ⊕ b)) (minus (a ⊕ b)) (num (a ⊕ b) * den a)
  sum_over =
      let s = add_is binary64 a b ha.finite hb.finite in
      round_over binary64 (minus a) (num a * 2) (den a) s.sign s.size (den a * den b) (a ⊕ b) s.is sum_below.finite
      (mul-pos (den_pos a) (den_pos b)) (den_pos a) (exact_double a w.lower_f64 ha)
      (leq_trans (minus a) (num a * 2 * (den a * den b)) (minus a) (num a * den b * 2 * den a) s.sign (s.size * den a)
      (leq_same (minus a) (num a * 2 * (den a * den b)) (num a * den b * 2 * den a) (arrange (num a) (den a) (den b)))
      (scale (minus a) (num a * den b * 2) s.sign s.size (den a)
      (twice_less (minus a) (num a * den b) (minus b) (num b * den a) s.sign s.size in_order s.adds)))

  pub half_sum_over : T (le a (half ⊗ (a ⊕ b)))
  half_sum_over =
      let x = a ⊕ b in
      let m = half ⊗ (a ⊕ b) in
      order→le a m ha.finite half_sum_below.finite
      (round_over binary64 (minus a) (num a) (den a) (minus x) (num x * 1) (den x * 2) m (halved x sum_below.finite)
      half_sum_below.finite (mul-pos (den_pos x) (zero-lt-suc 1)) (den_pos a) (exact_itself a w.lower_f64 ha)
      (leq_trans (minus a) (num a * (den x * 2)) (minus a) (num a * 2 * den x) (minus x) (num x * 1 * den a)
      (leq_same (minus a) (num a * (den x * 2)) (num a * 2 * den x)
      (ap (λ (z : ℕ). num a * z) (mul_comm (den x) 2) ∙ sym (mul_assoc (num a) 2 (den x))))
      (subst (λ (z : ℕ). Leq (minus a) (num a * 2 * den x) (minus x) (z * den a)) (sym (mul-one (num x))) sum_over)))

  sum_under : Leq (minus (a ⊕ b)) (num (a ⊕ b) * den b) (minus b) (num b * 2 * den (a ⊕ b))
  sum_under =
      let s = add_is binary64 a b ha.finite hb.finite in
      round_under binary64 (minus b) (num b * 2) (den b) s.sign s.size (den a * den b) (a ⊕ b) s.is sum_below.finite
      (mul-pos (den_pos a) (den_pos b)) (den_pos b) (exact_double b w.upper_f64 hb)
      (leq_trans s.sign (s.size * den b) (minus b) (num b * den a * 2 * den b) (minus b) (num b * 2 * (den a * den b))
      (scale s.sign s.size (minus b) (num b * den a * 2) (den b)
      (twice_more (minus a) (num a * den b) (minus b) (num b * den a) s.sign s.size in_order s.adds))
      (leq_same (minus b) (num b * den a * 2 * den b) (num b * 2 * (den a * den b))
      (sym (arrange (num b) (den b) (den a)) ∙ ap (λ (z : ℕ). num b * 2 * z) (mul_comm (den b) (den a)))))

  pub half_sum_under : T (le (half ⊗ (a ⊕ b)) b)
  half_sum_under =
      let x = a ⊕ b in
      let m = half ⊗ (a ⊕ b) in
      order→le m b half_sum_below.finite hb.finite
      (round_under binary64 (minus b) (num b) (den b) (minus x) (num x * 1) (den x * 2) m (halved x sum_below.finite)
      half_sum_below.finite (mul-pos (den_pos x) (zero-lt-suc 1)) (den_pos b) (exact_itself b w.upper_f64 hb)
      (leq_trans (minus x) (num x * 1 * den b) (minus b) (num b * 2 * den x) (minus b) (num b * (den x * 2))
      (subst (λ (z : ℕ). Leq (minus x) (z * den b) (minus b) (num b * 2 * den x)) (sym (mul-one (num x))) sum_under)
      (leq_same (minus b) (num b * 2 * den x) (num b * (den x * 2))
      (mul_assoc (num b) 2 (den x) ∙ ap (λ (z : ℕ). num b * z) (mul_comm 2 (den x))))))

  -- so its bound is theirs
  half_sum_most : Below p (half ⊗ (a ⊕ b))
  half_sum_most = between_most a (half ⊗ (a ⊕ b)) b (2 ^ p) 1 half_sum_below.finite half_sum_over half_sum_under w.lower_below
      w.upper_below

  pub left_half : InOrder p a (half ⊗ (a ⊕ b))
  left_half =
      record {
        lower_f64 = w.lower_f64;
        upper_f64 = mul-fits binary64 half (a ⊕ b);
        lower_below = w.lower_below;
        upper_below = half_sum_most;
        ordered = half_sum_over;
      }

  pub right_half_lem : InOrder p (half ⊗ (a ⊕ b)) b
  right_half_lem =
      record {
        lower_f64 = mul-fits binary64 half (a ⊕ b);
        upper_f64 = w.upper_f64;
        lower_below = half_sum_most;
        upper_below = w.upper_below;
        ordered = half_sum_under;
      }

  -- strictly between them, where it is neither
  pub half_sum_between : eq (half ⊗ (a ⊕ b)) a ≡ false → eq (half ⊗ (a ⊕ b)) b ≡ false
      → (lt a (half ⊗ (a ⊕ b)) ≡ true) × (lt (half ⊗ (a ⊕ b)) b ≡ true)
  half_sum_between q r =
      let m = half ⊗ (a ⊕ b) in
      (below_of_le a m (is_true (le a m) half_sum_over) (not_equal_sym m a q), below_of_le m b (is_true (le m b) half_sum_under) r)

-- ---- half the sum of a number and itself
twice : (a d : ℕ) → (a * d + a * d) * d ≡ a * 2 * (d * d)
twice a d = ap (λ (z : ℕ). z * d) (doubled (a * d)) ∙ sym (arrange a d d)
  where
    doubled : (n : ℕ) → n + n ≡ n * 2
    doubled n = omega arith

same_sign : (s : Bool) → beq s s ≡ true
same_sign true = refl
same_sign false = refl

module _ (s : Bool) (m : ℕ) (e : ℤ) (t : T (fits binary64 (fin s m e))) where
  double_value : Below 1000 (fin s m e) → HasValue (fin s m e ⊕ fin s m e) s (m * up e * 2) (down e)
  unfolding add sum
  double_value h =
      rw (
        same_sign s,
        round_same binary64 s (m * up e * down e + m * up e * down e) (down e * down e) (m * up e * 2) (down e)
            (mul-pos (down_pos e) (down_pos e)) (down_pos e) (twice (m * up e) (down e)),
      )
      (exact_value binary64 s (m * up e * 2) (down e) (exact_double (fin s m e) t h))

  half_value : (y : Float) → HasValue y s (m * up e * 2) (down e) → half ⊗ y ≡ fin s m e
  half_value nan v = absurd v
  half_value (inf u) v = absurd v
  half_value (fin u n d) v =
      halved (fin u n d) tt
      ∙ ap (λ (b : Bool). round binary64 b (n * up d * 1) (down d * 2)) v.0
      ∙ round_value s m e (n * up d * 1) (down d * 2) t (mul-pos (down_pos d) (zero-lt-suc 1))
      (ap (λ (z : ℕ). z * down e) (mul-one (n * up d)) ∙ v.1 ∙ mul_assoc (m * up e) 2 (down d)
      ∙ ap (λ (z : ℕ). m * up e * z) (mul_comm 2 (down d)))

pub half_of_double : (x : Float) → T (fits binary64 x) → Below 1000 x → half ⊗ (x ⊕ x) ≡ x
half_of_double nan t h = absurd h.finite
half_of_double (inf s) t h = absurd h.finite
half_of_double (fin s m e) t h = half_value s m e t (fin s m e ⊕ fin s m e) (double_value s m e t h)
