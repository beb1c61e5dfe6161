-- The angle of document 02, Paper 6, is at most 2^13, and so finite, where r and c are positive and r/c is at most 2^500. Assumes nothing.
use mathlib.Core.Path.{◌≡◌, sym, ap, subst, ◌∙◌}
use mathlib.Core.Bool.{Bool, true, false, not}
use mathlib.Core.List.{[], ◌∷◌}
use Prim.Native.Nat.{ℕ, zero, suc, ◌+◌, ◌*◌, ◌^◌, ◌≤◌, ◌<◌}
use native.Mathlib.Nat.{le_trans, le_of_eq, one-mul, mul-one, two-mul, mul_assoc, mul_right_comm, mul-mul-mul_comm}
use native.Mathlib.Nat.{mul-le-mul, mul-le-mul_left, mul-le-mul_right, two-pow-succ}
use native.Mathlib.Omega.{arith}
use lib.Dec.{T, leb, leb→le, nleb→lt, lit≤}
use lib.IntN.{pos}
use lib.Pow.{pow-add}
use lib.Ieee.{Float, fin, binary64, fits, of_bits, of_int, round}
use lib.Ieee.Scale.{finite}
use lib.Ieee.Fits.{add-fits}
use lib.Ieee.Positive.{positive, positive-finite, num, den}
use Rattle.floats.specs.Operations.{◌⊕◌, ◌⊗◌, ◌⊘◌}
use Rattle.floats.specs.Constants.{one}
use Rattle.root.specs.Root.{root_of}
use Rattle.root.proofs.Nearest.{root_positive}
use Rattle.rounding.specs.Sizes.{AtLeast, Below, Above}
use Rattle.rounding.proofs.Signs.{minus, positive_plus}
use Rattle.rounding.proofs.Exact.{pow_exact}
use Rattle.rounding.proofs.Operations.{mul_least, div_most}
use Rattle.rounding.proofs.Sizes.{weaker, mul_below, div_below, add_below, add_above, add_plus, above_num, positive_of}
use Rattle.rounding.proofs.Roots.{root_below, power_fits}
use Rattle.rounding.proofs.Monotone.{positive_num}
use Rattle.rounding.proofs.Terms.{Term, given, ◌less◌, ◌times◌, ◌over◌, AllAbove, within}
use Rattle.fillets.specs.Angles.{eight, twenty_one, halved, eighth, angle_divisors, angle_series, angle_of}
use Rattle.rounding.proofs.LeastRoots.{root_least}
use Rattle.fillet_sizes.proofs.Sums.{one_below, one_above, one_minus, not_negative, mul_minus, div_minus, one_plus_least}
use Rattle.fillet_sizes.proofs.Sums.{one_plus_one}

-- ---- one halving of a tangent t up to 2^500: t/(1 + √(1 + t·t))
module _ (t : Float) (b : Below 500 t) (s : minus t ≡ false) where
  square : Below 1000 (t ⊗ t)
  square = mul_below t t 500 500 (lit≤ tt) b b

  square_minus : minus (t ⊗ t) ≡ false
  square_minus = mul_minus t t b.finite b.finite s s

  inside : Below 1001 (one ⊕ t ⊗ t)
  inside = add_below one (t ⊗ t) 1000 (lit≤ tt) (weaker one 0 1000 (lit≤ tt) one_below) square

  inside_above : Above 0 (one ⊕ t ⊗ t)
  inside_above = add_above one (t ⊗ t) 0 (lit≤ tt) one_minus one_above square.finite (not_negative (t ⊗ t) square.finite square_minus)
      inside.finite

  inside_minus : minus (one ⊕ t ⊗ t) ≡ false
  inside_minus = add_plus one (t ⊗ t) 0 one_minus one_above square.finite (not_negative (t ⊗ t) square.finite square_minus)
      inside.finite

  inside_positive : T (positive (one ⊕ t ⊗ t))
  inside_positive = positive_of (one ⊕ t ⊗ t) 0 inside_minus inside_above

  abbrev Root : Float
  Root = root_of (one ⊕ t ⊗ t)

  root : Below 501 Root
  root =
      root_below (one ⊕ t ⊗ t) 501 (lit≤ tt) (add-fits binary64 one (t ⊗ t)) (not_negative (one ⊕ t ⊗ t) inside.finite inside_minus)
      (weaker (one ⊕ t ⊗ t) 1001 1002 (lit≤ tt) inside)

  root_minus : minus Root ≡ false
  root_minus = positive_plus Root (root_positive (one ⊕ t ⊗ t) inside_positive (add-fits binary64 one (t ⊗ t)))

  -- a power of two that t is not below is no larger than the root
  root_over : (p : ℕ) → p ≤ 500 → T (fits binary64 (fin false 1 (pos p))) → AtLeast (2 ^ (p + p)) 1 (one ⊕ t ⊗ t) → AtLeast (2 ^ p) 1 Root
  root_over p l f h =
      subst (λ (k : ℕ). AtLeast k 1 Root) (one-mul (2 ^ p))
      (root_least (one ⊕ t ⊗ t) (fin false 1 (pos p)) inside_positive (add-fits binary64 one (t ⊗ t)) tt f
      (rw (one-mul (2 ^ p), ← pow-add 2 p p) h.size))

  root_one : AtLeast 1 1 Root
  unfolding fits
  root_one = root_over 0 (lit≤ tt) tt inside_above

  divisor : Below 502 (one ⊕ Root)
  divisor = add_below one Root 501 (lit≤ tt) (weaker one 0 501 (lit≤ tt) one_below) root

  divisor_two : AtLeast 2 1 (one ⊕ Root)
  divisor_two = one_plus_one Root (pow_exact binary64 1 (lit≤ tt)) root_minus root_one divisor.finite

  divisor_above : Above 0 (one ⊕ Root)
  divisor_above = add_above one Root 0 (lit≤ tt) one_minus one_above root.finite (not_negative Root root.finite root_minus)
      divisor.finite

  divisor_minus : minus (one ⊕ Root) ≡ false
  divisor_minus = add_plus one Root 0 one_minus one_above root.finite (not_negative Root root.finite root_minus) divisor.finite

  halved_minus : minus (halved t) ≡ false
  halved_minus = div_minus t (one ⊕ Root) b.finite divisor.finite (above_num (one ⊕ Root) 0 divisor_above) s divisor_minus

  halved_below : (p : ℕ) → p ≤ 500 → Below p t → Below p (halved t)
  halved_below p l h = subst (λ (k : ℕ). Below k (halved t)) (plus_none p) (div_below t (one ⊕ Root) p 0 (room p l) h divisor_above)
    where
      plus_none : (p : ℕ) → p + 0 ≡ p
      plus_none p = omega arith

      room : (p : ℕ) → p ≤ 500 → p + 0 ≤ 1023
      room p l = omega arith

  -- of a tangent up to 2 a halving leaves at most 1
  halved_to_one : Below 1 t → Below 0 (halved t)
  halved_to_one h =
      div_most binary64 t (one ⊕ Root) 1 1 (lit≤ tt) (pow_exact binary64 0 (lit≤ tt)) b.finite divisor.finite
      (above_num (one ⊕ Root) 0 divisor_above)
      (plain (num t) (den t) (num (one ⊕ Root)) (den (one ⊕ Root)) h.size divisor_two.size)
    where
      plain : (n d m e : ℕ) → n * 1 ≤ 2 * d → 2 * e ≤ m * 1 → n * e * 1 ≤ 1 * (m * d)
      plain n d m e h k =
          rw (mul-one (n * e), one-mul (m * d))
          (le_trans (mul-le-mul_right e (rw (mul-one n) at h))
          (le_trans (le_of_eq (mul_right_comm 2 d e)) (mul-le-mul_right d (rw (mul-one m) at k))))

  -- and of one from 2^p to 2^(p + 1) at most 2
  halved_from : (p : ℕ) → p < 500 → T (fits binary64 (fin false 1 (pos p))) → 2 ^ p * den t ≤ num t * 1 → Below (suc p) t
      → Below 1 (halved t)
  halved_from p l f g h =
      let v = one ⊕ Root in
      let q : AtLeast (2 ^ (p + p)) 1 (t ⊗ t) =
      mul_least binary64 t t (2 ^ (p + p)) 1 (lit≤ tt) (pow_exact binary64 (p + p) (room p l)) b.finite b.finite square.finite
      (squared p (den t) (num t) g) in
      let w = one_plus_least (t ⊗ t) (2 ^ (p + p)) (pow_exact binary64 (p + p) (room p l)) square_minus q inside.finite in
      let r = root_over p (under p l) f w in
      let d = one_plus_least Root (2 ^ p) (pow_exact binary64 p (low p l)) root_minus r divisor.finite in
      div_most binary64 t v 2 1 (lit≤ tt) (pow_exact binary64 1 (lit≤ tt)) b.finite divisor.finite (above_num v 0 divisor_above)
      (plain (2 ^ p) (num t) (den t) (num v) (den v) (rw (two-pow-succ p) at h.size) d.size)
    where
      room : (p : ℕ) → p < 500 → p + p ≤ 1023
      room p l = omega arith

      under : (p : ℕ) → p < 500 → p ≤ 500
      under p l = omega arith

      low : (p : ℕ) → p < 500 → p ≤ 1023
      low p l = omega arith

      squared : (p d n : ℕ) → 2 ^ p * d ≤ n * 1 → 2 ^ (p + p) * (d * d) ≤ n * n * 1
      squared p d n h =
          let k : 2 ^ p * d ≤ n = rw (mul-one n) at h in
          rw (mul-one (n * n), pow-add 2 p p) (le_trans (le_of_eq (mul-mul-mul_comm (2 ^ p) (2 ^ p) d d)) (mul-le-mul k k))

      regrouped : (k d e : ℕ) → 2 * k * d * e ≡ 2 * (k * e * d)
      regrouped k d e = mul_right_comm (2 * k) d e ∙ ap (λ (z : ℕ). z * d) (mul_assoc 2 k e) ∙ mul_assoc 2 (k * e) d

      turned : (k d e : ℕ) → (k + k) * d * e ≡ 2 * (k * e * d)
      turned k d e = ap (λ (z : ℕ). z * d * e) (sym (two-mul k)) ∙ regrouped k d e

      plain : (k n d m e : ℕ) → n * 1 ≤ (k + k) * d → k * e ≤ m * 1 → n * e * 1 ≤ 2 * (m * d)
      plain k n d m e h g =
          rw (mul-one (n * e))
          (le_trans (mul-le-mul_right e (rw (mul-one n) at h))
          (le_trans (le_of_eq (turned k d e)) (mul-le-mul_left 2 (mul-le-mul_right d (rw (mul-one m) at g)))))

-- so of any tangent up to 2^500 at most 2
halved_small : (p : ℕ) → p ≤ 500 → (t : Float) → Below 500 t → minus t ≡ false → Below p t → Below 1 (halved t)
halved_small zero l t b s h = weaker (halved t) 0 1 (lit≤ tt) (halved_below t b s 0 (lit≤ tt) h)
halved_small (suc p) l t b s h = go (leb (2 ^ p * den t) (num t * 1)) (leb→le (2 ^ p * den t) (num t * 1))
    (nleb→lt (2 ^ p * den t) (num t * 1)) (halved_small p (under p l) t b s)
  where
    under : (p : ℕ) → suc p ≤ 500 → p ≤ 500
    under p l = omega arith

    high : (p : ℕ) → suc p ≤ 500 → p ≤ 1023
    high p l = omega arith

    weak : (a b : ℕ) → a < b → a ≤ b
    weak a b l = omega arith

    go : (c : Bool) → (T c → 2 ^ p * den t ≤ num t * 1) → (T (not c) → num t * 1 < 2 ^ p * den t) → (Below p t → Below 1 (halved t))
        → Below 1 (halved t)
    go true g k smaller = halved_from t b s p l (power_fits p (high p l)) (g tt) h
    go false g k smaller = smaller (record { finite = b.finite; size = weak (num t * 1) (2 ^ p * den t) (k tt) })

-- ---- the angle
eighth_below : (r c : Float) → Below 500 (r ⊘ c) → minus (r ⊘ c) ≡ false → Below 0 (eighth r c)
eighth_below r c b s =
    let first = halved (r ⊘ c) in
    let second = halved first in
    let once : Below 1 first = halved_small 500 (lit≤ tt) (r ⊘ c) b s b in
    let plus = halved_minus (r ⊘ c) b s in
    let wide : Below 500 first = weaker first 1 500 (lit≤ tt) once in
    let twice : Below 0 second = halved_to_one first wide plus once in
    halved_below second (weaker second 0 500 (lit≤ tt) twice) (halved_minus first wide plus) 0 (lit≤ tt) twice

divisors : AllAbove (0 ∷ 0 ∷ 0 ∷ 0 ∷ 0 ∷ 0 ∷ 0 ∷ 0 ∷ 0 ∷ 0 ∷ 0 ∷ []) (twenty_one ∷ angle_divisors)
unfolding of_bits of_int round
divisors =
    let ten : (n : Float) → T (finite n) → 1 * den n ≤ num n * 2 ^ 0 → Above 0 n = λ n i l. record { finite = i; size = l } in (
      ten _ tt (lit≤ tt),
      (
        ten _ tt (lit≤ tt),
        (
          ten _ tt (lit≤ tt),
          (
            ten _ tt (lit≤ tt),
            (
              ten _ tt (lit≤ tt),
              (
                ten _ tt (lit≤ tt),
                (ten _ tt (lit≤ tt), (ten _ tt (lit≤ tt), (ten _ tt (lit≤ tt), (ten _ tt (lit≤ tt), (ten _ tt (lit≤ tt), tt))))),
              ),
            ),
          ),
        ),
      ),
    )

-- one step from v, with divisor i
abbrev step : ℕ → Term → Term
step i v = (given 0 over i) less (given 1 times v)

series_below : (z : Float) → Below 0 z → Below 10 (angle_series z)
series_below z h =
    within (0 ∷ 0 ∷ []) (0 ∷ 0 ∷ 0 ∷ 0 ∷ 0 ∷ 0 ∷ 0 ∷ 0 ∷ 0 ∷ 0 ∷ 0 ∷ []) (one ∷ z ∷ []) (twenty_one ∷ angle_divisors) (one_below, (h, tt))
    divisors
    (step 10 (step 9 (step 8 (step 7 (step 6 (step 5 (step 4 (step 3 (step 2 (step 1 (given 0 over 0)))))))))))
    10 tt

eight_below : Below 3 eight
unfolding of_bits
eight_below = record { finite = tt; size = lit≤ tt }

pub angle_below : (r c : Float) → Below 500 (r ⊘ c) → minus (r ⊘ c) ≡ false → Below 13 (angle_of r c)
unfolding angle_of
angle_below r c b s =
    let t = eighth r c in
    let h = eighth_below r c b s in
    within (3 ∷ 0 ∷ 10 ∷ []) [] (eight ∷ t ∷ angle_series (t ⊗ t) ∷ []) []
    (eight_below, (h, (series_below (t ⊗ t) (mul_below t t 0 0 (lit≤ tt) h h), tt))) tt
    (given 0 times given 1 times given 2) 13 tt

-- "where r and c are positive it is finite", if r/c is at most 2^500
pub angle_finite : (r c : Float) → T (positive r) → T (positive c) → Below 500 (r ⊘ c) → T (finite (angle_of r c))
angle_finite r c p q b =
    (angle_below r c b
    (div_minus r c (positive-finite r p) (positive-finite c q) (positive_num c q) (positive_plus r p) (positive_plus c q))).finite
