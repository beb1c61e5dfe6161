-- Sine and cosine of an angle of at most 2^15 rad, by document 01's steps, are at most 2^331. Assumes nothing.
use mathlib.Core.Bool.{Bool, true, false}
use mathlib.Core.List.{[], ◌∷◌}
use Prim.Native.Nat.{ℕ, zero, suc, ◌+◌, ◌*◌, ◌^◌, ◌≤◌, ◌<◌}
use native.Mathlib.Nat.{le_trans, mul-one}
use native.Mathlib.Omega.{arith}
use lib.Dec.{T, lit≤}
use lib.Ieee.{Float, nan, inf, fin, binary64, up, down, of_bits, of_int, round}
use lib.Ieee.Scale.{finite}
use lib.Ieee.Fits.{down_pos}
use lib.Ieee.Positive.{num, den}
use Rattle.floats.specs.Operations.{◌⊗◌, bits, whole}
use Rattle.trig.specs.Trig.{quarter_turns, nearest_whole, signed, m_of, reduced, steps, sine_divisors, cosine_divisors, sine_series}
use Rattle.trig.specs.Trig.{cosine_series, quarter_of, by_quarter, sin_cos_of, sin_of, cos_of}
use Rattle.trig.proofs.Nearest.{nearest_most}
use Rattle.rounding.specs.Sizes.{Below, Above}
use Rattle.rounding.proofs.Exact.{pow_exact}
use Rattle.rounding.proofs.Rounding.{round_most}
use Rattle.rounding.proofs.Sizes.{weaker, mul_below, neg_below}
use Rattle.rounding.proofs.Terms.{Term, given, ◌less◌, ◌times◌, ◌over◌, AllAbove, within}

-- ---- m
whole_below : (s : Bool) (n p : ℕ) → p ≤ 1023 → n ≤ 2 ^ p → Below p (of_int binary64 (signed s n))
unfolding of_int
whole_below false n p l h = round_most binary64 false n 1 (2 ^ p) 1 (lit≤ tt) (lit≤ tt) (pow_exact binary64 p l)
    (rw (mul-one n, mul-one (2 ^ p)) h)
whole_below true zero p l h = round_most binary64 false 0 1 (2 ^ p) 1 (lit≤ tt) (lit≤ tt) (pow_exact binary64 p l) (rw (mul-one (2 ^ p)) h)
whole_below true (suc n) p l h = round_most binary64 true (suc n) 1 (2 ^ p) 1 (lit≤ tt) (lit≤ tt) (pow_exact binary64 p l)
    (rw (mul-one (suc n), mul-one (2 ^ p)) h)

m_below : (q : Float) → Below 15 q → Below 16 (m_of q)
unfolding m_of
m_below nan h = absurd h.finite
m_below (inf s) h = absurd h.finite
m_below (fin s k e) h = whole_below s (nearest_whole (k * up e) (down e)) 16 (lit≤ tt)
    (le_trans (nearest_most (k * up e) (down e) (down_pos e) (2 ^ 15 + 1) (more (k * up e) (down e) (down_pos e) h.size)) (lit≤ tt))
  where
    more : (n d : ℕ) → 0 < d → n * 1 ≤ 2 ^ 15 * d → n < (2 ^ 15 + 1) * d
    more n d D h = omega arith

-- ---- r, and the two series
constant_0 : Below 0 (bits 0x3fe4_5f30_6dc9_c883)
unfolding of_bits
constant_0 = record { finite = tt; size = lit≤ tt }

constant_a : Below 1 (bits 0x3ff9_21fb_5440_0000)
unfolding of_bits
constant_a = record { finite = tt; size = lit≤ tt }

constant_b : Below 0 (bits 0x3dd0_b461_1a62_6331)
unfolding of_bits
constant_b = record { finite = tt; size = lit≤ tt }

reduced_below : (f m : Float) → Below 15 f → Below 16 m → Below 19 (reduced f m)
reduced_below f m h k =
    within (15 ∷ 16 ∷ 1 ∷ 0 ∷ []) [] (f ∷ m ∷ bits 0x3ff9_21fb_5440_0000 ∷ bits 0x3dd0_b461_1a62_6331 ∷ []) []
    (h, (k, (constant_a, (constant_b, tt)))) tt
    ((given 0 less given 1 times given 2) less given 1 times given 3) 19 tt

one_below : Below 0 (whole 1)
unfolding of_int round
one_below = record { finite = tt; size = lit≤ tt }

above : (n : Float) → T (finite n) → 1 * den n ≤ num n * 2 ^ 0 → Above 0 n
above n i l = record { finite = i; size = l }

sine_divisors_lem : AllAbove (0 ∷ 0 ∷ 0 ∷ 0 ∷ 0 ∷ 0 ∷ 0 ∷ 0 ∷ []) sine_divisors
unfolding of_int round
sine_divisors_lem = (
  above _ tt (lit≤ tt),
  (
    above _ tt (lit≤ tt),
    (
      above _ tt (lit≤ tt),
      (above _ tt (lit≤ tt), (above _ tt (lit≤ tt), (above _ tt (lit≤ tt), (above _ tt (lit≤ tt), (above _ tt (lit≤ tt), tt))))),
    ),
  ),
)

cosine_divisors_lem : AllAbove (0 ∷ 0 ∷ 0 ∷ 0 ∷ 0 ∷ 0 ∷ 0 ∷ 0 ∷ []) cosine_divisors
unfolding of_int round
cosine_divisors_lem = (
  above _ tt (lit≤ tt),
  (
    above _ tt (lit≤ tt),
    (
      above _ tt (lit≤ tt),
      (above _ tt (lit≤ tt), (above _ tt (lit≤ tt), (above _ tt (lit≤ tt), (above _ tt (lit≤ tt), (above _ tt (lit≤ tt), tt))))),
    ),
  ),
)

-- one step from v, with divisor i; and the eight of them
abbrev step : ℕ → Term → Term
step i v = given 0 less (given 1 over i) times v

abbrev eight_steps : Term
eight_steps = step 7 (step 6 (step 5 (step 4 (step 3 (step 2 (step 1 (step 0 (given 0))))))))

sine_steps : (z : Float) → Below 38 z → Below 312 (steps z sine_divisors (whole 1))
unfolding steps
sine_steps z h = within (0 ∷ 38 ∷ []) (0 ∷ 0 ∷ 0 ∷ 0 ∷ 0 ∷ 0 ∷ 0 ∷ 0 ∷ []) (whole 1 ∷ z ∷ []) sine_divisors (one_below, (h, tt))
    sine_divisors_lem eight_steps 312 tt

cosine_steps : (z : Float) → Below 38 z → Below 312 (steps z cosine_divisors (whole 1))
unfolding steps
cosine_steps z h = within (0 ∷ 38 ∷ []) (0 ∷ 0 ∷ 0 ∷ 0 ∷ 0 ∷ 0 ∷ 0 ∷ 0 ∷ []) (whole 1 ∷ z ∷ []) cosine_divisors (one_below, (h, tt))
    cosine_divisors_lem eight_steps 312 tt

-- ---- sine and cosine
either_below : (k : ℕ) (s c : Float) → Below 331 s → Below 331 c → Below 331 (by_quarter k s c).sin × Below 331 (by_quarter k s c).cos
either_below zero s c h g = (h, g)
either_below (suc zero) s c h g = (g, neg_below s 331 h)
either_below (suc (suc zero)) s c h g = (neg_below s 331 h, neg_below c 331 g)
either_below (suc (suc (suc k))) s c h g = (neg_below c 331 g, h)

-- with cosines at most 2^331 their squares are at most 2^662
pub turn_below : (f : Float) → Below 15 f → Below 331 (sin_of f) × Below 331 (cos_of f)
unfolding sin_cos_of
turn_below f h =
    let q = quarter_turns f in
    let r = reduced f (m_of q) in
    let rb : Below 19 r = reduced_below f (m_of q) h (m_below q (mul_below f (bits 0x3fe4_5f30_6dc9_c883) 15 0 (lit≤ tt) h constant_0)) in
    let zb : Below 38 (r ⊗ r) = mul_below r r 19 19 (lit≤ tt) rb rb in
    either_below (quarter_of q) (sine_series r) (cosine_series r)
    (mul_below r (steps (r ⊗ r) sine_divisors (whole 1)) 19 312 (lit≤ tt) rb (sine_steps (r ⊗ r) zb))
    (weaker (cosine_series r) 312 331 (lit≤ tt) (cosine_steps (r ⊗ r) zb))
