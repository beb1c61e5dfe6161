-- Lengths within their limits are far from the ends of f64's range, and so are the sizes made of them. Assumes nothing.
use mathlib.Core.Path.{sym}
use mathlib.Core.Bool.{true, false}
use Prim.Native.Nat.{ℕ, ◌+◌, ◌*◌, ◌^◌, ◌≤◌, ◌<◌}
use native.Mathlib.Nat.{le_trans, le_of_eq, mul-le-mul_left, mul-le-mul_right, le_of_mul-le-mul_right, mul_comm, mul-one, one-mul}
use native.Mathlib.Omega.{arith}
use lib.Dec.{T}
use lib.Pow.{pow_mono}
use lib.Ieee.{Float, nan, inf, fin, up, down}
use lib.Ieee.Positive.{num, den, den_pos, positive}
use Rattle.rounding.specs.Sizes.{AtMost, Below, Above}
use Rattle.rounding.proofs.Monotone.{positive_num}
use Rattle.rounding.proofs.Sizes.{positive_of}
use Rattle.limits.proofs.Lengths.{PositiveLength}
use Rattle.integrands.proofs.Scales.{Scale}
use Rattle.rounding_error.proofs.Numbers.{◌per◌, ◌of◌, Under, value_of, size_of, Least, Ranges}
use Rattle.rounding_error.proofs.Ranges.{ranges_for}
use Rattle.accuracy.proofs.Given.{Lengths}

pub ranges_to : (n : ℕ) (x : Float) (p s : ℕ) → p ≤ n → s ≤ n → Below p x → Above s x → Ranges n (size_of x)
ranges_to n x p s l k b a =
    record {
      real = den_pos x;
      least = le_trans (le_of_eq (sym (one-mul (den x)))) (le_trans a.size (mul-le-mul_left (num x) (pow_mono k)));
      most = le_trans (le_of_eq (sym (mul-one (num x)))) (le_trans b.size
          (le_trans (mul-le-mul_right (den x) (pow_mono l)) (le_of_eq (mul_comm (2 ^ n) (den x)))));
    }

pub ranges_of : (x : Float) (p s : ℕ) → p ≤ 24 → s ≤ 24 → Below p x → Above s x → Ranges 24 (size_of x)
ranges_of x p s l k b a = ranges_to 24 x p s l k b a

-- |x| <= b / d
pub most_under : (x : Float) (b d : ℕ) → AtMost b d x → Under (1 of (b per d)) (value_of x)
most_under nan b d h = absurd h.finite
most_under (inf s) b d h = absurd h.finite
most_under (fin true m e) b d h = record { below = low (m * up e) (down e); above = high (m * up e) (down e) h.size }
  where
    low : (N D : ℕ) → (0 * 1 + 0 * D) * d ≤ (0 * D + N * 1) * d + 1 * b * (D * 1)
    low N D = omega arith

    high : (N D : ℕ) → N * d ≤ b * D → (0 * D + N * 1) * d ≤ (0 * 1 + 0 * D) * d + 1 * b * (1 * D)
    high N D k = omega arith
most_under (fin false m e) b d h = record { below = high (m * up e) (down e) h.size; above = low (m * up e) (down e) }
  where
    high : (N D : ℕ) → N * d ≤ b * D → (N * 1 + 0 * D) * d ≤ (0 * D + 0 * 1) * d + 1 * b * (D * 1)
    high N D k = omega arith

    low : (N D : ℕ) → (0 * D + 0 * 1) * d ≤ (N * 1 + 0 * D) * d + 1 * b * (1 * D)
    low N D = omega arith

-- b / d is at least the root
pub least_of : (root : Float) (b d : ℕ) → T (positive root) → Above 20 root → AtMost b d root → Least 24 (b per d)
least_of root b d p a h = le_of_mul-le-mul_right (go (num root) (den root) (mul-le-mul_right b a.size) h.size) (positive_num root p)
  where
    go : (N D : ℕ) → 1 * D * b ≤ N * 2 ^ 20 * b → N * d ≤ b * D → d * N ≤ b * 2 ^ 24 * N
    go N D k l = omega arith

pub lengths : (root tip span sweep scale : Float) (b d : ℕ) → 0 < d → b ≤ 64 * d → PositiveLength root → PositiveLength span → Scale scale
    → AtMost b d root → AtMost b d tip → AtMost b d sweep → Lengths root tip span sweep scale (b per d)
lengths root tip span sweep scale b d D most r s q ur ut us =
    record {
      root_finite = ur.finite;
      tip_finite = ut.finite;
      sweep_finite = us.finite;
      span_positive = positive_of span 20 s.not_minus s.above;
      scale_positive = q.is_positive;
      span_ranges = ranges_of span 6 20 (omega arith) (omega arith) s.length.below s.above;
      scale_ranges = ranges_of scale 7 20 (omega arith) (omega arith) q.below q.above;
      height_ranges = ranges_for 20 20 (size_of span) scale q.is_positive
          (ranges_to 20 span 6 20 (omega arith) (omega arith) s.length.below s.above)
          (ranges_to 20 scale 7 20 (omega arith) (omega arith) q.below q.above);
      ranges = record
          { real = D; least = least_of root b d (positive_of root 20 r.not_minus r.above) r.above ur; most = omega arith };
      root_under = most_under root b d ur;
      tip_under = most_under tip b d ut;
      sweep_under = most_under sweep b d us;
    }
