-- Sizes from 2^-k to 2^k. Assumes nothing.
use mathlib.Core.Path.{◌≡◌, ap}
use Prim.Native.Nat.{ℕ, ◌+◌, ◌*◌, ◌^◌, ◌≤◌}
use native.Mathlib.Nat.{le_trans, le_of_eq, mul-pos, mul-le-mul, mul-le-mul_left, mul_comm}
use lib.Dec.{T}
use lib.Pow.{pow-add, pow_mono}
use lib.Ieee.{Float}
use lib.Ieee.Positive.{num, den, positive}
use Rattle.rounding_error.proofs.Numbers.{Size, ◌per◌, ◌by◌, ◌for◌, InRange, Ranges, size_of}
use Rattle.rounding_error.proofs.Distances.{sorted}
use Rattle.rounding.proofs.Monotone.{positive_num}

-- a product of two such
pairs : (a b c d x y : ℕ) → a ≤ c * x → b ≤ d * y → a * b ≤ c * d * (x * y)
pairs a b c d x y h k = le_trans (mul-le-mul h k) (le_of_eq (turn c d x y))
  where
    turn : (c d x y : ℕ) → c * x * (d * y) ≡ c * d * (x * y)
    turn c d x y = simp sorted

pub ranges_by : (k l : ℕ) (A B : Size) → Ranges k A → Ranges l B → Ranges (k + l) (A by B)
ranges_by k l (a per c) (b per d) h g =
    record {
      real = mul-pos h.real g.real;
      least = rw (pow-add 2 k l) (pairs c d a b (2 ^ k) (2 ^ l) h.least g.least);
      most = rw (pow-add 2 k l) (pairs a b c d (2 ^ k) (2 ^ l) h.most g.most);
    }

pub ranges_for : (k l : ℕ) (A : Size) (y : Float) → T (positive y) → Ranges k A → Ranges l (size_of y) → Ranges (k + l) (A for y)
ranges_for k l (a per c) y p h g =
    record {
      real = mul-pos (positive_num y p) h.real;
      least = rw (pow-add 2 k l)
          (le_trans (le_of_eq (mul_comm (num y) c)) (pairs c (num y) a (den y) (2 ^ k) (2 ^ l) h.least g.most));
      most = rw (pow-add 2 k l)
          (le_trans (pairs a (den y) c (num y) (2 ^ k) (2 ^ l) h.most g.least)
          (le_of_eq (ap (λ (x : ℕ). x * (2 ^ k * 2 ^ l)) (mul_comm c (num y)))));
    }

pub in_range : (k : ℕ) (S : Size) → k ≤ 1000 → Ranges k S → InRange S
in_range k (a per c) h s =
    record {
      real = s.real;
      least = le_trans s.least (mul-le-mul_left a (pow_mono h));
      most = le_trans s.most
          (mul-le-mul_left c (pow_mono h));
    }
