-- Chains of operations: an f64 with the exact number that it stands for, how many unit roundoffs of a size it is from it, and how many
-- sizes that number is at most. With literal counts the conditions are `tt`. Assumes nothing.
use mathlib.Core.Path.{◌≡◌}
use Prim.Native.Nat.{ℕ, suc, ◌+◌, ◌*◌, ◌^◌, ◌≤◌}
use native.Mathlib.Nat.{mul-pos, mul-le-mul_right, mul-le-mul_left}
use native.Mathlib.Omega.{arith}
use lib.Dec.{T}
use lib.Pow.{pow_pos}
use lib.Ieee.{Float, of_bits}
use lib.Ieee.Scale.{finite}
use lib.Ieee.Positive.{num, den}
use Rattle.floats.specs.Operations.{bits}
use Rattle.rounding_error.proofs.Numbers.{Number, number, Size, ◌per◌, ◌times◌, ◌over◌, ◌of◌, ◌roundoffs◌, ◌upto◌, IsNumber, IsSize}
use Rattle.rounding_error.proofs.Numbers.{Under, zero_number, value_of, Near}
use Rattle.rounding_error.proofs.Distances.{sorted, within_sym, within_same, within_upto}
use Rattle.rounding_error.proofs.Operations.{near_same}
use Rattle.rounding_error.proofs.Counts as Counts
use Rattle.rounding_error.proofs.Polynomials.{◌equals◌}

-- x is near v within k unit roundoffs of B, and |v| <= j·B
pub record Valued (x : Float) (v : Number) (k j : ℕ) (B : Size) : Type 0 where
  pub near : Near x v (k roundoffs B)
  pub size : Under (j of B) v
  pub is : IsNumber v

-- what divides by y multiplies by this
abbrev pub inverse : Float → Number
inverse y = number (den y) 0 (num y)

module _ {x : Float} {v : Number} {k j : ℕ} {B : Size} (h : Valued x v k j B) where
  -- |x| <= (j + 1)·B
  pub reach : IsSize B → k ≤ 2 ^ 53 → Under (suc j of B) (value_of x)
  reach b l = Counts.sized k j B x v b h.is l h.near h.size

  pub counted_by : (k' j' : ℕ) → IsSize B → k ≤ k' → j ≤ j' → Valued x v k' j' B
  counted_by k' j' b m n = record {
    near = Counts.more_roundoffs k k' B x v b m h.near;
    size = Counts.more_of j j' B v b n
        h.size;
    is = h.is;
  }

  pub equalled : (w : Number) → IsNumber w → v equals w → Valued x w k j B
  equalled w i e =
      record {
        near = near_same x v w (k roundoffs B) h.is h.near e.same;
        size = within_sym (j of B) zero_number w (within_same (j of B) zero_number v w h.is (within_sym (j of B) v zero_number h.size)
            e.same);
        is = i;
      }

scaled_up : (a c b d k : ℕ) → a * d ≤ b * c → k * a * d ≤ k * b * c
scaled_up a c b d k h = let x = simp sorted at (mul-le-mul_left k h) in simp sorted (omega (arith, x))

-- in a larger size
pub resized : {x : Float} {v : Number} {k j : ℕ} (A B : Size) → IsSize A → A upto B → Valued x v k j A → Valued x v k j B
resized {x = x} {v = v} {k = k} {j = j} (a per c) (b per d) C l h =
    record {
      near = record {
        finite = h.near.finite;
        within = within_upto (k roundoffs (a per c)) (k roundoffs (b per d)) (value_of x) v (mul-pos C (pow_pos 53))
            (go (2 ^ 53) (scaled_up a c b d k l)) h.near.within;
      };
      size = within_upto (j of (a per c)) (j of (b per d)) v zero_number C (scaled_up a c b d j l) h.size;
      is = h.is;
    }
  where
    go : (P : ℕ) → k * a * d ≤ k * b * c → k * a * (d * P) ≤ k * b * (c * P)
    go P u = let y = simp sorted at (mul-le-mul_right P u) in simp sorted (omega (arith, y))

pub exactly : (x : Float) (j : ℕ) (B : Size) → T (finite x) → Under (j of B) (value_of x) → Valued x (value_of x) 0 j B
exactly x j B f u = record { near = Counts.itself x B f; size = u; is = Counts.value_is x }

pub zero_valued : (A : Size) → Valued (bits 0) (value_of (bits 0)) 0 0 A
unfolding of_bits
zero_valued (a per c) = record {
  near = Counts.itself (bits 0) (a per c) tt;
  size = record {
    below = go a c;
    above = go a c;
  };
  is = pow_pos 0;
}
  where
    go : (a c : ℕ) → 0 * c ≤ 0 * c + 0 * a * 1
    go a c = omega arith

pub over_is_times : (v : Number) (y : Float) → v over y equals v times inverse y
over_is_times (number p n d) y = record { same = go p n d (num y) (den y) }
  where
    go : (p n d N D : ℕ) → p * D * (d * N) + (p * 0 + n * D) * (N * d) ≡ (p * D + n * 0) * (N * d) + n * D * (d * N)
    go p n d N D = omega arith
