-- One piece: at width w it is the piece at width v with zeros behind. Assumes nothing.
use mathlib.Core.Path.{◌≡◌, refl, ap, ◌∙◌, fun_ext}
use mathlib.Core.List.{List, ◌∷◌, ◌++◌}
use Prim.Native.Nat.{ℕ, zero, suc, ◌+◌, ◌-◌, ◌≤◌, ◌<◌}
use native.Mathlib.Nat.{le_refl}
use native.Mathlib.Omega.{arith}
use lib.ListN.{length, replicate}
use lib.Ieee.{Float}
use Rattle.floats.specs.Operations.{◌⊖◌, ◌⊗◌, bits, at, tabulate_from, tabulate}
use Rattle.floats.specs.Floats.{abs_of}
use Rattle.quadrature.specs.Rule.{half_sum, half_width, weighted_to, kronrod_weight, gauss_weight, sum_of, piece_of}
use Rattle.pieces.specs.Stored.{widened}
use Rattle.widths.specs.Widths.{ZerosBehind}
use Rattle.rounding.proofs.Zeros.{zero_less_zero, abs_zero}
use Rattle.widths.proofs.Rule.{kronrod_zero, gauss_zero}
use Rattle.widths.proofs.Sums.{Wide}

-- ---- lists by place
tabulate_zeros : (i n : ℕ) (f : ℕ → Float) → ((k : ℕ) → i ≤ k → k < i + n → f k ≡ bits 0) → tabulate_from i n f ≡ replicate n (bits 0)
tabulate_zeros i zero f e = refl
tabulate_zeros i (suc n) f e =
    ap (λ (x : Float). x ∷ tabulate_from (suc i) n f) (e i (le_refl i) (omega arith))
    ∙ ap (λ (l : List Float). bits 0 ∷ l) (tabulate_zeros (suc i) n f (λ k a b. e k (omega arith) (omega arith)))

tabulate_behind : (i v w : ℕ) → v ≤ w → (f g : ℕ → Float) → ((k : ℕ) → i ≤ k → k < i + v → f k ≡ g k)
    → ((k : ℕ) → i + v ≤ k → k < i + w → f k ≡ bits 0)
    → tabulate_from i w f ≡ tabulate_from i v g ++ replicate (w - v) (bits 0)
tabulate_behind i zero w l f g e z = let d : w - 0 ≡ w = omega arith in rw d (tabulate_zeros i w f (λ k a b. z k (omega arith) b))
tabulate_behind i (suc v) zero l f g e z = absurd (let t : ⊥ = omega arith in t)
tabulate_behind i (suc v) (suc w) l f g e z =
    let d : suc w - suc v ≡ w - v = omega arith in
    rw d
    (ap (λ (x : Float). x ∷ tabulate_from (suc i) w f) (e i (le_refl i) (omega arith))
    ∙ ap (λ (t : List Float). g i ∷ t)
    (tabulate_behind (suc i) v w (omega arith) f g (λ k a b. e k (omega arith) (omega arith))
    (λ k a b. z k (omega arith) (omega arith))))

length_tabulate : (i n : ℕ) (f : ℕ → Float) → length (tabulate_from i n f) ≡ n
length_tabulate i zero f = refl
length_tabulate i (suc n) f = ap suc (length_tabulate (suc i) n f)

pub piece_wide : (v : ℕ) (g : Float → List Float) (a b : Float) → Wide v (piece_of v g a b)
unfolding piece_of
piece_wide v g a b = (length_tabulate 0 v _, length_tabulate 0 v _)

module _ (v w : ℕ) (g f : Float → List Float) (z : ZerosBehind v w g f) where
  -- ---- the sums
  sum_same : (weight : ℕ → Float) (a b : Float) (k : ℕ) → k < v → sum_of weight f a b k ≡ sum_of weight g a b k
  sum_same weight a b k l =
      ap (λ (y : Float → Float). weighted_to 7 weight y (half_sum a b) (half_width a b)) (fun_ext (λ h. z.first h k l))

  module _ (a b : Float) (width : half_width a b ⊗ bits 0 ≡ bits 0) where
    kronrod_none : (k : ℕ) → v ≤ k → k < w → sum_of kronrod_weight f a b k ≡ bits 0
    kronrod_none k l m = kronrod_zero (λ h. at (f h) k) (λ h. z.others h k l m) (half_sum a b) (half_width a b)

    gauss_none : (k : ℕ) → v ≤ k → k < w → sum_of gauss_weight f a b k ≡ bits 0
    gauss_none k l m = gauss_zero (λ h. at (f h) k) (λ h. z.others h k l m) (half_sum a b) (half_width a b)

    abbrev value_at : (Float → List Float) → ℕ → Float
    value_at y k = half_width a b ⊗ sum_of kronrod_weight y a b k

    abbrev error_at : (Float → List Float) → ℕ → Float
    error_at y k = abs_of (half_width a b ⊗ (sum_of kronrod_weight y a b k ⊖ sum_of gauss_weight y a b k))

    values_are : tabulate w (value_at f) ≡ tabulate v (value_at g) ++ replicate (w - v) (bits 0)
    values_are =
        tabulate_behind 0 v w z.no_wider (value_at f) (value_at g)
        (λ k l m. ap (λ (x : Float). half_width a b ⊗ x) (sum_same kronrod_weight a b k (omega arith)))
        (λ k l m. ap (λ (x : Float). half_width a b ⊗ x) (kronrod_none k (omega arith) (omega arith)) ∙ width)

    errors_are : tabulate w (error_at f) ≡ tabulate v (error_at g) ++ replicate (w - v) (bits 0)
    errors_are =
        tabulate_behind 0 v w z.no_wider (error_at f) (error_at g)
        (λ k l m. ap (λ (x : Float). abs_of (half_width a b ⊗ (x ⊖ sum_of gauss_weight f a b k)))
        (sum_same kronrod_weight a b k (omega arith))
        ∙ ap (λ (x : Float). abs_of (half_width a b ⊗ (sum_of kronrod_weight g a b k ⊖ x))) (sum_same gauss_weight a b k (omega arith)))
        (λ k l m. ap (λ (x : Float). abs_of (half_width a b ⊗ (x ⊖ sum_of gauss_weight f a b k)))
        (kronrod_none k (omega arith) (omega arith))
        ∙ ap (λ (x : Float). abs_of (half_width a b ⊗ (bits 0 ⊖ x))) (gauss_none k (omega arith) (omega arith))
        ∙ ap (λ (x : Float). abs_of (half_width a b ⊗ x)) zero_less_zero
        ∙ ap abs_of width
        ∙ abs_zero)

    pub piece_same : piece_of w f a b ≡ widened (w - v) (piece_of v g a b)
    unfolding piece_of
    piece_same = λ i. record { start = a; end = b; value = values_are i; error = errors_are i }
