-- A piece's values and errors are at most 2^743, where its ends are at most 2^26 and each component of the samples at
-- heights of at most 2^28 is at most 2^700. Assumes nothing.
use mathlib.Core.Path.{◌≡◌, refl, subst}
use mathlib.Core.Bool.{Bool, true, false, cond}
use mathlib.Core.List.{List}
use Prim.Native.Nat.{ℕ, zero, suc, ◌+◌, ◌*◌, ◌/◌, ◌%◌, ◌≤◌, ◌<◌}
use native.Mathlib.Nat.{le_refl, le_trans, le-suc}
use native.Mathlib.Omega.{arith}
use lib.Dec.{lit≤, eqb}
use lib.ListN.{length}
use lib.Count.{count_trailing_zeros}
use lib.Ieee.{Float, round, size, units, odd, span, climb}
use Rattle.floats.specs.Operations.{◌⊕◌, ◌⊖◌, ◌⊗◌, bits, at}
use Rattle.floats.specs.Floats.{abs_of}
use Rattle.rounding.specs.Sizes.{Below}
use Rattle.rounding.proofs.Sizes.{zero_below, weaker, mul_below, add_below, add_max, sub_below, abs_below}
use Rattle.sorting.specs.Sorted.{Each}
use Rattle.gauss_kronrod.specs.Tables.{kronrod_weights, gauss_weights}
use Rattle.quadrature.specs.Rule.{half_sum, half_width, weighted_to, minus_side, plus_side, kronrod_weight, gauss_weight, sum_of}
use Rattle.quadrature.proofs.Heights.{each_at, sides_below, centre_below, reach_below}

-- ---- the weights
kronrod_table : Each (Below 0) kronrod_weights
unfolding kronrod_weights round size units odd count_trailing_zeros span climb
kronrod_table = (
  record { finite = tt; size = lit≤ tt },
  (
    record { finite = tt; size = lit≤ tt },
    (
      record { finite = tt; size = lit≤ tt },
      (
        record { finite = tt; size = lit≤ tt },
        (
          record { finite = tt; size = lit≤ tt },
          (
            record { finite = tt; size = lit≤ tt },
            (
              record { finite = tt; size = lit≤ tt },
              (
                record { finite = tt; size = lit≤ tt },
                tt,
              ),
            ),
          ),
        ),
      ),
    ),
  ),
)

gauss_table : Each (Below 0) gauss_weights
unfolding gauss_weights round size units odd count_trailing_zeros span climb
gauss_table = (
  record { finite = tt; size = lit≤ tt },
  (
    record { finite = tt; size = lit≤ tt },
    (
      record { finite = tt; size = lit≤ tt },
      (
        record { finite = tt; size = lit≤ tt },
        tt,
      ),
    ),
  ),
)

eight : length kronrod_weights ≡ 8
unfolding kronrod_weights
eight = refl

four : length gauss_weights ≡ 4
unfolding gauss_weights
four = refl

kronrod_weight_lem : (i : ℕ) → i ≤ 7 → Below 0 (kronrod_weight i)
kronrod_weight_lem i l = each_at (Below 0) kronrod_weights i kronrod_table (rw eight (omega arith))

gauss_weight_lem : (i : ℕ) → i ≤ 7 → Below 0 (gauss_weight i)
gauss_weight_lem i l = look (eqb (i % 2) 1)
  where
    look : (b : Bool) → Below 0 (cond b (at gauss_weights (i / 2)) (bits 0))
    look true = each_at (Below 0) gauss_weights (i / 2) gauss_table (rw four (omega arith))
    look false = zero_below

-- ---- a weighted sum: each term adds one to the exponent at most
module _ (weight : ℕ → Float) (wt : (i : ℕ) → i ≤ 7 → Below 0 (weight i)) (y : Float → Float)
    (yt : (h : Float) → Below 28 h → Below 700 (y h)) (centre reach : Float) (c : Below 27 centre) (r : Below 27 reach) where
  term : (i : ℕ) (h : Float) → i ≤ 7 → Below 28 h → Below 700 (weight i ⊗ y h)
  term i h l b = mul_below (weight i) (y h) 0 700 (lit≤ tt) (wt i l) (yt h b)

  weighted_below : (n : ℕ) → n ≤ 7 → Below (701 + 2 * n) (weighted_to n weight y centre reach)
  unfolding weighted_to
  weighted_below zero l = add_max (bits 0) (weight 7 ⊗ y centre) 0 700 (lit≤ tt) zero_below
      (term 7 centre (le_refl 7) (weaker centre 27 28 (lit≤ tt) c))
  weighted_below (suc i) l =
      let p = 701 + 2 * i in
      let e : suc (suc p) ≡ 701 + 2 * suc i = omega arith in
      let s = sides_below i centre reach l c r in
      let low = term i (minus_side centre reach i) (le_trans (le-suc i) l) s.0 in
      let high = term i (plus_side centre reach i) (le_trans (le-suc i) l) s.1 in
      let before = weighted_to i weight y centre reach in
      let first = add_below before (weight i ⊗ y (minus_side centre reach i)) p (omega arith) (weighted_below i (le_trans (le-suc i) l))
      (weaker (weight i ⊗ y (minus_side centre reach i)) 700 p (omega arith) low) in
      subst (λ (q : ℕ). Below q (before ⊕ weight i ⊗ y (minus_side centre reach i) ⊕ weight i ⊗ y (plus_side centre reach i))) e
      (add_below (before ⊕ weight i ⊗ y (minus_side centre reach i)) (weight i ⊗ y (plus_side centre reach i)) (suc p) (omega arith) first
      (weaker (weight i ⊗ y (plus_side centre reach i)) 700 (suc p) (omega arith) high))

-- ---- a piece
module _ (w : ℕ) (f : Float → List Float) (bounded : (h : Float) → Below 28 h → Each (Below 700) (f h))
    (wide : (h : Float) → w ≤ length (f h)) (a b : Float) (ha : Below 26 a) (hb : Below 26 b) where
  sum_below : (weight : ℕ → Float) → ((i : ℕ) → i ≤ 7 → Below 0 (weight i)) → (k : ℕ) → k < w → Below 715 (sum_of weight f a b k)
  sum_below weight wt k l =
      weighted_below weight wt (λ h. at (f h) k) (λ h q. each_at (Below 700) (f h) k (bounded h q) (le_trans l (wide h))) (half_sum a b)
      (half_width a b) (centre_below a b ha hb) (reach_below a b ha hb) 7 (le_refl 7)

  pub value_below : (k : ℕ) → k < w → Below 743 (half_width a b ⊗ sum_of kronrod_weight f a b k)
  value_below k l =
      weaker (half_width a b ⊗ sum_of kronrod_weight f a b k) 742 743 (lit≤ tt)
      (mul_below (half_width a b) (sum_of kronrod_weight f a b k) 27 715 (lit≤ tt) (reach_below a b ha hb)
      (sum_below kronrod_weight kronrod_weight_lem k l))

  pub error_below : (k : ℕ) → k < w → Below 743 (abs_of (half_width a b ⊗ (sum_of kronrod_weight f a b k ⊖ sum_of gauss_weight f a b k)))
  error_below k l =
      let d = sum_of kronrod_weight f a b k ⊖ sum_of gauss_weight f a b k in
      abs_below (half_width a b ⊗ d) 743
      (mul_below (half_width a b) d 27 716 (lit≤ tt) (reach_below a b ha hb)
      (sub_below (sum_of kronrod_weight f a b k) (sum_of gauss_weight f a b k) 715 (lit≤ tt)
      (sum_below kronrod_weight kronrod_weight_lem k l)
      (sum_below gauss_weight gauss_weight_lem k l)))
