-- The values and errors of a halving's pieces are at most 2^743, and a component's sum over at most 2^12 pieces at most
-- 2^755, where the samples at heights of at most 2^28 are at most 2^700 and the strip's ends are at most 2^26 and in
-- order. Assumes nothing.
use mathlib.Core.Path.{◌≡◌, sym, subst}
use mathlib.Core.List.{List, [], ◌∷◌}
use Prim.Native.Nat.{ℕ, suc, ◌+◌, ◌*◌, ◌^◌, ◌≤◌, ◌<◌}
use native.Mathlib.Nat.{le_trans, le_of_eq, mul-le-mul_right, zero-add}
use native.Mathlib.Omega.{arith}
use lib.Dec.{lit≤}
use lib.Pow.{pow-add}
use lib.ListN.{length}
use lib.Ieee.{Float, of_bits}
use lib.Ieee.Positive.{den}
use Rattle.floats.specs.Operations.{◌⊕◌, ◌⊖◌, ◌⊗◌, bits, at}
use Rattle.floats.specs.Floats.{abs_of}
use Rattle.rounding.specs.Sizes.{AtMost, Below, InOrder}
use Rattle.rounding.proofs.Sizes.{sum_step}
use Rattle.sorting.specs.Sorted.{Each}
use Rattle.quadrature.specs.Rule.{half_width, sum_of, kronrod_weight, gauss_weight, piece_of}
use Rattle.quadrature.specs.declared.Piece.{Piece}
use Rattle.quadrature.proofs.Values.{value_below, error_below}
use Rattle.tolerance.specs.Bounds.{sum_from, total_of}
use Rattle.tolerance.proofs.Numbers.{at_tabulate}
use Rattle.tolerance.proofs.AllPieces.{All}
use Rattle.halving.specs.Halving.{halving}
use Rattle.halving.proofs.Heights.{each_piece}

-- ---- a sum of n terms, each at most 2^p, is at most n·2^p
pub none_most : (p : ℕ) → AtMost (0 * 2 ^ p) 1 (bits 0)
unfolding of_bits
none_most p = record { finite = tt; size = le_of_eq (sym none) }
  where
    none : 0 * 2 ^ p * 1 ≡ 0
    none = omega arith

pub few_below : (x : Float) (n p q : ℕ) → n ≤ 2 ^ q → AtMost (n * 2 ^ p) 1 x → Below (q + p) x
few_below x n p q l h =
    record {
      finite = h.finite;
      size = le_trans h.size
          (mul-le-mul_right (den x) (le_trans (mul-le-mul_right (2 ^ p) l) (le_of_eq (sym (pow-add 2 q p)))));
    }

-- ---- the numbers of a piece
abbrev pub PieceBelow : ℕ → Piece → Type 0
PieceBelow w p = (k : ℕ) → k < w → Below 743 (at p.value k) × Below 743 (at p.error k)

module _ (w : ℕ) (f : Float → List Float) (bounded : (h : Float) → Below 28 h → Each (Below 700) (f h))
    (wide : (h : Float) → w ≤ length (f h)) where
  piece_below : (a b : Float) → InOrder 26 a b → PieceBelow w (piece_of w f a b)
  unfolding piece_of
  piece_below a b i k l = (
    subst (Below 743) (sym (at_tabulate w (λ j. half_width a b ⊗ sum_of kronrod_weight f a b j) k l))
        (value_below w f bounded wide a b i.lower_below i.upper_below k l),
    subst (Below 743)
        (sym (at_tabulate w (λ j. abs_of (half_width a b ⊗ (sum_of kronrod_weight f a b j ⊖ sum_of gauss_weight f a b j))) k l))
        (error_below w f bounded wide a b i.lower_below i.upper_below k l),
  )

  pub pieces_below : (lower upper : Float) (limit : ℕ) → InOrder 26 lower upper → All (PieceBelow w) (halving w f lower upper limit).pieces
  pieces_below lower upper limit i = (each_piece w f (PieceBelow w) piece_below lower upper limit i).0

-- ---- their sum
sum_most : (w k : ℕ) → k < w → (pieces : List Piece) (sum : Float) (n : ℕ) → n + length pieces < 2 ^ 53 → AtMost (n * 2 ^ 743) 1 sum
    → All (PieceBelow w) pieces
    → AtMost ((n + length pieces) * 2 ^ 743) 1 (sum_from sum (λ p. at p.value k) pieces)
sum_most w k l [] sum n r h a = subst (λ (m : ℕ). AtMost (m * 2 ^ 743) 1 sum) (same n) h
  where
    same : (n : ℕ) → n ≡ n + 0
    same n = omega arith
sum_most w k l (p ∷ pieces) sum n r h a =
    subst (λ (m : ℕ). AtMost (m * 2 ^ 743) 1 (sum_from (sum ⊕ at p.value k) (λ p. at p.value k) pieces)) (moved n (length pieces))
    (sum_most w k l pieces (sum ⊕ at p.value k) (suc n) (omega arith)
    (sum_step sum (at p.value k) n 743 (omega arith) (lit≤ tt) h (a.0 k l).0) a.1)
  where
    moved : (n m : ℕ) → suc n + m ≡ n + suc m
    moved n m = omega arith

pub total_below : (w k : ℕ) → k < w → (pieces : List Piece) → length pieces ≤ 2 ^ 12 → All (PieceBelow w) pieces
    → Below 755 (total_of pieces k)
unfolding total_of
total_below w k l pieces few a =
    few_below (sum_from (bits 0) (λ p. at p.value k) pieces) (length pieces) 743 12 few
    (subst (λ (m : ℕ). AtMost (m * 2 ^ 743) 1 (sum_from (bits 0) (λ p. at p.value k) pieces)) (zero-add (length pieces))
    (sum_most w k l pieces (bits 0) 0 (le_trans (few_more (length pieces) few) (lit≤ tt)) (none_most 743) a))
  where
    few_more : (n : ℕ) → n ≤ 2 ^ 12 → suc (0 + n) ≤ suc (2 ^ 12)
    few_more n l = omega arith
