-- The pieces of every strip rise, its samples are finite, and so are the values, errors and integrals worked from them:
-- of a run between break heights of at most 2^6 that rise, over a scale of at least 2^-20, whose samples at heights of
-- at most 2^28 are at most 2^700. Assumes nothing.
use Rattle.std.proofs.Common.{◌≡◌, ℕ, suc, ◌+◌, ◌*◌, ◌^◌, ◌<◌, ◌≤◌, T, List, [], ◌∷◌, length, subst, le_trans, arith, lit≤}
use lib.Ieee.{Float}
use lib.Ieee.Positive.{positive}
use Rattle.floats.specs.Operations.{◌⊕◌, bits, at}
use Rattle.rounding.specs.Sizes.{AtMost, Below, Above, InOrder}
use Rattle.rounding.proofs.Sizes.{sum_step}
use Rattle.sorting.specs.Sorted.{Rising, Each as EachHeight}
use Rattle.limits.specs.Limits.{most_strips}
use Rattle.quadrature.specs.declared.Piece.{Piece}
use Rattle.quadrature.proofs.Heights.{is_finite_lem, finite_at_lem}
use Rattle.tolerance.specs.Bounds.{total_of}
use Rattle.tolerance.proofs.AllPieces.{All}
use Rattle.halving.proofs.Reached.{Ends, ends_so}
use Rattle.halving.proofs.Heights.{samples_finite}
use Rattle.halving.proofs.Values.{PieceBelow, none_most, pieces_below, total_below}
use Rattle.halving.proofs.Rising.{cover_rises}
use Rattle.strips.specs.Strips.{Run, Worked, pieces_of, strip_of, strips_in, value_from}
use Rattle.strips.specs.Claim.{Each}
use Rattle.strips.specs.Rising.{PiecesRise, SamplesFinite, FinitePieces, NumbersFinite}
use Rattle.strips.proofs.Facts.{few_pieces, ended_reached}
use Rattle.strips.proofs.Ends.{each_in_order}

pub record SizedRun (run : Run) : Type 0 where
  pub some : 1 ≤ run.limit
  pub most : run.limit ≤ 2 ^ 12
  pub scale_above : Above 20 run.scale
  pub scale_positive : T (positive run.scale)
  pub heights_below : EachHeight (Below 6) run.heights
  pub heights_rise : Rising run.heights
  pub samples_below : (h : Float) → Below 28 h → EachHeight (Below 700) (run.integrand h)
  pub samples_wide : (h : Float) → run.width ≤ length (run.integrand h)
  pub few_strips : length (strips_in run) ≤ most_strips

-- ---- the numbers of a strip's pieces
finite_pieces : (w : ℕ) (pieces : List Piece) → All (PieceBelow w) pieces → FinitePieces w pieces
finite_pieces w [] a = tt
finite_pieces w (p ∷ pieces) a = (
  (λ k l. (is_finite_lem (at p.value k) (a.0 k l).0.finite, is_finite_lem (at p.error k) (a.0 k l).1.finite)),
  finite_pieces w pieces
      a.1,
)

-- ---- a component's values, strip by strip
value_most : (k : ℕ) (strips : List Worked) (sum : Float) (n : ℕ) → n + length strips < 2 ^ 53 → AtMost (n * 2 ^ 755) 1 sum
    → Each (λ s. Below 755 (total_of (pieces_of s) k)) strips
    → AtMost ((n + length strips) * 2 ^ 755) 1 (value_from sum k strips)
value_most k [] sum n r h e = subst (λ (m : ℕ). AtMost (m * 2 ^ 755) 1 sum) (same n) h
  where
    same : (n : ℕ) → n ≡ n + 0
    same n = omega arith
value_most k (s ∷ strips) sum n r h e =
    subst (λ (m : ℕ). AtMost (m * 2 ^ 755) 1 (value_from (sum ⊕ total_of (pieces_of s) k) k strips)) (moved n (length strips))
    (value_most k strips (sum ⊕ total_of (pieces_of s) k) (suc n) (omega arith)
    (sum_step sum (total_of (pieces_of s) k) n 755 (omega arith) (lit≤ tt) h e.0) e.1)
  where
    moved : (n m : ℕ) → suc n + m ≡ n + suc m
    moved n m = omega arith

module _ (run : Run) (z : SizedRun run) where
  abbrev strip : Float → Float → Worked
  strip lower upper = strip_of run.width run.integrand run.limit lower upper

  each : (P : Worked → Type 0) → ((lower upper : Float) → InOrder 26 lower upper → P (strip lower upper)) → Each P (strips_in run)
  each P h =
      each_in_order run.width run.integrand run.limit run.scale 6 20 (lit≤ tt) z.scale_above z.scale_positive P h
      run.heights z.heights_below z.heights_rise

  ways : (lower upper : Float) → Ends run.width run.integrand lower upper run.limit (strip lower upper).halved
  ways lower upper = ends_so run.width run.integrand lower upper run.limit z.some

  pub pieces_rise : PiecesRise (strips_in run)
  pieces_rise =
      each _ (λ a b i other. cover_rises 26 (lit≤ tt) a b (pieces_of (strip a b)) i
      (ended_reached run.width run.integrand a b run.limit (ways a b) other).covered)

  pub all_finite : SamplesFinite run (strips_in run)
  all_finite =
      each _ (λ a b i. samples_finite run.width run.integrand
      (finite_at_lem run.width run.integrand 28 700 z.samples_below z.samples_wide) a b run.limit i)

  strip_below : (lower upper : Float) → InOrder 26 lower upper → All (PieceBelow run.width) (pieces_of (strip lower upper))
  strip_below lower upper i = pieces_below run.width run.integrand z.samples_below z.samples_wide lower upper run.limit i

  totals_below : (k : ℕ) → k < run.width → Each (λ s. Below 755 (total_of (pieces_of s) k)) (strips_in run)
  totals_below k l =
      each _
      (λ a b i. total_below run.width k l (pieces_of (strip a b))
      (le_trans (few_pieces run.width run.integrand a b run.limit (ways a b)) z.most) (strip_below a b i))

  pub numbers_finite : NumbersFinite run (strips_in run)
  numbers_finite =
      record {
        pieces = each _ (λ a b i. finite_pieces run.width (pieces_of (strip a b)) (strip_below a b i));
        integrals = λ k l. is_finite_lem (value_from (bits 0) k (strips_in run))
            (value_most k (strips_in run) (bits 0) 0 (le_trans (enough (length (strips_in run)) z.few_strips) (lit≤ tt)) (none_most 755)
            (totals_below k l)).finite;
      }
    where
      enough : (n : ℕ) → n ≤ most_strips → suc (0 + n) ≤ most_strips + 1
      enough n l = omega arith
