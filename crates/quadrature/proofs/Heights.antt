-- The heights of a piece: there are fifteen, and they are at most 2^28, with its ends at most 2^26. Where each
-- component of a sample is bounded, it is finite. Assumes nothing.
use mathlib.Core.Path.{◌≡◌, refl}
use mathlib.Core.Bool.{true}
use mathlib.Core.List.{List, [], ◌∷◌, ◌++◌}
use Prim.Native.Nat.{ℕ, zero, suc, ◌+◌, ◌*◌, ◌≤◌, ◌<◌}
use native.Mathlib.Nat.{le_trans, le-suc}
use native.Mathlib.Omega.{arith}
use lib.Dec.{T, lit≤}
use lib.ListN.{length, length-append}
use lib.Count.{count_trailing_zeros}
use lib.Ieee.{Float, nan, inf, fin, round, size, units, odd, span, climb}
use lib.Ieee.Scale.{finite}
use Rattle.floats.specs.Operations.{at}
use Rattle.floats.specs.Constants.{half}
use Rattle.floats.specs.Floats.{is_finite}
use Rattle.floats.proofs.Every.{every_of_each}
use Rattle.rounding.specs.Sizes.{Below}
use Rattle.rounding.proofs.Sizes.{half_below, weaker}
use Rattle.rounding.proofs.Terms.{given, ◌less◌, ◌times◌, ◌plus◌, within}
use Rattle.sorting.specs.Sorted.{Each}
use Rattle.gauss_kronrod.specs.Tables.{nodes}
use Rattle.limits.specs.Limits.{piece_samples}
use Rattle.quadrature.specs.Rule.{half_sum, half_width, minus_side, plus_side, heights_to, heights_of, finite_sample, finite_at}

-- ---- "it appends the fifteen heights"
pub heights_count : (n : ℕ) (centre half : Float) → length (heights_to n centre half) ≡ 2 * n + 1
unfolding heights_to
heights_count zero centre half = refl
heights_count (suc n) centre half = rw length-append (omega (arith, heights_count n centre half))

pub fifteen : (start end : Float) → length (heights_of start end) ≡ piece_samples
fifteen start end = heights_count 7 (half_sum start end) (half_width start end)

-- ---- lists of bounded f64s
pub each_at : (P : Float → Type 0) (l : List Float) (i : ℕ) → Each P l → i < length l → P (at l i)
each_at P [] i e h = absurd (let z : ⊥ = omega arith in z)
each_at P (x ∷ l) zero e h = e.0
each_at P (x ∷ l) (suc i) e h = each_at P l i e.1 (omega arith)

pub each_append : (P : Float → Type 0) (l r : List Float) → Each P l → Each P r → Each P (l ++ r)
each_append P [] r a b = b
each_append P (x ∷ l) r a b = (a.0, each_append P l r a.1 b)

-- ---- how large they are
nodes_below : Each (Below 0) nodes
unfolding nodes round size units odd count_trailing_zeros span climb
nodes_below = (
  record { finite = tt; size = lit≤ tt },
  (
    record { finite = tt; size = lit≤ tt },
    (
      record { finite = tt; size = lit≤ tt },
      (
        record { finite = tt; size = lit≤ tt },
        (
          record { finite = tt; size = lit≤ tt },
          (
            record { finite = tt; size = lit≤ tt },
            (
              record { finite = tt; size = lit≤ tt },
              (
                record { finite = tt; size = lit≤ tt },
                tt,
              ),
            ),
          ),
        ),
      ),
    ),
  ),
)

eight_nodes : length nodes ≡ 8
unfolding nodes
eight_nodes = refl

pub sides_below : (i : ℕ) (centre reach : Float) → i < 7 → Below 27 centre → Below 27 reach
    → Below 28 (minus_side centre reach i) × Below 28 (plus_side centre reach i)
sides_below i centre reach l c r =
    let node = each_at (Below 0) nodes i nodes_below (rw eight_nodes (le_trans l (lit≤ tt))) in
    let up_to_lem = within (27 ∷ 27 ∷ 0 ∷ []) [] (centre ∷ reach ∷ at nodes i ∷ []) [] (c, (r, (node, tt))) tt in
    (up_to_lem (given 0 less given 1 times given 2) 28 tt, up_to_lem (given 0 plus given 1 times given 2) 28 tt)

heights_to_lem : (n : ℕ) (centre reach : Float) → n ≤ 7 → Below 27 centre → Below 27 reach → Each (Below 28) (heights_to n centre reach)
unfolding heights_to
heights_to_lem zero centre reach l c r = (weaker centre 27 28 (lit≤ tt) c, tt)
heights_to_lem (suc i) centre reach l c r =
    let sides = sides_below i centre reach l c r in
    each_append (Below 28) (heights_to i centre reach) (minus_side centre reach i ∷ plus_side centre reach i ∷ [])
    (heights_to_lem i centre reach (le_trans (le-suc i) l) c r)
    (sides.0, (sides.1, tt))

module _ (a b : Float) (ha : Below 26 a) (hb : Below 26 b) where
  pub centre_below : Below 27 (half_sum a b)
  centre_below = within (26 ∷ 26 ∷ 0 ∷ []) [] (a ∷ b ∷ half ∷ []) [] (ha, (hb, (half_below, tt))) tt (given 2 times (given 0 plus given 1))
      27 tt

  pub reach_below : Below 27 (half_width a b)
  reach_below = within (26 ∷ 26 ∷ 0 ∷ []) [] (a ∷ b ∷ half ∷ []) [] (ha, (hb, (half_below, tt))) tt (given 2 times (given 1 less given 0))
      27 tt

  pub heights_below : Each (Below 28) (heights_of a b)
  heights_below = heights_to_lem 7 (half_sum a b) (half_width a b) (lit≤ tt) centre_below reach_below

-- ---- the samples there
pub is_finite_lem : (x : Float) → T (finite x) → is_finite x ≡ true
is_finite_lem nan i = absurd i
is_finite_lem (inf s) i = absurd i
is_finite_lem (fin s m e) i = refl

module _ (w : ℕ) (f : Float → List Float) (p q : ℕ) (bounded : (h : Float) → Below p h → Each (Below q) (f h))
    (wide : (h : Float) → w ≤ length (f h)) where
  sample_finite : (h : Float) → Below p h → finite_sample w (f h) ≡ true
  sample_finite h b =
      every_of_each w (λ k. is_finite (at (f h) k))
      (λ k l. is_finite_lem (at (f h) k) (each_at (Below q) (f h) k (bounded h b) (le_trans l (wide h))).finite)

  pub finite_at_lem : (l : List Float) → Each (Below p) l → finite_at w f l ≡ true
  unfolding finite_at
  finite_at_lem [] e = refl
  finite_at_lem (h ∷ l) e = rw (sample_finite h e.0, finite_at_lem l e.1)
