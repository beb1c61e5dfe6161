-- Every piece of a halving has as many values and errors as there are components. So zeros behind them change none of the run's totals, and
-- their own totals are +0. Assumes nothing.
use mathlib.Core.Path.{◌≡◌, refl, ap, ◌∙◌}
use mathlib.Core.Bool.{Bool, true, false, cond}
use mathlib.Core.List.{List, [], ◌∷◌, map}
use Prim.Native.Nat.{ℕ, ◌+◌, ◌-◌, ◌≤◌, ◌<◌}
use lib.ListN.{length, set}
use lib.Ieee.{Float, eq}
use Rattle.floats.specs.Operations.{◌⊕◌, ◌⊘◌, bits}
use Rattle.rounding.proofs.Zeros.{zero_plus_zero}
use Rattle.quadrature.specs.Rule.{heights_of, piece_of}
use Rattle.quadrature.specs.declared.Piece.{Piece}
use Rattle.tolerance.specs.Bounds.{total_of, worst_place, worst_piece, middle_of}
use Rattle.tolerance.proofs.AllPieces.{All, all_set, all_append}
use Rattle.halving.specs.Halving.{Halved, repeat, halving}
use Rattle.halving.proofs.Outcomes.{outcome, kept}
use Rattle.strips.specs.Strips.{Worked, pieces_of, is_accepted, worked_of, value_from, widened_strip}
use Rattle.strips.specs.Claim.{Each}
use Rattle.widths.proofs.Sums.{Wide, total_first, total_others}
use Rattle.widths.proofs.Pieces.{piece_wide}

by_pieces : (w : ℕ) (b : Bool) (x y : Halved) → All (Wide w) x.pieces → All (Wide w) y.pieces → All (Wide w) (cond b x y).pieces
by_pieces w true x y h k = h
by_pieces w false x y h k = k

module _ (w : ℕ) (f : Float → List Float) where
  repeat_wide : (more : ℕ) (pieces : List Piece) (heights : List Float) → All (Wide w) pieces
      → All (Wide w) (repeat w f more pieces heights).pieces
  repeat_wide more pieces heights z =
      kept w f
      (outcome w f (length pieces + more) (λ ps hs. All (Wide w) ps) (λ ps hs k l m.
      let p = worst_piece w ps in
      let left = piece_of w f p.start (middle_of p) in
      let right = piece_of w f (middle_of p) p.end in
      all_append (Wide w) (set ps (worst_place w ps) left) (right ∷ [])
      (all_set (Wide w) ps (worst_place w ps) left k (piece_wide w f p.start (middle_of p)))
      (piece_wide w f (middle_of p) p.end, tt))
      more pieces heights z refl)

  halving_wide : (lower upper : Float) (limit : ℕ) → All (Wide w) (halving w f lower upper limit).pieces
  unfolding halving
  halving_wide lower upper limit =
      by_pieces w (eq lower upper) _ _ tt
      (repeat_wide (limit - 1) (piece_of w f lower upper ∷ []) (heights_of lower upper) (piece_wide w f lower upper, tt))

-- ---- the totals of a run: the first v are those of width v, the others +0
worked_wide : (w : ℕ) (f : Float → List Float) (limit : ℕ) (scale : Float) (heights : List Float)
    → Each (λ s. All (Wide w) (pieces_of s)) (worked_of w f limit scale heights)
unfolding worked_of
worked_wide w f limit scale [] = tt
worked_wide w f limit scale (h ∷ []) = tt
worked_wide w f limit scale (h ∷ k ∷ heights) = (
  halving_wide w f (h ⊘ scale) (k ⊘ scale) limit,
  look (worked_wide w f limit scale (k ∷ heights))
      (is_accepted (halving w f (h ⊘ scale) (k ⊘ scale) limit).ending),
)
  where
    look : Each (λ s. All (Wide w) (pieces_of s)) (worked_of w f limit scale (k ∷ heights)) → (b : Bool)
        → Each (λ s. All (Wide w) (pieces_of s)) (cond b (worked_of w f limit scale (k ∷ heights)) [])
    look e true = e
    look e false = tt

value_first : (v w : ℕ) → v ≤ w → (k : ℕ) → k < v → (sum : Float) (strips : List Worked) → Each (λ s. All (Wide v) (pieces_of s)) strips
    → value_from sum k (map (widened_strip (w - v)) strips) ≡ value_from sum k strips
value_first v w l k b sum [] e = refl
value_first v w l k b sum (s ∷ strips) e =
    ap (λ (x : Float). value_from (sum ⊕ x) k (map (widened_strip (w - v)) strips)) (total_first v w l (pieces_of s) e.0 k b)
    ∙ value_first v w l k b (sum ⊕ total_of (pieces_of s) k) strips e.1

value_others : (v w : ℕ) → v ≤ w → (k : ℕ) → v ≤ k → k < w → (strips : List Worked) → Each (λ s. All (Wide v) (pieces_of s)) strips
    → value_from (bits 0) k (map (widened_strip (w - v)) strips) ≡ bits 0
value_others v w l k a b [] e = refl
value_others v w l k a b (s ∷ strips) e =
    ap (λ (x : Float). value_from (bits 0 ⊕ x) k (map (widened_strip (w - v)) strips)) (total_others v w l (pieces_of s) e.0 k a b)
    ∙ ap (λ (x : Float). value_from x k (map (widened_strip (w - v)) strips)) zero_plus_zero
    ∙ value_others v w l k a b strips e.1

module _ (v w : ℕ) (l : v ≤ w) (g : Float → List Float) (limit : ℕ) (scale : Float) (heights : List Float) where
  pub totals_same : (k : ℕ) → k < v → value_from (bits 0) k (map (widened_strip (w - v)) (worked_of v g limit scale heights))
      ≡ value_from (bits 0) k (worked_of v g limit scale heights)
  totals_same k b = value_first v w l k b (bits 0) (worked_of v g limit scale heights) (worked_wide v g limit scale heights)

  pub other_totals : (k : ℕ) → v ≤ k → k < w
      → value_from (bits 0) k (map (widened_strip (w - v)) (worked_of v g limit scale heights)) ≡ bits 0
  other_totals k a b = value_others v w l k a b (worked_of v g limit scale heights) (worked_wide v g limit scale heights)
