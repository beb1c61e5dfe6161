-- The halving at width w is the halving at width v with zeros behind each piece's values and errors, where the components between are
-- zero in every sample: the same pieces, the same heights, the same ending. Every piece is walked to by cuts that keep its ends in order,
-- so that no zero turns into −0 or a NaN. Assumes nothing.
use mathlib.Core.Path.{◌≡◌, refl, sym, ap, ◌∙◌}
use mathlib.Core.Bool.{Bool, true, false, ◌||◌, cond}
use mathlib.Core.List.{List, [], ◌∷◌, ◌++◌, map}
use Prim.Native.Nat.{ℕ, zero, suc, ◌-◌, ◌≤◌}
use native.Mathlib.Omega.{arith}
use lib.Dec.{lit≤}
use lib.ListN.{length, set, length-append, length-set}
use lib.Ieee.{Float, eq}
use Rattle.floats.proofs.Bools.{neither}
use Rattle.floats.proofs.Order.{not_equal_sym}
use Rattle.rounding.specs.Sizes.{InOrder}
use Rattle.rounding.proofs.Halves.{left_half, right_half_lem}
use Rattle.quadrature.specs.Rule.{half_sum, heights_of, piece_of}
use Rattle.quadrature.specs.declared.Piece.{Piece}
use Rattle.tolerance.specs.Bounds.{converged, worst_place, worst_piece, component_of, middle_of, middle_is_end, piece_at}
use Rattle.halving.specs.Halving.{Halved, ended, measure, repeat, halving}
use Rattle.halving.specs.Endings.{not_converged as NotConverged}
use Rattle.tolerance.proofs.Places.{worst_below}
use Rattle.tolerance.proofs.AllPieces.{All, all_at, all_set, all_append}
use Rattle.pieces.specs.Stored.{widened}
use Rattle.halving.specs.Scratch.{widened_halved}
use Rattle.widths.specs.Widths.{ZerosBehind}
use Rattle.widths.proofs.Rule.{half_width_zero}
use Rattle.widths.proofs.Sums.{Wide, converged_same, component_same, wider_at, worst_same}
use Rattle.widths.proofs.Pieces.{piece_wide, piece_same}

-- ---- lists of pieces
map_set : (f : Piece → Piece) (l : List Piece) (i : ℕ) (p : Piece) → map f (set l i p) ≡ set (map f l) i (f p)
map_set f [] i p = refl
map_set f (q ∷ l) zero p = refl
map_set f (q ∷ l) (suc i) p = ap (λ (t : List Piece). f q ∷ t) (map_set f l i p)

map_append : (f : Piece → Piece) (l r : List Piece) → map f (l ++ r) ≡ map f l ++ map f r
map_append f [] r = refl
map_append f (p ∷ l) r = ap (λ (t : List Piece). f p ∷ t) (map_append f l r)

-- ---- a piece's ends: bounded, in order, not equal
abbrev Apart : Float → Float → Type 0
Apart a b = InOrder 1000 a b × (eq a b ≡ false)

apart_halves : (a b : Float) → Apart a b → (eq (half_sum a b) a || eq (half_sum a b) b) ≡ false
    → Apart a (half_sum a b) × Apart (half_sum a b) b
apart_halves a b w m =
    let e = neither (eq (half_sum a b) a) (eq (half_sum a b) b) m in
    ((left_half 1000 (lit≤ tt) a b w.0, not_equal_sym (half_sum a b) a e.0), (right_half_lem 1000 (lit≤ tt) a b w.0, e.1))

by_cond : (b : Bool) (x y : Halved) (x' y' : Halved) (d : ℕ) → (b ≡ true → x ≡ widened_halved d x') → (b ≡ false → y ≡ widened_halved d y')
    → cond b x y ≡ widened_halved d (cond b x' y')
by_cond true x y x' y' d h k = h refl
by_cond false x y x' y' d h k = k refl

module _ (v w : ℕ) (g f : Float → List Float) (z : ZerosBehind v w g f) where
  abbrev Wider : List Piece → List Piece
  Wider pieces = map (widened (w - v)) pieces

  abbrev Good : Piece → Type 0
  Good p = Wide v p × Apart p.start p.end

  wide_of : (pieces : List Piece) → All Good pieces → All (Wide v) pieces
  wide_of [] a = tt
  wide_of (p ∷ pieces) a = (a.0.0, wide_of pieces a.1)

  good_piece : (a b : Float) → Apart a b → Good (piece_of v g a b)
  unfolding piece_of
  good_piece a b e = (piece_wide v g a b, e)

  measure_same : (a b : Float) → Apart a b → (heights : List Float) (next next' : Piece → List Float → Halved)
      → ((p : Piece) (taken : List Float) → Good p → next (widened (w - v) p) taken ≡ widened_halved (w - v) (next' p taken))
      → measure w f a b heights next ≡ widened_halved (w - v) (measure v g a b heights next')
  measure_same a b e heights next next' h =
      ap (λ (p : Piece). next p (heights ++ heights_of a b)) (piece_same v w g f z a b (half_width_zero a b e.0 e.1))
      ∙ h (piece_of v g a b) (heights ++ heights_of a b) (good_piece a b e)

  -- one turn: the two halves of the piece p at a place, and on; what comes after both, and after the left one
  abbrev go_on : ℕ → (Float → List Float) → ℕ → ℕ → List Piece → Piece → Piece → List Float → Halved
  go_on n y more place pieces left right taken = repeat n y more (set pieces place left ++ (right ∷ [])) taken

  abbrev right_half : ℕ → (Float → List Float) → ℕ → ℕ → Piece → List Piece → Piece → List Float → Halved
  right_half n y more place p pieces left taken = measure n y (middle_of p) p.end taken (go_on n y more place pieces left)

  abbrev turn : ℕ → (Float → List Float) → ℕ → ℕ → Piece → List Piece → List Float → Halved
  turn n y more place p pieces heights = measure n y p.start (middle_of p) heights (right_half n y more place p pieces)

  stored_same : (pieces : List Piece) (i : ℕ) (left right : Piece)
      → set (Wider pieces) i (widened (w - v) left) ++ (widened (w - v) right ∷ []) ≡ Wider (set pieces i left ++ (right ∷ []))
  stored_same pieces i left right =
      ap (λ (t : List Piece). t ++ (widened (w - v) right ∷ [])) (sym (map_set (widened (w - v)) pieces i left))
      ∙ sym (map_append (widened (w - v)) (set pieces i left) (right ∷ []))

  worst_is : (pieces : List Piece) → All Good pieces → 1 ≤ length pieces
      → worst_piece w (Wider pieces) ≡ widened (w - v) (worst_piece v pieces)
  worst_is pieces a n =
      ap (piece_at (Wider pieces)) (worst_same v w z.no_wider pieces (wide_of pieces a) n)
      ∙ wider_at v w z.no_wider pieces (worst_place v pieces) (worst_below v pieces n)

  repeat_same : (more : ℕ) (pieces : List Piece) (heights : List Float) → All Good pieces → 1 ≤ length pieces
      → repeat w f more (Wider pieces) heights ≡ widened_halved (w - v) (repeat v g more pieces heights)
  unfolding repeat
  repeat_same zero pieces heights a n =
      let c = wide_of pieces a in
      rw (converged_same v w z.no_wider pieces c)
      (by_cond (converged v pieces) _ _ _ _ (w - v) (λ t. refl)
      (λ t. ap (λ (k : ℕ). ended (NotConverged k) (Wider pieces) heights) (component_same v w z.no_wider pieces c t)))
  repeat_same (suc more) pieces heights a n =
      let c = wide_of pieces a in
      let p = worst_piece v pieces in
      let good : Good p = all_at Good pieces (worst_place v pieces) (worst_below v pieces n) a in
      rw (converged_same v w z.no_wider pieces c)
      (by_cond (converged v pieces) _ _ _ _ (w - v) (λ t. refl)
      (λ t. ap (λ (q : Piece). cond (middle_is_end q) (ended (NotConverged (component_of w (Wider pieces))) (Wider pieces) heights)
      (turn w f more (worst_place w (Wider pieces)) q (Wider pieces) heights))
      (worst_is pieces a n)
      ∙ ap (λ (i : ℕ). cond (middle_is_end p) (ended (NotConverged (component_of w (Wider pieces))) (Wider pieces) heights)
      (turn w f more i (widened (w - v) p) (Wider pieces) heights))
      (worst_same v w z.no_wider pieces c n)
      ∙ by_cond (middle_is_end p) _ _ _ _ (w - v)
      (λ m. ap (λ (k : ℕ). ended (NotConverged k) (Wider pieces) heights) (component_same v w z.no_wider pieces c t))
      (λ m. let halves = apart_halves p.start p.end good.1 m in
      measure_same p.start (middle_of p) halves.0 heights (right_half w f more (worst_place v pieces) p (Wider pieces))
      (right_half v g more (worst_place v pieces) p pieces)
      (λ left taken gl. measure_same (middle_of p) p.end halves.1 taken
      (go_on w f more (worst_place v pieces) (Wider pieces) (widened (w - v) left)) (go_on v g more (worst_place v pieces) pieces left)
      (λ right more_taken gr. ap (λ (l : List Piece). repeat w f more l more_taken) (stored_same pieces (worst_place v pieces) left right)
      ∙ repeat_same more (set pieces (worst_place v pieces) left ++ (right ∷ [])) more_taken
      (all_append Good (set pieces (worst_place v pieces) left) (right ∷ []) (all_set Good pieces (worst_place v pieces) left a gl)
      (gr, tt))
      (rw (length-append, length-set) (omega arith)))))))

  -- "Three and seven components share their integrator facts over the width"
  pub zeros_change_nothing : (lower upper : Float) (limit : ℕ) → InOrder 1000 lower upper
      → halving w f lower upper limit ≡ widened_halved (w - v) (halving v g lower upper limit)
  unfolding halving
  zeros_change_nothing lower upper limit b =
      by_cond (eq lower upper) _ _ _ _ (w - v) (λ t. refl)
      (λ t. measure_same lower upper (b, t) []
      (λ whole taken. repeat w f (limit - 1) (whole ∷ []) taken) (λ whole taken. repeat v g (limit - 1) (whole ∷ []) taken)
      (λ p taken q. repeat_same (limit - 1) (p ∷ []) taken (q, tt) (lit≤ tt)))
