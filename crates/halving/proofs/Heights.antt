-- What holds of every piece and every height of a halving whose ends are at most 2^26 and in order: each cut lies
-- between its parent's ends, so no piece reaches further than the strip, and no height is over 2^28. So the samples are
-- finite where those at such heights are. Assumes nothing.
use mathlib.Core.Path.{◌≡◌, refl}
use mathlib.Core.Bool.{Bool, true, false, cond}
use mathlib.Core.List.{List, [], ◌∷◌, ◌++◌}
use Prim.Native.Nat.{ℕ, ◌+◌, ◌-◌, ◌≤◌}
use native.Mathlib.Nat.{le_refl}
use native.Mathlib.Omega.{arith}
use lib.Dec.{lit≤}
use lib.ListN.{length, set}
use lib.Ieee.{Float, eq}
use Rattle.rounding.specs.Sizes.{Below, InOrder}
use Rattle.rounding.proofs.Halves.{left_half, right_half_lem}
use Rattle.sorting.specs.Sorted.{Each}
use Rattle.quadrature.specs.Rule.{heights_of, finite_at, piece_of}
use Rattle.quadrature.specs.declared.Piece.{Piece}
use Rattle.quadrature.proofs.Heights.{each_append, heights_below}
use Rattle.tolerance.specs.Bounds.{worst_place, worst_piece, middle_of}
use Rattle.tolerance.proofs.Places.{worst_below}
use Rattle.tolerance.proofs.AllPieces.{All, all_at, all_set, all_append}
use Rattle.halving.specs.Halving.{Halved, repeat, halving}
use Rattle.halving.proofs.Outcomes.{outcome, kept, one_more, halves_of_worst, left_heights, right_heights}

-- a piece that reaches no further than a strip
abbrev Inside : Piece → Type 0
Inside p = InOrder 26 p.start p.end

abbrev Bounded : List Float → Type 0
Bounded heights = Each (Below 28) heights

module _ (w : ℕ) (f : Float → List Float) (P : Piece → Type 0) (measured : (a b : Float) → InOrder 26 a b → P (piece_of w f a b)) where
  -- what a halving keeps
  record Within (pieces : List Piece) (heights : List Float) : Type 0 where
    some : 1 ≤ length pieces
    inside : All Inside pieces
    each : All P pieces
    bounded : Bounded heights

  piece_inside : (a b : Float) → InOrder 26 a b → Inside (piece_of w f a b)
  unfolding piece_of
  piece_inside a b i = i

  piece_heights : (a b : Float) → InOrder 26 a b → Bounded (heights_of a b)
  piece_heights a b i = heights_below a b i.lower_below i.upper_below

  halves_within : (pieces : List Piece) (heights : List Float) → Within pieces heights
      → Within (halves_of_worst w f pieces) ((heights ++ left_heights w f pieces) ++ right_heights w f pieces)
  halves_within pieces heights z =
      let p = worst_piece w pieces in
      let place = worst_place w pieces in
      let i : Inside p = all_at Inside pieces place (worst_below w pieces z.some) z.inside in
      let l : InOrder 26 p.start (middle_of p) = left_half 26 (lit≤ tt) p.start p.end i in
      let r : InOrder 26 (middle_of p) p.end = right_half_lem 26 (lit≤ tt) p.start p.end i in
      let left = piece_of w f p.start (middle_of p) in
      let right = piece_of w f (middle_of p) p.end in
      record {
        some = omega (arith, one_more w f pieces);
        inside = all_append Inside (set pieces place left) (right ∷ [])
            (all_set Inside pieces place left z.inside (piece_inside p.start (middle_of p) l))
            (piece_inside (middle_of p) p.end r, tt);
        each = all_append P (set pieces place left) (right ∷ [])
            (all_set P pieces place left z.each (measured p.start (middle_of p) l)) (measured (middle_of p) p.end r, tt);
        bounded = each_append (Below 28) (heights ++ left_heights w f pieces) (right_heights w f pieces)
            (each_append (Below 28) heights (left_heights w f pieces) z.bounded (piece_heights p.start (middle_of p) l))
            (piece_heights (middle_of p) p.end r);
      }

  abbrev Good : Halved → Type 0
  Good h = All P h.pieces × Bounded h.heights

  repeat_good : (lower upper : Float) (more : ℕ) → InOrder 26 lower upper
      → Good (repeat w f more (piece_of w f lower upper ∷ []) (heights_of lower upper))
  repeat_good lower upper more i =
      let z = kept w f
      (outcome w f (1 + more) Within (λ pieces heights z l m. halves_within pieces heights z) more (piece_of w f lower upper ∷ [])
      (heights_of lower upper)
      (record {
        some = le_refl 1;
        inside = (piece_inside lower upper i, tt);
        each = (measured lower upper i, tt);
        bounded = piece_heights
            lower upper i;
      }) refl) in
      (z.each, z.bounded)

  by_cond : (b : Bool) (x y : Halved) → Good x → Good y → Good (cond b x y)
  by_cond true x y h k = h
  by_cond false x y h k = k

  pub each_piece : (lower upper : Float) (limit : ℕ) → InOrder 26 lower upper
      → All P (halving w f lower upper limit).pieces × Each (Below 28) (halving w f lower upper limit).heights
  unfolding halving
  each_piece lower upper limit i = by_cond (eq lower upper) _ _ (tt, tt) (repeat_good lower upper (limit - 1) i)

pub samples_finite : (w : ℕ) (f : Float → List Float) → ((l : List Float) → Each (Below 28) l → finite_at w f l ≡ true)
    → (lower upper : Float) (limit : ℕ) → InOrder 26 lower upper
    → finite_at w f (halving w f lower upper limit).heights ≡ true
samples_finite w f finite lower upper limit i = finite (halving w f lower upper limit).heights
    (each_piece w f (λ p. Unit {0}) (λ a b j. tt) lower upper limit i).1
