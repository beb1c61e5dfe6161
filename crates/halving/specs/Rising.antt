-- "Sorted by start, the pieces of an accepted strip strictly rise, every cut lying between its parent's ends as f64
-- compares them" (document 02, Paper 14).
use Rattle.std.specs.Prelude.{◌≡◌, true, cond, List, [], ◌∷◌, Float}
use Rattle.std.specs.Float.Ieee.{lt}
use Rattle.quadrature.specs.Rule.{half_sum}
use Rattle.quadrature.specs.declared.Piece.{Piece}
use Rattle.halving.specs.Cover.{Tree, piece, halves, EndToEnd, Cover}

-- "Sorted by start": a piece goes in front of the first one whose start is above its own
unfoldable pub insert_by_start : Piece → List Piece → List Piece
insert_by_start p [] = p ∷ []
insert_by_start p (q ∷ pieces) = cond (lt p.start q.start) (p ∷ q ∷ pieces) (q ∷ insert_by_start p pieces)

-- "Sorted by start": the pieces go in one by one, the first of them last
unfoldable pub by_start : List Piece → List Piece
by_start [] = []
by_start (p ∷ pieces) = insert_by_start p (by_start pieces)

-- "strictly rise": each piece's start is below its end
abbrev pub EachRises : List Piece → Type 0
EachRises [] = Unit {0}
EachRises (p ∷ pieces) = (lt p.start p.end ≡ true) × EachRises pieces

-- "strictly rise": each piece's start is below the next one's
abbrev pub StartsRise : List Piece → Type 0
StartsRise [] = Unit {0}
StartsRise (p ∷ []) = Unit {0}
StartsRise (p ∷ q ∷ pieces) = (lt p.start q.start ≡ true) × StartsRise (q ∷ pieces)

-- "every cut lying between its parent's ends": each cut of a tree from a to b
abbrev pub CutsBetween : Float → Float → Tree → Type 0
CutsBetween a b (piece i) = Unit {0}
CutsBetween a b (halves left right) =
    (lt a (half_sum a b) ≡ true) × (lt (half_sum a b) b ≡ true) × CutsBetween a (half_sum a b) left
    × CutsBetween (half_sum a b) b right

-- the pieces of a strip, given in storage order, rise
pub record Rises (lower upper : Float) (pieces : List Piece) : Type 0 where
  pub each_rises : EachRises (by_start pieces)
  pub starts_rise : StartsRise (by_start pieces)
  -- sorted by start they run end to end, so that they can be drawn one after another
  pub end_to_end : EndToEnd lower upper (by_start pieces)
  -- every cut of a full cover lies between its parent's ends, however it was cut
  pub cuts_between : (cover : Cover lower upper pieces) → CutsBetween lower upper cover.tree
