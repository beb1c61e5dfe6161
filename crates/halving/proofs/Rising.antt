-- A full cover strictly rises where its ends are bounded and in order: each half-sum lies between its parent's ends, and no piece is empty.
-- Assumes nothing.
use mathlib.Core.Path.{◌≡◌, sym, ap, ◌∙◌, subst}
use mathlib.Core.Bool.{true, false}
use mathlib.Core.List.{List, [], ◌∷◌, ◌++◌, map}
use Prim.Native.Nat.{ℕ, zero, suc, ◌≤◌}
use lib.Dec.{T}
use lib.Ieee.{Float, lt, eq, le}
use lib.Ieee.Bits.{is_true}
use lib.Ieee.Scale.{finite}
use Rattle.floats.proofs.Order.{lt_asym, below_through, below_of_le}
use Rattle.rounding.specs.Sizes.{InOrder}
use Rattle.rounding.proofs.Signs.{finite_no_nan}
use Rattle.rounding.proofs.Halves.{left_half, right_half_lem}
use Rattle.quadrature.specs.Rule.{half_sum}
use Rattle.quadrature.specs.declared.Piece.{Piece}
use Rattle.tolerance.specs.Bounds.{piece_at}
use Rattle.halving.specs.Cover.{Tree, piece, halves, places_of, CutAtHalfSums, EndToEnd, NoneEmpty, Cover}
use Rattle.halving.specs.Rising.{by_start, EachRises, StartsRise, CutsBetween, Rises}
use Rattle.halving.proofs.Covers.{Covered}
use Rattle.halving.proofs.ByStart.{by_start_lem}

-- a place past the pieces has a NaN for a start
empty_at : (pieces : List Piece) (i : ℕ) → NoneEmpty pieces → T (finite (piece_at pieces i).start)
    → eq (piece_at pieces i).start (piece_at pieces i).end ≡ false
empty_at [] i n f = absurd f
empty_at (p ∷ pieces) zero n f = n.0
empty_at (p ∷ pieces) (suc i) n f = empty_at pieces i n.1 f

each_append : (pieces : List Piece) (l r : List ℕ) → EachRises (map (piece_at pieces) l) → EachRises (map (piece_at pieces) r)
    → EachRises (map (piece_at pieces) (l ++ r))
each_append pieces [] r p q = q
each_append pieces (i ∷ l) r p q = (p.0, each_append pieces l r p.1 q)

-- a tree from a to b
record TreeRises (pieces : List Piece) (a b : Float) (t : Tree) : Type 0 where
  ends : lt a b ≡ true
  cuts : CutsBetween a b t
  each : EachRises (map (piece_at pieces) (places_of t))

module _ (p : ℕ) (room : p ≤ 1000) (pieces : List Piece) (none : NoneEmpty pieces) where
  tree_rises : (t : Tree) (a b : Float) → InOrder p a b → CutAtHalfSums pieces a b t → TreeRises pieces a b t
  tree_rises (piece i) a b w c =
      let start = (piece_at pieces i).start in
      let end = (piece_at pieces i).end in
      let apart : eq start end ≡ false = empty_at pieces i none (subst (λ (z : Float). T (finite z)) (sym c.0) w.lower_below.finite)
      in
      let e : eq a b ≡ false = sym (ap (λ (z : Float). eq z b) c.0) ∙ sym (ap (λ (z : Float). eq start z) c.1) ∙ apart in
      let l : lt a b ≡ true = below_of_le a b (is_true (le a b) w.ordered) e in
      record { ends = l; cuts = tt; each = (ap (λ (z : Float). lt z end) c.0 ∙ ap (λ (z : Float). lt a z) c.1 ∙ l, tt) }
  tree_rises (halves left right) a b w c =
      let l = tree_rises left a (half_sum a b) (left_half p room a b w) c.0 in
      let r = tree_rises right (half_sum a b) b (right_half_lem p room a b w) c.1 in
      record {
        ends = below_through a (half_sum a b) b (finite_no_nan b w.upper_below.finite) l.ends (lt_asym (half_sum a b) b r.ends);
        cuts = (l.ends, r.ends, l.cuts, r.cuts);
        each = each_append pieces (places_of left) (places_of right) l.each r.each;
      }

starts_rise : (a b : Float) (pieces : List Piece) → EndToEnd a b pieces → EachRises pieces → StartsRise pieces
starts_rise a b [] e h = tt
starts_rise a b (p ∷ []) e h = tt
starts_rise a b (p ∷ q ∷ pieces) e h =
    (ap (λ (z : Float). lt p.start z) e.1.0 ∙ h.0, starts_rise p.end b (q ∷ pieces) e.1 h.1)

pub cover_rises : (p : ℕ) → p ≤ 1000 → (lower upper : Float) (pieces : List Piece) → InOrder p lower upper → Covered lower upper pieces
    → Rises lower upper pieces
cover_rises p room lower upper pieces w c =
    let upward = map (piece_at pieces) (places_of c.cover.tree) in
    let tree : (cover : Cover lower upper pieces) → TreeRises pieces lower upper cover.tree =
    λ cover. tree_rises p room pieces cover.none_empty cover.tree lower upper w cover.cut_at_half_sums in
    let each : EachRises upward = (tree c.cover).each in
    let starts : StartsRise upward = starts_rise lower upper upward c.cover.end_to_end each in
    let same : upward ≡ by_start pieces = sym (by_start_lem lower upper pieces c starts) in
    record {
      each_rises = subst EachRises same each;
      starts_rise = subst StartsRise same starts;
      end_to_end = subst (EndToEnd lower upper) same c.cover.end_to_end;
      cuts_between = λ cover. (tree cover).cuts;
    }
