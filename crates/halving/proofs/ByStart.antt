-- Sorted by start, the pieces are those of a cover from its lower end to its upper, where these rise: of the places
-- from m on, which the cover has in the order of their starts, each goes in before the ones behind it. Assumes nothing.
use mathlib.Core.Path.{◌≡◌, refl, sym, ap, ◌∙◌, subst}
use mathlib.Core.Logic.{⊎_elim}
use mathlib.Core.Bool.{Bool, true, false, cond}
use mathlib.Core.List.{List, [], ◌∷◌, ◌++◌, map}
use Prim.Native.Nat.{ℕ, zero, suc, ◌+◌, ◌<◌}
use native.Mathlib.Nat.{eq-or-lt_of_le, zero-add}
use native.Mathlib.Omega.{arith}
use borrow.Author.Tests.{le-leb, lt-leb, leb-true, leb-false, eqb-true, eqb-false}
use lib.Dec.{leb, eqb}
use lib.ListN.{length, drop}
use lib.Seq.{drop-cons, drop-length}
use lib.Ieee.{Float, nan, lt, is_nan}
use Rattle.floats.proofs.Bools.{no}
use Rattle.floats.proofs.Order.{lt_asym, below_through, below_nan}
use Rattle.quadrature.specs.Rule.{no_piece}
use Rattle.quadrature.specs.declared.Piece.{Piece}
use Rattle.tolerance.specs.Bounds.{piece_at}
use Rattle.halving.specs.Cover.{Tree, piece, halves, places_of, occurrences}
use Rattle.halving.specs.Rising.{StartsRise, insert_by_start, by_start}
use Rattle.halving.proofs.Covers.{Below, Covered}

-- the places from m on
abbrev from : ℕ → List ℕ → List ℕ
from m [] = []
from m (i ∷ l) = cond (leb m i) (i ∷ from m l) (from m l)

abbrev AllBelow : ℕ → List ℕ → Type 0
AllBelow n [] = Unit {0}
AllBelow n (i ∷ l) = (i < n) × AllBelow n l

from_none : (n : ℕ) (l : List ℕ) → AllBelow n l → from n l ≡ []
from_none n [] b = refl
from_none n (i ∷ l) b = rw (lt-leb n i b.0, from_none n l b.1)

from_all : (l : List ℕ) → from 0 l ≡ l
from_all [] = refl
from_all (i ∷ l) = rw (le-leb 0 i (omega arith), from_all l)

-- where i is not m
apart : (m i : ℕ) → (i ≡ m → ⊥) → leb m i ≡ leb (suc m) i
apart m i n = look (leb m i) refl
  where
    look : (b : Bool) → leb m i ≡ b → leb m i ≡ leb (suc m) i
    look true e = e
        ∙ sym (le-leb (suc m) i (⊎_elim (λ (h : m ≡ i). absurd (n (sym h))) (λ (h : m < i). h) (eq-or-lt_of_le (leb-true m i e))))
    look false e = e ∙ sym (lt-leb (suc m) i (let h = leb-false m i e in omega arith))

from_same : (m : ℕ) (l : List ℕ) → occurrences m l ≡ 0 → from m l ≡ from (suc m) l
from_same m [] o = refl
from_same m (i ∷ l) o = look (from_same m l) (eqb i m) refl o
  where
    look : (occurrences m l ≡ 0 → from m l ≡ from (suc m) l) → (b : Bool) → eqb i m ≡ b
        → cond b (suc (occurrences m l)) (occurrences m l) ≡ 0 → from m (i ∷ l) ≡ from (suc m) (i ∷ l)
    look r true q z = absurd (let t : ⊥ = omega arith in t)
    look r false q z = rw (apart m i (eqb-false i m q), r z)

above_no_nan : (x y : Float) → lt x y ≡ true → is_nan y ≡ false
above_no_nan x y h = look (is_nan y) refl
  where
    look : (b : Bool) → is_nan y ≡ b → is_nan y ≡ false
    look true e = no (sym h ∙ below_nan x y e)
    look false e = e

module _ (pieces : List Piece) where
  abbrev start : ℕ → Float
  start i = (piece_at pieces i).start

  abbrev Listed : List ℕ → List Piece
  Listed l = map (piece_at pieces) l

  -- x is below the start at each place
  abbrev UnderAll : Float → List ℕ → Type 0
  UnderAll x [] = Unit {0}
  UnderAll x (i ∷ l) = (lt x (start i) ≡ true) × UnderAll x l

  abbrev Rise : List ℕ → Type 0
  Rise [] = Unit {0}
  Rise (i ∷ l) = UnderAll (start i) l × Rise l

  under_next : (x : Float) (i : ℕ) (l : List ℕ) → lt x (start i) ≡ true → UnderAll (start i) l → UnderAll x l
  under_next x i [] e u = tt
  under_next x i (j ∷ l) e u = (
    below_through x (start i) (start j) (above_no_nan (start i) (start j) u.0) e (lt_asym (start i) (start j) u.0),
    under_next x i
        l e u.1,
  )

  rise_of : (l : List ℕ) → StartsRise (Listed l) → Rise l
  rise_of [] s = tt
  rise_of (i ∷ []) s = (tt, tt)
  rise_of (i ∷ j ∷ l) s = let r = rise_of (j ∷ l) s.1 in ((s.0, under_next (start i) j l s.0 r.0), r)

  under_from : (x : Float) (m : ℕ) (l : List ℕ) → UnderAll x l → UnderAll x (from m l)
  under_from x m [] u = tt
  under_from x m (i ∷ l) u = look (leb m i) (under_from x m l u.1)
    where
      look : (b : Bool) → UnderAll x (from m l) → UnderAll x (cond b (i ∷ from m l) (from m l))
      look true r = (u.0, r)
      look false r = r

  under_at : (x : Float) (m : ℕ) (l : List ℕ) → UnderAll x l → occurrences m l ≡ 1 → lt x (start m) ≡ true
  under_at x m [] u o = absurd (let t : ⊥ = omega arith in t)
  under_at x m (i ∷ l) u o = look (under_at x m l u.1) (eqb i m) refl o
    where
      look : (occurrences m l ≡ 1 → lt x (start m) ≡ true) → (b : Bool) → eqb i m ≡ b → cond b (suc (occurrences m l)) (occurrences m l) ≡ 1
          → lt x (start m) ≡ true
      look r true q z = subst (λ (k : ℕ). lt x (start k) ≡ true) (eqb-true i m q) u.0
      look r false q z = r z

  insert_first : (p : Piece) (l : List ℕ) → UnderAll p.start l → insert_by_start p (Listed l) ≡ p ∷ Listed l
  unfolding insert_by_start
  insert_first p [] u = refl
  insert_first p (i ∷ l) u = rw u.0

  insert_behind : (p : Piece) (i : ℕ) (l : List ℕ) → lt p.start (start i) ≡ false
      → insert_by_start p (Listed (i ∷ l)) ≡ piece_at pieces i ∷ insert_by_start p (Listed l)
  unfolding insert_by_start
  insert_behind p i l e = rw e

  insert_place_lem : (m : ℕ) (l : List ℕ) → Rise l → occurrences m l ≡ 1
      → insert_by_start (piece_at pieces m) (Listed (from (suc m) l)) ≡ Listed (from m l)
  insert_place_lem m [] r o = absurd (let t : ⊥ = omega arith in t)
  insert_place_lem m (i ∷ l) r o = look (insert_place_lem m l r.1) (eqb i m) refl o
    where
      other : (occurrences m l ≡ 1 → insert_by_start (piece_at pieces m) (Listed (from (suc m) l)) ≡ Listed (from m l)) → (b : Bool)
          → leb m i ≡ b → leb (suc m) i ≡ b → occurrences m l ≡ 1
          → insert_by_start (piece_at pieces m) (Listed (from (suc m) (i ∷ l))) ≡ Listed (from m (i ∷ l))
      other again true e f z =
          rw (e, f)
          (insert_behind (piece_at pieces m) i (from (suc m) l) (lt_asym (start i) (start m) (under_at (start i) m l r.0 z))
          ∙ ap (λ (t : List Piece). piece_at pieces i ∷ t) (again z))
      other again false e f z = rw (e, f) (again z)

      look : (occurrences m l ≡ 1 → insert_by_start (piece_at pieces m) (Listed (from (suc m) l)) ≡ Listed (from m l)) → (b : Bool)
          → eqb i m ≡ b → cond b (suc (occurrences m l)) (occurrences m l) ≡ 1
          → insert_by_start (piece_at pieces m) (Listed (from (suc m) (i ∷ l))) ≡ Listed (from m (i ∷ l))
      look again true q z =
          let e : i ≡ m = eqb-true i m q in
          let under : UnderAll (start m) (from (suc m) l) = under_from (start m) (suc m) l
          (subst (λ (k : ℕ). UnderAll (start k) l) e r.0) in
          let none : occurrences m l ≡ 0 = omega arith in
          let behind : leb (suc m) i ≡ false = lt-leb (suc m) i (omega arith) in
          let here : leb m i ≡ true = le-leb m i (omega arith) in
          rw (behind, here)
          (insert_first (piece_at pieces m) (from (suc m) l) under
          ∙ ap (λ (k : ℕ). piece_at pieces k ∷ Listed (from (suc m) l)) (sym e)
          ∙ ap (λ (t : List ℕ). piece_at pieces i ∷ Listed t) (sym (from_same m l none)))
      look again false q z =
          let s = apart m i (eqb-false i m q) in
          other again (leb m i) refl (sym s) z

  -- ---- place by place, from the last on
  sorted_from : (l : List ℕ) → Rise l → AllBelow (length pieces) l → ((i : ℕ) → i < length pieces → occurrences i l ≡ 1) → (k m : ℕ)
      → m + k ≡ length pieces
      → by_start (drop m pieces) ≡ Listed (from m l)
  unfolding by_start
  sorted_from l r b once zero m e =
      let n : m ≡ length pieces = omega arith in
      ap (λ (j : ℕ). by_start (drop j pieces)) n ∙ ap by_start (drop-length pieces)
      ∙ ap Listed (sym (ap (λ (j : ℕ). from j l) n ∙ from_none (length pieces) l b))
  sorted_from l r b once (suc k) m e =
      let within : m < length pieces = omega arith in
      ap by_start (drop-cons pieces m (no_piece nan nan) within)
      ∙ ap (insert_by_start (piece_at pieces m)) (sorted_from l r b once k (suc m) (omega arith))
      ∙ insert_place_lem m l r (once m within)

tree_below : (n : ℕ) (t : Tree) → Below n t → AllBelow n (places_of t)
tree_below n (piece i) b = (b, tt)
tree_below n (halves left right) b = append (places_of left) (places_of right) (tree_below n left b.0) (tree_below n right b.1)
  where
    append : (l r : List ℕ) → AllBelow n l → AllBelow n r → AllBelow n (l ++ r)
    append [] r p q = q
    append (i ∷ l) r p q = (p.0, append l r p.1 q)

pub by_start_lem : (lower upper : Float) (pieces : List Piece) (c : Covered lower upper pieces)
    → StartsRise (map (piece_at pieces) (places_of c.cover.tree))
    → by_start pieces ≡ map (piece_at pieces) (places_of c.cover.tree)
by_start_lem lower upper pieces c s =
    let l = places_of c.cover.tree in
    sorted_from pieces l (rise_of pieces l s) (tree_below (length pieces) c.cover.tree c.below) c.cover.each_piece_once.1
    (length pieces) 0 (zero-add (length pieces))
    ∙ ap (map (piece_at pieces)) (from_all l)
