-- The edges that are crossed inside a strip are those that are crossed at its lower end, and each spans the strip. Assumes nothing.
use mathlib.Core.Path.{◌≡◌, refl, sym, ap, ap₂, ◌∙◌}
use mathlib.Core.Bool.{Bool, true, false, cond, ◌&&◌}
use mathlib.Core.List.{List, ◌∷◌, map}
use mathlib.Core.Logic.{◌⊎◌, inl, inr}
use Prim.Native.Nat.{ℕ, zero, suc, ◌+◌, ◌≤◌, ◌<◌}
use native.Mathlib.Nat.{le_trans, le-suc, mod-lt}
use native.Mathlib.Omega.{arith}
use lib.Dec.{T}
use lib.Ieee.{Float, lt, le, ne, is_nan}
use lib.Ieee.Scale.{finite}
use lib.Ieee.Positive.{num, den}
use Rattle.floats.proofs.Bools.{no, of_true, and_left, and_right}
use Rattle.floats.proofs.Order.{le_of_not, le_not_below, le_through, below_through, not_lt_through, lt_asym, ne_itself}
use Rattle.rounding.specs.Sizes.{AtMost}
use Rattle.rounding.proofs.Signs.{finite_no_nan}
use Rattle.segments.specs.Segments.{next}
use Rattle.planforms.specs.Planforms.{height_at}
use Rattle.chords.specs.Chords.{crossed, edge_crossed, edge_crossing, crossings}
use Rattle.rounding_error.proofs.Numbers.{number, ◌less◌, value_of}
use Rattle.error_terms.proofs.Floors.{NotBelow, ordered_not_below, unordered_not_below}
use Rattle.accuracy.proofs.Limits.{most_under}
use Rattle.outline_accuracy.specs.OutlineAreas.{crossed_edges}
use Rattle.outline_accuracy.proofs.Samples.{Spanning, under_span}
use Rattle.rounding_error.proofs.Counts as Counts

-- no corner's height y is between h and k
abbrev pub Outside : Float → Float → Float → Type 0
Outside h k y = (lt h y ≡ false) ⊎ (lt y k ≡ false)

module _ (h k H : Float) (h_number : is_nan h ≡ false) (k_number : is_nan k ≡ false) (H_number : is_nan H ≡ false) (rising : lt h k ≡ true)
    (from : le h H ≡ true) (to : lt H k ≡ true) where
  not_le : (x y : Float) → lt x y ≡ true → le y x ≡ false
  not_le x y t = go (le y x) refl
    where
      go : (b : Bool) → le y x ≡ b → le y x ≡ false
      go false e = e
      go true e = no (sym t ∙ le_not_below y x e)

  same_le : (z : Float) → is_nan z ≡ false → Outside h k z → le z H ≡ le z h
  same_le z n (inl e) =
      let l = le_of_not z h n h_number e in
      le_through z h H H_number l from ∙ sym l
  same_le z n (inr e) = not_le H z (below_through H k z n to e) ∙ sym (not_le h z (below_through h k z n rising e))

  same_lt : (z : Float) → is_nan z ≡ false → Outside h k z → lt H z ≡ lt h z
  same_lt z n (inl e) = not_lt_through h z H h_number e (le_not_below h H from) ∙ sym e
  same_lt z n (inr e) = below_through H k z n to e ∙ sym (below_through h k z n rising e)

  either : (P : Float → Type 0) (b c : Bool) (p q : Float) → P p → P q → P (cond b q (cond c q p))
  either P true c p q x y = y
  either P false true p q x y = y
  either P false false p q x y = x

  crossed_same : (p q : Float) → is_nan p ≡ false → is_nan q ≡ false → Outside h k p → Outside h k q → crossed H p q ≡ crossed h p q
  unfolding crossed
  crossed_same p q n m a b =
      ap₂ (λ (x y : Bool). x && y) (either (λ z. le z H ≡ le z h) (ne p p) (lt q p) p q (same_le p n a) (same_le q m b))
      (either (λ z. lt H z ≡ lt h z) (ne p p) (lt p q) p q (same_lt p n a) (same_lt q m b))

  -- of all edges
  module _ (points : List Float) (n : ℕ) (number : (i : ℕ) → i < n → is_nan (height_at points i) ≡ false)
      (outside : (i : ℕ) → i < n → Outside h k (height_at points i)) where
    abbrev crossing_of : ℕ → Float
    crossing_of i = edge_crossing points H i (next n i)

    some : (i : ℕ) → i < n → 0 < n
    some i l = omega arith

    next_below : (i : ℕ) → i < n → next n i < n
    next_below i l = mod-lt (i + 1) (some i l)

    pub crossings_are : (i : ℕ) → i ≤ n → crossings points n H i ≡ map crossing_of (crossed_edges points n h i)
    unfolding crossings crossed_edges
    crossings_are zero l = refl
    crossings_are (suc i) l =
        let p = height_at points i in
        let q = height_at points (next n i) in
        ap (λ (b : Bool). cond b (crossing_of i ∷ crossings points n H i) (crossings points n H i))
        (crossed_same p q (number i l) (number (next n i) (next_below i l)) (outside i l) (outside (next n i) (next_below i l)))
        ∙ go (edge_crossed points h i (next n i)) (crossings_are i (le_trans (le-suc i) l))
      where
        go : (b : Bool) → crossings points n H i ≡ map crossing_of (crossed_edges points n h i)
            → cond b (crossing_of i ∷ crossings points n H i) (crossings points n H i)
            ≡ map crossing_of (cond b (i ∷ crossed_edges points n h i) (crossed_edges points n h i))
        go true e = ap (λ (l : List Float). crossing_of i ∷ l) e
        go false e = e

-- ---- an edge that is crossed at the lower end spans the strip
pub record Corner (b d : ℕ) (span x y : Float) : Type 0 where
  pub x_most : AtMost b d x
  pub y_finite : T (finite y)
  pub y_not_below : NotBelow (value_of y)
  pub y_most : NotBelow (number (num span) 0 (den span) less value_of y)

-- the lower end is not above h, and the upper not below k
abbrev Spans : Bool → Float → Float → Float → Float → Type 0
Spans true h k p q = (le p h ≡ true) × (lt q k ≡ false)
Spans false h k p q = (le q h ≡ true) × (lt p k ≡ false)

upper_outside : (h k z : Float) → lt h z ≡ true → Outside h k z → lt z k ≡ false
upper_outside h k z t (inl e) = no (sym t ∙ e)
upper_outside h k z t (inr e) = e

spans : (h k p q : Float) → is_nan p ≡ false → is_nan q ≡ false → Outside h k p → Outside h k q → crossed h p q ≡ true
    → Spans (lt p q) h k p
    q
unfolding crossed
spans h k p q n m a b c = go (lt p q) (lt q p) refl refl
  where
    number' : ne p p ≡ false
    number' = ne_itself p ∙ n

    go : (r s : Bool) → lt p q ≡ r → lt q p ≡ s → Spans r h k p q
    go true true e f = no (sym f ∙ lt_asym p q e)
    go true false e f =
        let t : (le p h && lt h q) ≡ true = (rw (number', e, f) at c) in
        (and_left (le p h) (lt h q) t, upper_outside h k q (and_right (le p h) (lt h q) t) b)
    go false true e f =
        let t : (le q h && lt h p) ≡ true = (rw (number', e, f) at c) in
        (and_left (le q h) (lt h p) t, upper_outside h k p (and_right (le q h) (lt h p) t) a)
    go false false e f =
        let t : (le p h && lt h p) ≡ true = (rw (number', e, f) at c) in
        no (sym (and_right (le p h) (lt h p) t) ∙ le_not_below p h (and_left (le p h) (lt h p) t))

pub spanning : (b d : ℕ) (span h k xp yp xq yq : Float) → T (finite h) → T (finite k) → Corner b d span xp yp → Corner b d span xq yq →
    Outside h k yp → Outside h k yq
    → crossed h yp yq ≡ true → Spanning h k span b d (lt yp yq) xp yp xq yq
spanning b d span h k xp yp xq yq fh fk p q op oq c = go (lt yp yq)
    (spans h k yp yq (finite_no_nan yp p.y_finite) (finite_no_nan yq q.y_finite) op oq c)
  where
    go : (r : Bool) → Spans r h k yp yq → Spanning h k span b d r xp yp xq yq
    go true s =
        record {
          xp_finite = p.x_most.finite;
          yp_finite = p.y_finite;
          xq_finite = q.x_most.finite;
          yq_finite = q.y_finite;
          xp_under = most_under xp b d p.x_most;
          xq_under = most_under xq b d q.x_most;
          yp_under = under_span span (value_of yp) (Counts.value_is yp) p.y_not_below p.y_most;
          from_lower = ordered_not_below yp h p.y_finite fh (of_true _ s.0);
          to_upper = unordered_not_below k yq fk q.y_finite s.1;
          from_zero = p.y_not_below;
          to_span = q.y_most;
        }
    go false s =
        record {
          xp_finite = p.x_most.finite;
          yp_finite = p.y_finite;
          xq_finite = q.x_most.finite;
          yq_finite = q.y_finite;
          xp_under = most_under xp b d p.x_most;
          xq_under = most_under xq b d q.x_most;
          yp_under = under_span span (value_of yp) (Counts.value_is yp) p.y_not_below p.y_most;
          from_lower = ordered_not_below yq h q.y_finite fh (of_true _ s.0);
          to_upper = unordered_not_below k yp fk p.y_finite s.1;
          from_zero = q.y_not_below;
          to_span = p.y_most;
        }
