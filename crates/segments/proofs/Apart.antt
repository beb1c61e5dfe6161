-- Segments of which one lies strictly on one side of the other, and their boxes beside each other, do not touch. Assumes nothing.
use mathlib.Core.Path.{◌≡◌, refl, sym, ◌∙◌, ap}
use mathlib.Core.Bool.{Bool, true, false, ◌&&◌, ◌||◌, cond}
use lib.Ieee.{Float, is_nan, lt, le, eq, ne}
use Rattle.floats.specs.Operations.{bits}
use Rattle.floats.specs.Floats.{min_of, max_of}
use Rattle.floats.proofs.Bools.{no, and_left, and_right, and_false}
use Rattle.floats.proofs.Order.{lt_asym, equal_sym, equal_not_below, equal_no_nan, le_not_below, le_no_nan, below_nan, ne_itself}
use Rattle.floats.proofs.Order.{not_below_itself, below_through}
use Rattle.limits.specs.Limits.{is_within}
use Rattle.segments.specs.declared.Place.{Place}
use Rattle.segments.specs.declared.Segment.{Segment}
use Rattle.segments.specs.Segments.{cross_of, are_opposite, is_in_box, segments_touch}
use Rattle.segments.specs.Places.{place_of, are_beyond, are_apart}

-- ---- tests
or_cases : {A : Type 0} (p q : Bool) → (p || q) ≡ true → (p ≡ true → A) → (q ≡ true → A) → A
or_cases true q h f g = f refl
or_cases false q h f g = g h

not_true : (p : Bool) → (p ≡ true → ⊥) → p ≡ false
not_true true h = absurd (h refl)
not_true false h = refl

-- ---- the smaller and the larger of two
chosen : (P : Float → Type 0) (t u : Bool) (a b : Float) → P a → P b → P (cond t b (cond u b a))
chosen P true u a b x y = y
chosen P false true a b x y = y
chosen P false false a b x y = x

module _ (p q : Float) where
  least_of_first : is_nan p ≡ false → lt p (min_of p q) ≡ false
  least_of_first o = go (ne p p) (lt q p) (ne_itself p ∙ o) refl
    where
      go : (t u : Bool) → t ≡ false → lt q p ≡ u → lt p (cond t q (cond u q p)) ≡ false
      go true u n h = no n
      go false true n h = lt_asym q p h
      go false false n h = not_below_itself p

  least_of_second : lt q (min_of p q) ≡ false
  least_of_second = go (ne p p) (lt q p) refl
    where
      go : (t u : Bool) → lt q p ≡ u → lt q (cond t q (cond u q p)) ≡ false
      go true u h = not_below_itself q
      go false true h = not_below_itself q
      go false false h = h

  largest_of_first : is_nan p ≡ false → lt (max_of p q) p ≡ false
  largest_of_first o = go (ne p p) (lt p q) (ne_itself p ∙ o) refl
    where
      go : (t u : Bool) → t ≡ false → lt p q ≡ u → lt (cond t q (cond u q p)) p ≡ false
      go true u n h = no n
      go false true n h = lt_asym p q h
      go false false n h = not_below_itself p

  largest_of_second : lt (max_of p q) q ≡ false
  largest_of_second = go (ne p p) (lt p q) refl
    where
      go : (t u : Bool) → lt p q ≡ u → lt (cond t q (cond u q p)) q ≡ false
      go true u h = not_below_itself q
      go false true h = not_below_itself q
      go false false h = h

-- ---- beyond
-- x is below m, which p is not
under : (p m x : Float) → lt x m ≡ true → (is_nan p ≡ false → lt p m ≡ false) → le p x ≡ false
under p m x h k = not_true (le p x) (λ e. no (sym (below_through x m p (le_no_nan p x e) h (k (le_no_nan p x e))) ∙ le_not_below p x e))

le_nan : (x p : Float) → le x p ≡ true → is_nan p ≡ false
unfolding le
le_nan x p h = not_true (is_nan p)
    (λ n. or_cases (lt x p) (eq x p) h (λ l. no (sym l ∙ below_nan x p n)) (λ e. no (sym n ∙ equal_no_nan p x (equal_sym x p e))))

-- x is above m, which p is not
over : (p m x : Float) → lt m x ≡ true → (is_nan p ≡ false → lt m p ≡ false) → le x p ≡ false
over p m x h k = not_true (le x p) (λ e. no (sym (below_through m x p (le_nan x p e) h (le_not_below x p e)) ∙ k (le_nan x p e)))

module _ (p q r s : Float) where
  all_under : (x : Float) → le x r ≡ false → le x s ≡ false → is_within (min_of r s) (max_of r s) x ≡ false
  all_under x h k = ap (λ (b : Bool). le (min_of r s) x && b) (chosen (λ y. le x y ≡ false) (ne r r) (lt r s) r s h k)
      ∙ and_false (le (min_of r s) x)

  all_over : (x : Float) → le r x ≡ false → le s x ≡ false → is_within (min_of r s) (max_of r s) x ≡ false
  all_over x h k = ap (λ (b : Bool). b && le x (max_of r s)) (chosen (λ y. le y x ≡ false) (ne r r) (lt s r) r s h k)

  beyond : are_beyond p q r s ≡ true → (is_within (min_of r s) (max_of r s) p ≡ false) × (is_within (min_of r s) (max_of r s) q ≡ false)
  beyond h =
      or_cases (lt r (min_of p q) && lt s (min_of p q)) (lt (max_of p q) r && lt (max_of p q) s) h
      (λ a.
      let u = and_left (lt r (min_of p q)) (lt s (min_of p q)) a in
      let v = and_right (lt r (min_of p q)) (lt s (min_of p q)) a in (
        all_under p (under p _ r u (least_of_first p q)) (under p _ s v (least_of_first p q)),
        all_under q (under q _ r u (λ o. least_of_second p q)) (under q _ s v (λ o. least_of_second p q)),
      ))
      (λ a.
      let u = and_left (lt (max_of p q) r) (lt (max_of p q) s) a in
      let v = and_right (lt (max_of p q) r) (lt (max_of p q) s) a in (
        all_over p (over p _ r u (largest_of_first p q)) (over p _ s v (largest_of_first p q)),
        all_over q (over q _ r u (λ o. largest_of_second p q)) (over q _ s v (λ o. largest_of_second p q)),
      ))

-- ---- on one side
module _ (d : Float) where
  on_left : lt (bits 0) d ≡ true → (lt d (bits 0) ≡ false) × (eq d (bits 0) ≡ false)
  on_left h = (lt_asym (bits 0) d h, not_true (eq d (bits 0)) (λ e. no (sym h ∙ equal_not_below (bits 0) d (equal_sym d (bits 0) e))))

  on_right : lt d (bits 0) ≡ true → (lt (bits 0) d ≡ false) × (eq d (bits 0) ≡ false)
  on_right h = (lt_asym d (bits 0) h, not_true (eq d (bits 0)) (λ e. no (sym h ∙ equal_not_below d (bits 0) e)))

record OneSide (d e : Float) : Type 0 where
  together : are_opposite d e ≡ false
  first_off : eq d (bits 0) ≡ false
  second_off : eq e (bits 0) ≡ false

one_side : (d e : Float) → (lt (bits 0) d && lt (bits 0) e || lt d (bits 0) && lt e (bits 0)) ≡ true → OneSide d e
one_side d e h =
    or_cases (lt (bits 0) d && lt (bits 0) e) (lt d (bits 0) && lt e (bits 0)) h
    (λ a.
    let u = on_left d (and_left (lt (bits 0) d) (lt (bits 0) e) a) in
    let v = on_left e (and_right (lt (bits 0) d) (lt (bits 0) e) a) in
    record { together = rw (u.0, v.0) (rw (and_false (lt (bits 0) d))); first_off = u.1; second_off = v.1 })
    (λ a.
    let u = on_right d (and_left (lt d (bits 0)) (lt e (bits 0)) a) in
    let v = on_right e (and_right (lt d (bits 0)) (lt e (bits 0)) a) in
    record { together = rw (u.0, v.0) (rw (and_false (lt d (bits 0)))); first_off = u.1; second_off = v.1 })

-- ---- together
nowhere : (o o' a b c d e f g h : Bool) → o' ≡ false → b ≡ false → d ≡ false → e ≡ false → g ≡ false
    → (o && o' || a && b || c && d || e && f || g && h) ≡ false
nowhere o o' a b c d e f g h p q r s t = rw (p, q, r, s, t) (rw (and_false o, and_false a, and_false c))

module _ (pq rs : Segment) where
  beside_in_x : are_beyond pq.from.x pq.to.x rs.from.x rs.to.x ≡ true
      → (is_in_box rs pq.from ≡ false) × (is_in_box rs pq.to ≡ false)
  unfolding is_in_box
  beside_in_x h =
      let w = beyond pq.from.x pq.to.x rs.from.x rs.to.x h in
      (rw w.0, rw w.1)

  beside_in_y : are_beyond pq.from.y pq.to.y rs.from.y rs.to.y ≡ true
      → (is_in_box rs pq.from ≡ false) × (is_in_box rs pq.to ≡ false)
  unfolding is_in_box
  beside_in_y h =
      let w = beyond pq.from.y pq.to.y rs.from.y rs.to.y h in
      let in_x : Float → Bool = is_within (min_of rs.from.x rs.to.x) (max_of rs.from.x rs.to.x) in
      (rw w.0 (and_false (in_x pq.from.x)), rw w.1 (and_false (in_x pq.to.x)))

  apart_places : are_apart pq (place_of pq rs.from) (place_of pq rs.to) ≡ true → segments_touch pq rs ≡ false
  unfolding segments_touch
  apart_places h =
      let d = cross_of pq rs.from in
      let e = cross_of pq rs.to in
      let sides : Bool = lt (bits 0) d && lt (bits 0) e || lt d (bits 0) && lt e (bits 0) in
      let in_x : Bool = are_beyond pq.from.x pq.to.x rs.from.x rs.to.x in
      let in_y_lem : Bool = are_beyond pq.from.y pq.to.y rs.from.y rs.to.y in
      let s = one_side d e (and_left sides (in_x || in_y_lem) h) in
      let w = or_cases in_x in_y_lem (and_right sides (in_x || in_y_lem) h) beside_in_x beside_in_y in
      nowhere
      (are_opposite (cross_of rs pq.from) (cross_of rs pq.to))
      (are_opposite d e)
      (eq (cross_of rs pq.from) (bits 0))
      (is_in_box rs pq.from)
      (eq (cross_of rs pq.to) (bits 0))
      (is_in_box rs pq.to)
      (eq d (bits 0))
      (is_in_box pq rs.from)
      (eq e (bits 0))
      (is_in_box pq rs.to)
      s.together w.0 w.1 s.first_off s.second_off

pub apart_no_touch : (pq rs : Segment) (a b : Place) → a ≡ place_of pq rs.from → b ≡ place_of pq rs.to → are_apart pq a b ≡ true
    → segments_touch pq rs ≡ false
apart_no_touch pq rs a b e f h = apart_places pq rs
    (ap (λ (p : Place). are_apart pq p (place_of pq rs.to)) (sym e) ∙ ap (λ (q : Place). are_apart pq a q) (sym f) ∙ h)
