-- The ends of the chords at a height of at most 2^35 are at most 2^116, and at most as many as an outline may have points, of a planform
-- within its limits. Assumes nothing.
use mathlib.Core.Path.{◌≡◌, refl, sym, ◌∙◌, subst}
use mathlib.Core.List.{List, [], ◌∷◌}
use mathlib.Core.Bool.{Bool, true, false, cond}
use Prim.Native.Nat.{ℕ, zero, suc, ◌+◌, ◌≤◌, ◌<◌, zero-le}
use native.Mathlib.Nat.{le_trans, le_refl, le-suc, mod-lt}
use native.Mathlib.Omega.{arith}
use lib.Dec.{T, leb, leb→le, lit≤}
use lib.ListN.{length}
use lib.Ieee.{Float, binary64, of_bits, lt, eq, le, ne}
use lib.Ieee.Bits.{of_bits-fits, is_true}
use lib.Ieee.Fits.{sub-fits, cond-fits, and_l, and_r}
use Rattle.floats.specs.Operations.{◌⊖◌, ◌⊗◌, ◌⊘◌, bits}
use Rattle.floats.specs.Constants.{half, one}
use Rattle.floats.specs.Floats.{min_of, max_of}
use Rattle.floats.proofs.Bools.{no}
use Rattle.floats.proofs.Order.{equal_not_below, equal_sym, equal_no_nan, ne_itself, le_not_below}
use Rattle.root.specs.Root.{root_of}
use Rattle.rounding.specs.Sizes.{Below, Above}
use Rattle.rounding.proofs.Sizes.{zero_below, half_below, sub_below, max_below, weaker}
use Rattle.rounding.proofs.Terms.{Term, given, ◌plus◌, ◌less◌, ◌times◌, ◌over◌, within}
use Rattle.rounding.proofs.Gaps.{sub_above}
use Rattle.rounding.proofs.Roots.{root_below}
use Rattle.sorting.specs.Sorted.{Each, sorted}
use Rattle.sorting.proofs.Sorted.{sorted_each, sorted_length}
use Rattle.limits.specs.Limits.{most_points}
use Rattle.limits.proofs.Lengths.{Length, Height, PositiveLength}
use Rattle.planforms.specs.Planforms.{x_at, height_at, pair_count}
use Rattle.segments.specs.Segments.{next}
use Rattle.planforms.specs.declared.Planform.{Planform}
use Rattle.planforms.specs.declared.Planform.TheVariants.{Trapezoid, Ellipse, Outline}
use Rattle.planforms.proofs.Sized.{Sized}
use Rattle.chords.specs.Chords.{crossed, in_span, trapezoid_ends, ellipse_ends, edge_crossed, edge_crossing, crossings, outline_crossings}
use Rattle.chords.specs.Chords.{ends_at, paired}

-- at most n, each at most 2^p
pub record Ends (p n : ℕ) (l : List Float) : Type 0 where
  pub bounded : Each (Below p) l
  pub few : length l ≤ n

-- ---- trapezoid
none : (p n : ℕ) → Ends p n []
none p n = record { bounded = tt; few = zero-le }

two_of : (b : Bool) (x y : Float) → Below 116 x → Below 116 y → Ends 116 most_points (cond b (x ∷ y ∷ []) [])
two_of true x y h k = record { bounded = (h, (k, tt)); few = lit≤ tt }
two_of false x y h k = none 116 most_points

trapezoid_ends_lem : (root tip span sweep h : Float) → Below 35 h → PositiveLength root → Length tip → PositiveLength span → Length sweep
    → Ends 116 most_points (trapezoid_ends root tip span sweep h)
trapezoid_ends_lem root tip span sweep h b pr pt ps pw =
    let up_to_lem = within (6 ∷ 6 ∷ 6 ∷ 35 ∷ []) (20 ∷ []) (root ∷ tip ∷ sweep ∷ h ∷ []) (span ∷ [])
    (pr.length.below, (pt.below, (pw.below, (b, tt)))) (ps.above, tt) in
    two_of (in_span span h) _ _ (up_to_lem (given 2 times (given 3 over 0)) 116 tt)
    (up_to_lem (given 2 times (given 3 over 0) plus given 0 plus (given 1 less given 0) times (given 3 over 0)) 116 tt)

-- ---- ellipse
one_below : Below 0 one
unfolding of_bits
one_below = record { finite = tt; size = lit≤ tt }

zero_not_below : lt (bits 0) (bits 0) ≡ false
unfolding lt of_bits
zero_not_below = refl

max_not_below : (x : Float) → lt (max_of x (bits 0)) (bits 0) ≡ false
max_not_below x = go (ne x x) (lt x (bits 0)) refl
  where
    go : (p q : Bool) → lt x (bits 0) ≡ q → lt (cond p (bits 0) (cond q (bits 0) x)) (bits 0) ≡ false
    go true q e = zero_not_below
    go false true e = zero_not_below
    go false false e = e

ellipse_ends_lem : (root span h : Float) → Below 35 h → PositiveLength root → PositiveLength span
    → Ends 116 most_points (ellipse_ends root span h)
ellipse_ends_lem root span h b pr ps =
    let f = h ⊘ span in
    let x = one ⊖ f ⊗ f in
    let inside : Below 112 x = within (0 ∷ 35 ∷ []) (20 ∷ []) (one ∷ h ∷ []) (span ∷ []) (one_below, (b, tt)) (ps.above, tt)
    (given 0 less (given 1 over 0) times (given 1 over 0)) 112 tt in
    let r : Below 56 (root_of (max_of x (bits 0))) =
    root_below (max_of x (bits 0)) 56 (lit≤ tt)
    (cond-fits binary64 (ne x x) (bits 0) (cond (lt x (bits 0)) (bits 0) x) (of_bits-fits binary64 0)
    (cond-fits binary64 (lt x (bits 0)) (bits 0) x (of_bits-fits binary64 0) (sub-fits binary64 one (f ⊗ f))))
    (max_not_below x) (max_below x (bits 0) 112 inside (weaker (bits 0) 0 112 (lit≤ tt) zero_below)) in
    let up_to_lem =
    within (6 ∷ 56 ∷ 0 ∷ []) [] (root ∷ root_of (max_of x (bits 0)) ∷ half ∷ []) [] (pr.length.below, (r, (half_below, tt))) tt
    in
    two_of (in_span span h) _ _ (up_to_lem (given 2 times (given 0 less given 0 times given 1)) 116 tt)
    (up_to_lem (given 2 times (given 0 less given 0 times given 1) plus given 0 times given 1) 116 tt)

-- ---- outline: an edge that is crossed is not level, so its heights are 2^-72 apart at least
crossed_apart : (h p q : Float) → T (crossed h p q) → eq q p ≡ false
unfolding crossed
crossed_apart h p q t = go (eq q p) refl
  where
    go : (b : Bool) → eq q p ≡ b → eq q p ≡ false
    go false e = e
    go true e =
        let f = equal_sym q p e in
        let n : ne p p ≡ false = ne_itself p ∙ equal_no_nan p q f in
        let low : min_of p q ≡ p = rw (n, equal_not_below q p e) in
        let high : max_of p q ≡ p = rw (n, equal_not_below p q f) in
        let a : T (le p h) = subst (λ (z : Float). T (le z h)) low (and_l (le (min_of p q) h) (lt h (max_of p q)) t) in
        let b : T (lt h p) = subst (λ (z : Float). T (lt h z)) high (and_r (le (min_of p q) h) (lt h (max_of p q)) t) in
        no (sym (is_true (lt h p) b) ∙ le_not_below p h (is_true (le p h) a))

apart : (h yp yq : Float) → Length yp → Length yq → T (crossed h yp yq) → Above 72 (yq ⊖ yp)
apart h yp yq p q c = sub_above yq yp 72 (lit≤ tt) q.grid p.grid (crossed_apart h yp yq c)
    (sub_below yq yp 6 (lit≤ tt) q.below p.below).finite

abbrev the_crossing : Term
the_crossing = given 1 plus (given 0 less given 2) times (given 3 less given 1) over 0

crossing_at_lem : (points : List Float) (h : Float) (i j : ℕ) → Below 35 h → Length (x_at points i) × Height (height_at points i)
    → Length (x_at points j) × Height (height_at points j) → T (edge_crossed points h i j) → Below 116 (edge_crossing points h i j)
crossing_at_lem points h i j b p q c =
    within (35 ∷ 6 ∷ 6 ∷ 6 ∷ []) (72 ∷ []) (h ∷ x_at points i ∷ height_at points i ∷ x_at points j ∷ [])
    ((height_at points j ⊖ height_at points i) ∷ [])
    (b, (p.0.below, (p.1.length.below, (q.0.below, tt))))
    (apart h (height_at points i) (height_at points j) p.1.length q.1.length c, tt) the_crossing 116 tt

crossings_ends : (points : List Float) (n : ℕ) (h : Float) → Below 35 h
    → ((i : ℕ) → i < n → Length (x_at points i) × Height (height_at points i)) → (k : ℕ) → k ≤ n → Ends 116 k (crossings points n h k)
unfolding crossings
crossings_ends points n h b p zero l = none 116 0
crossings_ends points n h b p (suc i) l =
    let below : i < n = l in
    go (edge_crossed points h i (next n i))
    (λ t. crossing_at_lem points h i (next n i) b (p i below) (p (next n i) (mod-lt (i + 1) (some i n below))) t)
    (crossings_ends points n h b p i (le_trans (le-suc i) l))
  where
    some : (i n : ℕ) → i < n → 0 < n
    some i n h = omega arith

    go : (t : Bool) → (T t → Below 116 (edge_crossing points h i (next n i))) → Ends 116 i (crossings points n h i)
        → Ends 116 (suc i) (cond t (edge_crossing points h i (next n i) ∷ crossings points n h i) (crossings points n h i))
    go true c e = record { bounded = (c tt, e.bounded); few = (let k = e.few in omega arith) }
    go false c e = record { bounded = e.bounded; few = le_trans e.few (le-suc i) }

outline_ends : (points : List Float) (h : Float) → Below 35 h
    → ((i : ℕ) → i < pair_count points → Length (x_at points i) × Height (height_at points i))
    → Ends 116 most_points (outline_crossings points h)
unfolding outline_crossings
outline_ends points h b p =
    let n = pair_count points in
    go (leb n most_points) (leb→le n most_points) (crossings_ends points n h b p n (le_refl n))
  where
    go : (t : Bool) → (T t → pair_count points ≤ most_points)
        → Ends 116 (pair_count points) (crossings points (pair_count points) h (pair_count points))
        → Ends 116 most_points (cond t (sorted (crossings points (pair_count points) h (pair_count points))) [])
    go true l e =
        let c = crossings points (pair_count points) h (pair_count points) in
        record { bounded = sorted_each (Below 116) c e.bounded; few = rw (sorted_length c) (le_trans e.few (l tt)) }
    go false l e = none 116 most_points

-- ---- any planform
pub ends_at_lem : (planform : Planform) (points : List Float) (h : Float) → Sized planform points → Below 35 h
    → Ends 116 most_points (ends_at planform points h)
unfolding ends_at
ends_at_lem (Trapezoid root tip span sweep) points h s b = trapezoid_ends_lem root tip span sweep h b s.0 s.1.0 s.1.1.0 s.1.1.1
ends_at_lem (Ellipse root span) points h s b = ellipse_ends_lem root span h b s.0 s.1
ends_at_lem Outline points h s b = outline_ends points h b s.0

-- ---- the chords themselves
abbrev pub Pairs : ℕ → List (Float × Float) → Type 0
Pairs p [] = Unit {0}
Pairs p (c ∷ l) = (Below p c.0 × Below p c.1) × Pairs p l

pub record Few (p n : ℕ) (l : List (Float × Float)) : Type 0 where
  pub bounded : Pairs p l
  pub few : length l ≤ n

pub paired_few : (p n : ℕ) (l : List Float) → Ends p n l → Few p n (paired l)
unfolding paired
paired_few p n [] e = record { bounded = tt; few = zero-le }
paired_few p n (a ∷ []) e = record { bounded = tt; few = zero-le }
paired_few p zero (a ∷ b ∷ l) e = absurd (let k = e.few in let z : ⊥ = omega arith in z)
paired_few p (suc n) (a ∷ b ∷ l) e =
    let r = paired_few p n l (record { bounded = e.bounded.1.1; few = (let k = e.few in omega arith) }) in
    record { bounded = ((e.bounded.0, e.bounded.1.0), r.bounded); few = (let k = r.few in omega arith) }
