-- The corners of an accepted outline, and its break heights: sizes, order, and that no corner is between two neighbours. Assumes nothing.
use Rattle.std.specs.Prelude.{Ok}
use mathlib.Core.Path.{◌≡◌, refl, sym, ap, ◌∙◌, subst}
use mathlib.Core.Bool.{Bool, true, false, cond, ◌||◌}
use mathlib.Core.List.{List, [], ◌∷◌}
use mathlib.Core.Logic.{◌⊎◌, inl, inr}
use Prim.Native.Nat.{ℕ, zero, suc, ◌+◌, ◌*◌, ◌≤◌, ◌<◌}
use native.Mathlib.Nat.{le_refl, le_trans, le-suc, eq-or-lt_of_le, le_of_suc-le-suc, not-suc-le-zero}
use native.Mathlib.Omega.{arith}
use lib.Dec.{T, leb}
use lib.Ieee.{Float, binary64, fits, of_bits, lt, eq, ne, is_nan}
use lib.Ieee.Scale.{finite}
use lib.Ieee.Positive.{num, den, positive}
use Rattle.floats.specs.Operations.{bits, at}
use Rattle.floats.proofs.Bools.{no, and_left, and_right}
use Rattle.floats.proofs.Order.{lt_asym, not_lt_through, equal_sym, equal_not_below, equal_itself, equal_no_nan, not_below_itself}
use Rattle.floats.proofs.Order.{ne_itself}
use Rattle.rounding.specs.Sizes.{AtMost, Below}
use Rattle.rounding.proofs.Signs.{finite_no_nan}
use Rattle.rounding.proofs.Sizes.{positive_of, zero_below, weaker}
use Rattle.refusals.proofs.Accepted.{both}
use Rattle.limits.specs.Limits.{point_xfield, point_yfield, length_check}
use Rattle.limits.proofs.Lengths.{PositiveLength, above_checked}
use Rattle.sorting.specs.Sorted.{sorted, Each, among, below_all}
use Rattle.sorting.proofs.Sorted.{sorted_each}
use Rattle.planforms.specs.declared.Planform.TheVariants.{Outline}
use Rattle.planforms.specs.Planforms.{x_at, height_at, pair_count, largest_height, span_of}
use Rattle.planforms.proofs.Sized.{Sized, span_sized}
use Rattle.outlines.specs.Outlines.{point_check, planform_check}
use Rattle.outlines.proofs.Accepted.{points_accepted}
use Rattle.breaks.specs.Breaks.{heights, every_y, all_heights, break_heights}
use Rattle.breaks.proofs.Strips.{once_each, break_heights_members}
use Rattle.rounding_error.proofs.Numbers.{Number, number, ◌less◌, value_of}
use Rattle.error_terms.proofs.Floors.{NotBelow, unordered_not_below}
use Rattle.error_terms.proofs.Shares.{positive_value}
use Rattle.outline_accuracy.proofs.Edges.{Outside, Corner}

from_zero : (v : Number) → NotBelow (v less value_of (bits 0)) → NotBelow v
unfolding of_bits
from_zero (number p n d) h = go h
  where
    go : n * 1 + 0 * d ≤ p * 1 + 0 * d → n ≤ p
    go u = omega (arith, u)

pub not_under_zero : (y : Float) → T (finite y) → lt y (bits 0) ≡ false → NotBelow (value_of y)
not_under_zero y f e = from_zero (value_of y) (unordered_not_below (bits 0) y zero_below.finite f e)

pub under_span : (span y : Float) → T (positive span) → T (finite span) → T (finite y) → lt span y ≡ false → NotBelow
    (number (num span) 0 (den span) less value_of y)
under_span span y p f g e = subst (λ (v : Number). NotBelow (v less value_of y)) (positive_value span p) (unordered_not_below y span g f e)

module _ (points : List Float) (f64s : (i : ℕ) → T (fits binary64 (at points i))) (check : planform_check Outline points ≡ Ok tt)
    (sized : Sized Outline points) (few : leb (pair_count points) 64 ≡ true) where
  abbrev n : ℕ
  n = pair_count points

  abbrev span : Float
  span = span_of Outline points

  point_accepted : (k : ℕ) → k < n → point_check points k ≡ Ok tt
  unfolding planform_check
  point_accepted k l = points_accepted points check k l

  height_number : (i : ℕ) → i < n → is_nan (height_at points i) ≡ false
  height_number i l = finite_no_nan (height_at points i) (sized.0 i l).1.length.below.finite

  -- ---- the span is the largest height
  abbrev Least : Float → Type 0
  Least z = lt (bits 0) z ≡ true → PositiveLength z

  height_least : (i : ℕ) → i < n → Least (height_at points i)
  height_least i l p =
      let xs = both (length_check point_xfield (x_at points i)) _ (point_accepted i l) in
      let ys = both (length_check point_yfield (height_at points i)) (Ok tt) xs.1 in
      above_checked point_yfield (height_at points i) (f64s (2 * i + 1)) ys.0 p

  either : (P : Float → Type 0) (b c : Bool) (x y : Float) → P x → P y → P (cond b y (cond c y x))
  either P true c x y p q = q
  either P false true x y p q = q
  either P false false x y p q = p

  largest_least : (m : ℕ) → m ≤ n → Least (largest_height points m)
  unfolding largest_height
  largest_least zero l = λ p. no (sym p ∙ not_below_itself (bits 0))
  largest_least (suc m) l =
      either Least (ne (largest_height points m) (largest_height points m)) (lt (largest_height points m) (height_at points m))
      (largest_height points m) (height_at points m)
      (largest_least m (le_trans (le-suc m) l)) (height_least m l)

  pub span_length : lt (bits 0) span ≡ true → PositiveLength span
  unfolding span_of
  span_length p = largest_least n (le_refl n) p

  largest_number : (m : ℕ) → m ≤ n → is_nan (largest_height points m) ≡ false
  unfolding largest_height
  largest_number zero l = finite_no_nan (bits 0) zero_below.finite
  largest_number (suc m) l =
      either (λ z. is_nan z ≡ false) (ne (largest_height points m) (largest_height points m))
      (lt (largest_height points m) (height_at points m)) (largest_height points m)
      (height_at points m) (largest_number m (le_trans (le-suc m) l)) (height_number m l)

  largest_most : (m : ℕ) → m ≤ n → (i : ℕ) → i < m → lt (largest_height points m) (height_at points i) ≡ false
  unfolding largest_height
  largest_most zero l i k = absurd (not-suc-le-zero k)
  largest_most (suc m) l i k =
      go (lt (largest_height points m) (height_at points m)) refl (ne_itself (largest_height points m) ∙ largest_number m
      (le_trans (le-suc m) l))
      (eq-or-lt_of_le (le_of_suc-le-suc k)) (largest_most m (le_trans (le-suc m) l) i)
    where
      go : (b : Bool) → lt (largest_height points m) (height_at points m) ≡ b
          → ne (largest_height points m) (largest_height points m) ≡ false
          → (i ≡ m) ⊎ (i < m)
          → (i < m → lt (largest_height points m) (height_at points i) ≡ false)
          → lt (cond (ne (largest_height points m) (largest_height points m)) (height_at points m)
          (cond (lt (largest_height points m) (height_at points m)) (height_at points m) (largest_height points m)))
          (height_at points i) ≡ false
      go true e u (inl f) r = rw (u, e, f) (not_below_itself (height_at points m))
      go true e u (inr f) r =
          rw (u, e) (not_lt_through (largest_height points m) (height_at points i) (height_at points m)
          (largest_number m (le_trans (le-suc m) l)) (r f)
          (lt_asym (largest_height points m) (height_at points m) e))
      go false e u (inl f) r = rw (u, e, f) e
      go false e u (inr f) r = rw (u, e) (r f)

  pub height_most : (i : ℕ) → i < n → lt span (height_at points i) ≡ false
  unfolding span_of
  height_most i l = largest_most n (le_refl n) i l

  -- ---- the break heights lie in the span
  abbrev pub Inside : Float → Type 0
  Inside z = Below 6 z × ((lt z (bits 0) ≡ false) × (lt span z ≡ false))

  heights_inside : (m : ℕ) → m ≤ n → Each Inside (heights points m)
  unfolding heights
  heights_inside zero l = tt
  heights_inside (suc m) l = (
    ((sized.0 m l).1.length.below, ((sized.0 m l).1.not_under, height_most m l)),
    heights_inside m (le_trans (le-suc m) l),
  )

  all_inside : Each Inside (all_heights Outline points)
  unfolding every_y
  all_inside = (
    (weaker (bits 0) 0 6 (omega arith) zero_below, (not_below_itself (bits 0), (span_sized Outline points sized).not_under)),
    (
      ((span_sized Outline points sized).below, ((span_sized Outline points sized).not_under, not_below_itself span)),
      subst (λ (b : Bool). Each Inside (cond b (heights points n) [])) (sym few) (heights_inside n (le_refl n)),
    ),
  )

  pub breaks_inside : Each Inside (break_heights Outline points)
  unfolding break_heights
  breaks_inside = once_each Inside (sorted (all_heights Outline points)) (sorted_each Inside (all_heights Outline points) all_inside)

  module _ (b d : ℕ) (each_x : (i : ℕ) → i < n → AtMost b d (x_at points i)) (above : lt (bits 0) span ≡ true) where
    pub span_positive : T (positive span)
    span_positive = positive_of span 20 (span_length above).not_minus (span_length above).above

    pub corner : (i : ℕ) → i < n → Corner b d span (x_at points i) (height_at points i)
    corner i l =
        let y = (sized.0 i l).1 in
        record {
          x_most = each_x i l;
          y_finite = y.length.below.finite;
          y_not_below = not_under_zero (height_at points i) y.length.below.finite y.not_under;
          y_most = under_span span (height_at points i) span_positive (span_length above).length.below.finite y.length.below.finite
              (height_most i l);
        }

  -- ---- each corner's height is not above h, or among those that follow it
  abbrev pub Follows : Float → List Float → Type 0
  Follows h l = (i : ℕ) → i < n → (lt h (height_at points i) ≡ false) ⊎ (among (height_at points i) l ≡ true)

  or_right : (p q : Bool) → q ≡ true → (p || q) ≡ true
  or_right true q e = refl
  or_right false q e = e

  heights_among : (m i : ℕ) → m ≤ n → i < m → among (height_at points i) (heights points m) ≡ true
  unfolding heights among
  heights_among zero i l k = absurd (not-suc-le-zero k)
  heights_among (suc m) i l k = go (eq-or-lt_of_le (le_of_suc-le-suc k)) (heights_among m i (le_trans (le-suc m) l))
    where
      go : (i ≡ m) ⊎ (i < m) → (i < m → among (height_at points i) (heights points m) ≡ true)
          → (eq (height_at points i) (height_at points m) || among (height_at points i) (heights points m)) ≡ true
      go (inl e) r = rw (e, equal_itself (height_at points m) (height_number m l))
      go (inr f) r = or_right (eq (height_at points i) (height_at points m)) _ (r f)

  all_among : (i : ℕ) → i < n → among (height_at points i) (all_heights Outline points) ≡ true
  unfolding among every_y
  all_among i l =
      or_right (eq (height_at points i) (bits 0)) _
      (or_right (eq (height_at points i) span) _
      (subst (λ (b : Bool). among (height_at points i) (cond b (heights points n) []) ≡ true) (sym few) (heights_among n i (le_refl n) l)))

  pub break_among : (i : ℕ) → i < n → among (height_at points i) (break_heights Outline points) ≡ true
  break_among i l = break_heights_members Outline points (height_at points i) ∙ all_among i l

  first_or_later : (y h : Float) (l : List Float) → among y (h ∷ l) ≡ true → (lt h y ≡ false) ⊎ (among y l ≡ true)
  unfolding among
  first_or_later y h l e = go (eq y h) refl e
    where
      go : (b : Bool) → eq y h ≡ b → (b || among y l) ≡ true → (lt h y ≡ false) ⊎ (among y l ≡ true)
      go true f e = inl (equal_not_below h y (equal_sym y h f))
      go false f e = inr e

  pub follow_first : (h : Float) (l : List Float) → break_heights Outline points ≡ h ∷ l → Follows h l
  follow_first h l e i k = first_or_later (height_at points i) h l (ap (among (height_at points i)) (sym e) ∙ break_among i k)

  pub follow_next : (h k : Float) (l : List Float) → is_nan h ≡ false → lt h k ≡ true → Follows h (k ∷ l) → Follows k l
  follow_next h k l m t f i c = go (f i c)
    where
      go : (lt h (height_at points i) ≡ false) ⊎ (among (height_at points i) (k ∷ l) ≡ true) → (lt k (height_at points i) ≡ false) ⊎
          (among (height_at points i) l ≡ true)
      go (inl e) = inl (not_lt_through h (height_at points i) k m e (lt_asym h k t))
      go (inr e) = first_or_later (height_at points i) k l e

  above_all : (k y : Float) (l : List Float) → below_all k l ≡ true → among y l ≡ true → lt y k ≡ false
  unfolding below_all among
  above_all k y [] b a = no (sym a)
  above_all k y (z ∷ l) b a = go (eq y z) refl a (above_all k y l (and_right (lt k z) (below_all k l) b))
    where
      go : (c : Bool) → eq y z ≡ c → (c || among y l) ≡ true → (among y l ≡ true → lt y k ≡ false) → lt y k ≡ false
      go true e a r =
          not_lt_through z k y (equal_no_nan z y (equal_sym y z e)) (lt_asym k z (and_left (lt k z) (below_all k l) b))
          (equal_not_below y z e)
      go false e a r = r a

  pub none_between : (h k : Float) (l : List Float) → below_all k l ≡ true → Follows h (k ∷ l) → (i : ℕ) → i < n → Outside h k
      (height_at points i)
  unfolding among
  none_between h k l b f i c = go (f i c)
    where
      later : (t : Bool) → eq (height_at points i) k ≡ t → (t || among (height_at points i) l) ≡ true → lt (height_at points i) k ≡ false
      later true e a = equal_not_below (height_at points i) k e
      later false e a = above_all k (height_at points i) l b a

      go : (lt h (height_at points i) ≡ false) ⊎ (among (height_at points i) (k ∷ l) ≡ true) → Outside h k (height_at points i)
      go (inl e) = inl e
      go (inr e) = inr (later (eq (height_at points i) k) refl e)
