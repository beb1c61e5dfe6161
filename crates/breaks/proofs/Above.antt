-- The least height above h, found without sorting, is the break height that follows h. Of equal heights both keep the one that came
-- first, so that this is an equation. Assumes nothing.
use mathlib.Core.Path.{◌≡◌, refl, sym, ap, ap₂, subst, ◌∙◌}
use mathlib.Core.Bool.{Bool, true, false, not, cond, ◌&&◌, ◌||◌}
use mathlib.Core.List.{List, [], ◌∷◌}
use mathlib.Core.Logic.{◌⊎◌, inl, inr}
use Prim.Native.Nat.{ℕ, zero, suc, ◌+◌, ◌-◌, ◌≤◌, ◌<◌}
use native.Mathlib.Numerals.{add-one}
use native.Mathlib.Omega.{arith}
use borrow.Author.Tests.{le-leb, lt-leb}
use lib.Dec.{leb}
use lib.ListN.{length}
use lib.Ieee.{Float, nan, lt, eq, ne, is_nan, of_bits, div}
use Rattle.floats.specs.Operations.{◌⊘◌, bits, at}
use Rattle.floats.specs.Floats.{max_of}
use Rattle.floats.proofs.Bools.{no}
use Rattle.floats.proofs.Order.{lt_asym, equal_sym, equal_not_below, below_of_not, below_through, below_nan, ne_itself, equal_no_nan}
use Rattle.floats.proofs.Order.{not_below_itself}
use Rattle.planforms.specs.Planforms.{height_at, pair_count, largest_height, span_of}
use Rattle.planforms.specs.declared.Planform.{Planform}
use Rattle.planforms.specs.declared.Planform.TheVariants.{Trapezoid, Ellipse, Outline}
use Rattle.sorting.specs.Sorted.{below_all, insert, sorted, Ascending, Rising, Each, NoNan}
use Rattle.sorting.proofs.Sorted.{sorted_ascends, sorted_each, sorted_no_nan}
use Rattle.limits.specs.Limits.{most_points}
use Rattle.breaks.specs.declared.RankedHeight.{RankedHeight}
use Rattle.breaks.specs.Breaks.{heights, outline_heights, every_y, once, all_heights, break_heights, place_above, least_above, found_with}
use Rattle.breaks.proofs.Strips.{below_first, break_heights_rise, heights_length, zero_itself}

-- ---- one height more in front
abbrev nearest : Float → Float → Float → Float
nearest h x m = cond (lt h x && not (lt m x)) x m

height_with : (h x : Float) (l : List Float) → at (x ∷ l) (place_above h (x ∷ l)) ≡ nearest h x (at l (place_above h l))
unfolding place_above
height_with h x l = go (lt h x && not (lt (at l (place_above h l)) x))
  where
    go : (b : Bool) → at (x ∷ l) (cond b 0 (suc (place_above h l))) ≡ cond b x (at l (place_above h l))
    go true = refl
    go false = refl

pub found_with_lem : (h x : Float) (l : List Float) → found_with h x (least_above h l) ≡ least_above h (x ∷ l)
unfolding place_above
found_with_lem h x l = go (lt h x && not (lt (at l (place_above h l)) x))
  where
    go : (b : Bool)
        → ◌≡◌ {A = RankedHeight}
        (cond b (record { place = 0; height = x }) (record { place = place_above h l + 1; height = at l (place_above h l) }))
        (record { place = cond b 0 (suc (place_above h l)); height = at (x ∷ l) (cond b 0 (suc (place_above h l))) })
    go true = refl
    go false = ap (λ (n : ℕ). record { place = n; height = at l (place_above h l) }) (add-one (place_above h l))

pub place_within : (h : Float) (l : List Float) → place_above h l ≤ length l
unfolding place_above
place_within h [] = omega arith
place_within h (x ∷ l) = go (lt h x && not (lt (at l (place_above h l)) x)) (place_within h l)
  where
    go : (b : Bool) → place_above h l ≤ length l → cond b 0 (suc (place_above h l)) ≤ suc (length l)
    go true p = omega arith
    go false p = omega (arith, p)

pub place_most : (h x : Float) (found : RankedHeight) → (found_with h x found).place ≤ found.place + 1
place_most h x found = go (lt h x && not (lt found.height x))
  where
    go : (b : Bool) → (cond {A = RankedHeight} b (record { place = 0; height = x })
        (record { place = found.place + 1; height = found.height })).place ≤ found.place + 1
    go true = omega arith
    go false = omega arith

-- ---- the first of a list above h, where equal ones stand once; of an ascending list with equal ones, the last of the first above h
first_above : Float → List Float → Float
first_above h [] = nan
first_above h (x ∷ l) = cond (lt h x) x (first_above h l)

last_equal : Float → List Float → Float
last_equal x [] = x
last_equal x (y ∷ l) = cond (eq x y) (last_equal y l) x

last_above : Float → List Float → Float
last_above h [] = nan
last_above h (x ∷ l) = cond (lt h x) (last_equal x l) (last_above h l)

same_above : (h x y : Float) → is_nan x ≡ false → is_nan y ≡ false → eq x y ≡ true → lt h x ≡ lt h y
same_above h x y o p e = go (lt h x) (lt h y) refl refl
  where
    go : (b c : Bool) → lt h x ≡ b → lt h y ≡ c → lt h x ≡ lt h y
    go true true t u = t ∙ sym u
    go false false t u = t ∙ sym u
    go true false t u = no (sym (below_through h x y p t (equal_not_below y x (equal_sym x y e))) ∙ u)
    go false true t u = no (sym (below_through h y x o u (equal_not_below x y e)) ∙ t)

first_last : (h : Float) (l : List Float) → NoNan l → first_above h (once l) ≡ last_above h l
unfolding once NoNan first_above last_above last_equal
first_last h [] n = refl
first_last h (x ∷ []) n = refl
first_last h (x ∷ y ∷ l) n = go (eq x y) (lt h x) refl refl (first_last h (y ∷ l) n.1)
  where
    go : (e b : Bool) → eq x y ≡ e → lt h x ≡ b → first_above h (once (y ∷ l)) ≡ cond (lt h y) (last_equal y l) (last_above h l)
        → first_above h (cond e (once (y ∷ l)) (x ∷ once (y ∷ l)))
        ≡ cond b (cond e (last_equal y l) x) (cond (lt h y) (last_equal y l) (last_above h l))
    go true true e t f = f ∙ ap (λ (c : Bool). cond c (last_equal y l) (last_above h l)) (sym (same_above h x y n.0 n.1.0 e) ∙ t)
    go true false e t f = f
    go false true e t f = rw t
    go false false e t f = rw t f

-- ---- a height that goes in among ascending ones
-- it is not below the first, and so not in front of it
not_first : (x y : Float) (l : List Float) → NoNan (y ∷ l) → Ascending (y ∷ l) → below_all x (y ∷ l) ≡ false → lt x y ≡ false
not_first x y l n a h = go (lt x y) refl
  where
    go : (b : Bool) → lt x y ≡ b → lt x y ≡ false
    go true t = no (sym (below_first x y l n a t) ∙ h)
    go false t = t

below_head : (x y : Float) (l : List Float) → below_all x (y ∷ l) ≡ true → lt x y ≡ true
unfolding below_all
below_head x y l h = go (lt x y) h
  where
    go : (b : Bool) → (b && below_all x l) ≡ true → b ≡ true
    go true h = refl
    go false h = h

below_differs : (x y : Float) → lt x y ≡ true → eq x y ≡ false
below_differs x y h = go (eq x y) refl
  where
    go : (b : Bool) → eq x y ≡ b → eq x y ≡ false
    go true e = no (sym h ∙ equal_not_below x y e)
    go false e = e

-- x behind y alone
behind : (x y : Float) → is_nan x ≡ false → is_nan y ≡ false → lt x y ≡ false → cond (eq y x) x y ≡ cond (lt y x) y x
behind x y o p h = go (eq y x) refl
  where
    go : (b : Bool) → eq y x ≡ b → cond b x y ≡ cond (lt y x) y x
    go true e = rw (equal_not_below y x e)
    go false e = rw (below_of_not y x p o h e)

last_insert : (x y : Float) (l : List Float) → is_nan x ≡ false → NoNan (y ∷ l) → Ascending (y ∷ l) → lt x y ≡ false
    → last_equal y (insert x l) ≡ cond (lt (last_equal y l) x) (last_equal y l) x
unfolding insert last_equal NoNan Ascending
last_insert x y [] o n a h = behind x y o n.0 h
last_insert x y (z ∷ l) o n a h = go (below_all x (z ∷ l)) refl (last_insert x z l o n.1 a.1)
  where
    apart : below_all x (z ∷ l) ≡ true → eq y z ≡ false
    apart b = by (eq y z) refl
      where
        by : (c : Bool) → eq y z ≡ c → eq y z ≡ false
        by true e = no (sym (below_through x z y n.0 (below_head x z l b) (equal_not_below y z e)) ∙ h)
        by false e = e

    go : (b : Bool) → below_all x (z ∷ l) ≡ b
        → (lt x z ≡ false → last_equal z (insert x l) ≡ cond (lt (last_equal z l) x) (last_equal z l) x)
        → last_equal y (cond b (x ∷ z ∷ l) (z ∷ insert x l))
        ≡ cond (lt (cond (eq y z) (last_equal z l) y) x) (cond (eq y z) (last_equal z l) y) x
    go true b f = rw (below_differs x z (below_head x z l b), apart b) (behind x y o n.0 h)
    go false b f = by (eq y z) refl
      where
        under : lt x z ≡ false
        under = not_first x z l n.1 a.1 b

        by : (c : Bool) → eq y z ≡ c
            → cond c (last_equal z (insert x l)) y ≡ cond (lt (cond c (last_equal z l) y) x) (cond c (last_equal z l) y) x
        by true e = f under
        by false e = rw (below_through y z x o (below_of_not y z n.0 n.1.0 a.0 e) under)

-- nothing found among heights above x lies below it
equal_not_under : (x y : Float) (l : List Float) → lt y x ≡ false → below_all x l ≡ true → lt (last_equal y l) x ≡ false
unfolding last_equal below_all
equal_not_under x y [] h b = h
equal_not_under x y (z ∷ l) h b = go (eq y z) (lt x z) refl (equal_not_under x z l)
  where
    go : (e t : Bool) → lt x z ≡ t → (lt z x ≡ false → below_all x l ≡ true → lt (last_equal z l) x ≡ false)
        → lt (cond e (last_equal z l) y) x ≡ false
    go true true t f = f (lt_asym x z t) (rw t at b)
    go true false t f = no (sym b ∙ rw t)
    go false c t f = h

not_under : (h x : Float) (l : List Float) → below_all x l ≡ true → lt (last_above h l) x ≡ false
unfolding last_above below_all lt
not_under h x [] b = refl
not_under h x (y ∷ l) b = go (lt h y) (lt x y) refl (not_under h x l)
  where
    go : (c t : Bool) → lt x y ≡ t → (below_all x l ≡ true → lt (last_above h l) x ≡ false)
        → lt (cond c (last_equal y l) (last_above h l)) x ≡ false
    go true true t f = equal_not_under x y l (lt_asym x y t) (rw t at b)
    go false true t f = f (rw t at b)
    go c false t f = no (sym b ∙ rw t)

tails : (y : Float) (l : List Float) → NoNan (y ∷ l) → Ascending (y ∷ l) → NoNan l × Ascending l
unfolding NoNan Ascending
tails y [] n a = (n.1, tt)
tails y (z ∷ l) n a = (n.1, a.1)

above_insert : (h x : Float) (l : List Float) → is_nan x ≡ false → NoNan l → Ascending l
    → last_above h (insert x l) ≡ nearest h x (last_above h l)
unfolding insert last_above last_equal lt
above_insert h x [] o n a = go (lt h x)
  where
    go : (b : Bool) → cond b x nan ≡ cond (b && not (lt nan x)) x nan
    go true = refl
    go false = refl
above_insert h x (y ∷ l) o n a = go (below_all x (y ∷ l)) refl (let t = tails y l n a in above_insert h x l o t.0 t.1)
  where
    go : (b : Bool) → below_all x (y ∷ l) ≡ b → last_above h (insert x l) ≡ nearest h x (last_above h l)
        → last_above h (cond b (x ∷ y ∷ l) (y ∷ insert x l)) ≡ nearest h x (last_above h (y ∷ l))
    go true b f = rw (below_differs x y (below_head x y l b)) (by (lt h x))
      where
        by : (c : Bool) → cond c x (last_above h (y ∷ l)) ≡ cond (c && not (lt (last_above h (y ∷ l)) x)) x (last_above h (y ∷ l))
        by true = rw (not_under h x (y ∷ l) b)
        by false = refl
    go false b f = by (lt h y) refl
      where
        under : lt x y ≡ false
        under = not_first x y l n a b

        by : (c : Bool) → lt h y ≡ c
            → cond c (last_equal y (insert x l)) (last_above h (insert x l)) ≡ nearest h x (cond c (last_equal y l) (last_above h l))
        by true t = last_insert x y l o n a under ∙ rw (below_through h y x o t under) (swap (lt (last_equal y l) x) (last_equal y l))
          where
            swap : (d : Bool) (e : Float) → cond d e x ≡ cond (not d) x e
            swap true e = refl
            swap false e = refl
        by false t = f

above_sorted : (h : Float) (l : List Float) → NoNan l → last_above h (sorted l) ≡ at l (place_above h l)
unfolding sorted last_above place_above NoNan
above_sorted h [] n = refl
above_sorted h (x ∷ l) n =
    above_insert h x (sorted l) n.0 (sorted_no_nan l n.1) (sorted_ascends l) ∙ ap (nearest h x) (above_sorted h l n.1)
    ∙ sym (height_with h x l)

-- ---- along a rising list
below_at : (x : Float) (l : List Float) (k : ℕ) → below_all x l ≡ true → k < length l → lt x (at l k) ≡ true
unfolding below_all
below_at x [] k h b = absurd (let z : ⊥ = omega arith in z)
below_at x (y ∷ l) zero h b = below_head x y l h
below_at x (y ∷ l) (suc k) h b = go (lt x y) h (λ r. below_at x l k r (omega arith))
  where
    go : (c : Bool) → (c && below_all x l) ≡ true → (below_all x l ≡ true → lt x (at l k) ≡ true) → lt x (at l k) ≡ true
    go true h f = f h
    go false h f = no (sym h)

rising_next : (l : List Float) (k : ℕ) → Rising l → k < length l → first_above (at l k) l ≡ at l (suc k)
unfolding first_above Rising
rising_next [] k r b = absurd (let z : ⊥ = omega arith in z)
rising_next (x ∷ []) zero r b = rw (not_below_itself x)
rising_next (x ∷ y ∷ l) zero r b = rw (not_below_itself x, below_head x y l r.0)
rising_next (x ∷ l) (suc k) r b =
    let here : k < length l = omega arith in
    rw (lt_asym x (at l k) (below_at x l k r.0 here)) (rising_next l k r.1 here)

past_end : (l : List Float) (k : ℕ) → length l ≤ k → at l k ≡ nan
past_end [] k b = refl
past_end (x ∷ l) zero b = absurd (let z : ⊥ = omega arith in z)
past_end (x ∷ l) (suc k) b = past_end l k (omega arith)

rising_at : (l : List Float) (k : ℕ) → Rising l → suc k < length l → lt (at l k) (at l (suc k)) ≡ true
unfolding Rising
rising_at [] k r b = absurd (let z : ⊥ = omega arith in z)
rising_at (x ∷ l) zero r b = below_at x l 0 r.0 (omega arith)
rising_at (x ∷ l) (suc k) r b = rising_at l k r.1 (omega arith)

module _ (planform : Planform) (points : List Float) (numbers : NoNan (all_heights planform points)) where
  pub next_above : (k : ℕ) → suc k < length (break_heights planform points)
      → lt (at (break_heights planform points) k) (at (break_heights planform points) (suc k)) ≡ true
  next_above k b = rising_at (break_heights planform points) k (break_heights_rise planform points numbers) b

  pub none_above : (k : ℕ) → length (break_heights planform points) ≤ suc k
      → lt (at (break_heights planform points) k) (at (break_heights planform points) (suc k)) ≡ false
  unfolding is_nan
  none_above k b =
      below_nan (at (break_heights planform points) k) (at (break_heights planform points) (suc k))
      (ap is_nan (past_end (break_heights planform points) (suc k) b))

  -- the break height behind another
  pub next_break : (k : ℕ) → k < length (break_heights planform points)
      → at (all_heights planform points) (place_above (at (break_heights planform points) k) (all_heights planform points))
      ≡ at (break_heights planform points) (suc k)
  unfolding break_heights
  next_break k b =
      let l = all_heights planform points in
      let h = at (break_heights planform points) k in
      sym (above_sorted h l numbers) ∙ sym (first_last h (sorted l) (sorted_no_nan l numbers))
      ∙ rising_next (break_heights planform points) k (break_heights_rise planform points numbers) b

-- ---- the first break height is 0, where none is below it
head_once : (y : Float) (l : List Float) → at (once (y ∷ l)) 0 ≡ last_equal y l
unfolding once last_equal
head_once y [] = refl
head_once y (z ∷ l) = go (eq y z) (head_once z l)
  where
    go : (b : Bool) → at (once (z ∷ l)) 0 ≡ last_equal z l → at (cond b (once (z ∷ l)) (y ∷ once (z ∷ l))) 0 ≡ cond b (last_equal z l) y
    go true f = f
    go false f = refl

equal_each : (P : Float → Type 0) (y : Float) (l : List Float) → P y → Each P l → P (last_equal y l)
unfolding last_equal
equal_each P y [] p e = p
equal_each P y (z ∷ l) p e = go (eq y z) (equal_each P z l e.0 e.1)
  where
    go : (b : Bool) → P (last_equal z l) → P (cond b (last_equal z l) y)
    go true f = f
    go false f = p

abbrev pub NotUnder : Float → Float → Type 0
NotUnder x y = lt y x ≡ false

head_insert : (x : Float) (l : List Float) → is_nan x ≡ false → NoNan l → Ascending l → Each (NotUnder x) l → at (once (insert x l)) 0 ≡ x
unfolding insert last_equal
head_insert x [] o n a e = head_once x []
head_insert x (y ∷ l) o n a e = go (below_all x (y ∷ l)) refl
  where
    go : (b : Bool) → below_all x (y ∷ l) ≡ b → at (once (cond b (x ∷ y ∷ l) (y ∷ insert x l))) 0 ≡ x
    go true b = head_once x (y ∷ l) ∙ rw (below_differs x y (below_head x y l b))
    go false b =
        head_once y (insert x l) ∙ last_insert x y l o n a (not_first x y l n a b)
        ∙ rw (equal_each (NotUnder x) y l e.0 e.1)

pub first_break : (planform : Planform) (points : List Float) → NoNan (all_heights planform points)
    → Each (NotUnder (bits 0)) (all_heights planform points)
    → at (break_heights planform points) 0 ≡ bits 0
unfolding break_heights sorted NoNan
first_break planform points n e =
    let l = span_of planform points ∷ every_y planform points in
    head_insert (bits 0) (sorted l) n.0 (sorted_no_nan l n.1) (sorted_ascends l) (sorted_each (NotUnder (bits 0)) l e.1)

-- ---- the heights by place, and the least of them, as the code has them
no_number : bits 0 ⊘ bits 0 ≡ nan
unfolding of_bits div
no_number = refl

pub none_found : (h : Float) → ◌≡◌ {A = RankedHeight} (record { place = 0; height = bits 0 ⊘ bits 0 }) (least_above h [])
unfolding place_above
none_found h = ap (λ (x : Float). record { place = 0; height = x }) no_number

heights_at : (points : List Float) (n j : ℕ) → j < n → at (heights points n) j ≡ height_at points (n - 1 - j)
unfolding heights
heights_at points zero j b = absurd (let z : ⊥ = omega arith in z)
heights_at points (suc n) zero b = ap (height_at points) (let e : n ≡ suc n - 1 - 0 = omega arith in e)
heights_at points (suc n) (suc j) b = heights_at points n j (omega arith)
    ∙ ap (height_at points) (let e : n - 1 - j ≡ suc n - 1 - suc j = omega arith in e)

heights_behind : (points : List Float) (n j : ℕ) → n ≤ j → at (heights points n) j ≡ nan
unfolding heights
heights_behind points zero j b = refl
heights_behind points (suc n) zero b = absurd (let z : ⊥ = omega arith in z)
heights_behind points (suc n) (suc j) b = heights_behind points n j (omega arith)

pub too_many_at : (points : List Float) (j : ℕ) → most_points < pair_count points → bits 0 ⊘ bits 0 ≡ at (outline_heights points) j
too_many_at points j b = no_number ∙ rw (lt-leb (pair_count points) most_points b)

pub outline_at : (points : List Float) (j : ℕ) → pair_count points ≤ most_points → j < pair_count points
    → height_at points (pair_count points - 1 - j) ≡ at (outline_heights points) j
outline_at points j b h = rw (le-leb (pair_count points) most_points b) (sym (heights_at points (pair_count points) j h))

pub outline_behind : (points : List Float) (j : ℕ) → pair_count points ≤ most_points → pair_count points ≤ j
    → bits 0 ⊘ bits 0 ≡ at (outline_heights points) j
outline_behind points j b h =
    no_number ∙ rw (le-leb (pair_count points) most_points b) (sym (heights_behind points (pair_count points) j h))

pub from_two : (planform : Planform) (points : List Float) (i : ℕ) → 2 ≤ i
    → at (every_y planform points) (i - 2) ≡ at (all_heights planform points) i
from_two planform points zero h = absurd (let z : ⊥ = omega arith in z)
from_two planform points (suc zero) h = absurd (let z : ⊥ = omega arith in z)
from_two planform points (suc (suc i)) h = ap (at (every_y planform points)) (let e : suc (suc i) - 2 ≡ i = omega arith in e)

pub of_outline : (planform : Planform) (points : List Float) (i : ℕ) (r : Float) → planform ≡ Outline → 2 ≤ i
    → r ≡ at (outline_heights points) (i - 2)
    → r ≡ at (all_heights planform points) i
unfolding every_y
of_outline planform points i r e h f = f ∙ from_two Outline points i h ∙ ap (λ (p : Planform). at (all_heights p points) i) (sym e)

pub none_behind : (planform : Planform) (points : List Float) (i : ℕ) → every_y planform points ≡ [] → 2 ≤ i
    → bits 0 ⊘ bits 0 ≡ at (all_heights planform points) i
none_behind planform points i e h = no_number ∙ sym (ap (λ (l : List Float). at l (i - 2)) e) ∙ from_two planform points i h

-- what the heights' places ask for, by name in src/lib.rt
pub ruleset by_place = (too_many_at, outline_at, outline_behind, of_outline, none_behind)

-- point by point
pub begins : (points : List Float) (h : Float) (found : RankedHeight) → found ≡ record { place = 0; height = bits 0 ⊘ bits 0 }
    → found ≡ least_above h (heights points 0)
unfolding heights
begins points h found e = e ∙ none_found h

pub one_point : (points : List Float) (h : Float) (i : ℕ) (found after : RankedHeight) → found ≡ least_above h (heights points i)
    → after ≡ found_with h (height_at points i) found
    → after ≡ least_above h (heights points (i + 1))
unfolding heights
one_point points h i found after f e =
    rw (add-one i)
    (e ∙ ap (found_with h (height_at points i)) f ∙ found_with_lem h (height_at points i) (heights points i))

pub place_few : (points : List Float) (h : Float) (i : ℕ) (found : RankedHeight) → found ≡ least_above h (heights points i)
    → found.place ≤ i
place_few points h i found f =
    let p = place_within h (heights points i) in
    let n = heights_length points i in
    omega (arith, p, n, ap (λ (x : RankedHeight). x.place) f)

-- the span and 0 in front of the heights of the points
module _ (planform : Planform) (points : List Float) (h span : Float) (s : span ≡ span_of planform points) (found with_span : RankedHeight)
    (f : found ≡ least_above h (every_y planform points)) (g : with_span ≡ found_with h span found) where
  spanned : with_span ≡ least_above h (span_of planform points ∷ every_y planform points)
  spanned = g ∙ ap₂ (found_with h) s f ∙ found_with_lem h (span_of planform points) (every_y planform points)

  pub both_with : (r : RankedHeight) → r ≡ found_with h (bits 0) with_span → r ≡ least_above h (all_heights planform points)
  both_with r e = e ∙ ap (found_with h (bits 0)) spanned ∙ found_with_lem h (bits 0) (span_of planform points ∷ every_y planform points)

above_number : (x y : Float) → lt x y ≡ true → is_nan y ≡ false
above_number x y h = go (is_nan y) refl
  where
    go : (b : Bool) → is_nan y ≡ b → is_nan y ≡ false
    go true e = no (sym h ∙ below_nan x y e)
    go false e = e

nan_not_below : (x : Float) → lt nan x ≡ false
unfolding lt
nan_not_below x = refl

-- ---- whether any is above h: one is, where the span or 0 is
any_above : Float → List Float → Bool
any_above h [] = false
any_above h (x ∷ l) = lt h x || any_above h l

-- what is found is above h, or nothing was found
above_or_none : (h : Float) (l : List Float) → (lt h (at l (place_above h l)) ≡ true) ⊎ (at l (place_above h l) ≡ nan)
unfolding place_above
above_or_none h [] = inr refl
above_or_none h (x ∷ l) =
    subst (λ (m : Float). (lt h m ≡ true) ⊎ (m ≡ nan)) (sym (height_with h x l))
    (go (lt h x) (lt (at l (place_above h l)) x) refl (above_or_none h l))
  where
    go : (b c : Bool) → lt h x ≡ b → (lt h (at l (place_above h l)) ≡ true) ⊎ (at l (place_above h l) ≡ nan)
        → (lt h (cond (b && not c) x (at l (place_above h l))) ≡ true) ⊎ (cond (b && not c) x (at l (place_above h l)) ≡ nan)
    go true true t f = f
    go true false t f = inl t
    go false c t f = f

found_above : (h : Float) (l : List Float) → lt h (at l (place_above h l)) ≡ any_above h l
unfolding place_above any_above is_nan
found_above h [] = below_nan h nan refl
found_above h (x ∷ l) =
    ap (lt h) (height_with h x l) ∙ go (lt h x) (lt (at l (place_above h l)) x) refl refl (found_above h l) (above_or_none h l)
  where
    none_below : at l (place_above h l) ≡ nan → lt (at l (place_above h l)) x ≡ false
    none_below e = ap (λ (m : Float). lt m x) e ∙ nan_not_below x

    go : (b c : Bool) → lt h x ≡ b → lt (at l (place_above h l)) x ≡ c → lt h (at l (place_above h l)) ≡ any_above h l
        → (lt h (at l (place_above h l)) ≡ true) ⊎ (at l (place_above h l) ≡ nan)
        → lt h (cond (b && not c) x (at l (place_above h l))) ≡ (b || any_above h l)
    go true true t u f (inl k) = k
    go true true t u f (inr e) = no (sym u ∙ none_below e)
    go true false t u f k = t
    go false c t u f k = f

largest_number : (points : List Float) (n : ℕ) → is_nan (largest_height points n) ≡ false
unfolding largest_height
largest_number points zero = equal_no_nan (bits 0) (bits 0) zero_itself
largest_number points (suc n) =
    go (lt (largest_height points n) (height_at points n)) refl (ne_itself (largest_height points n) ∙ largest_number points n)
    (largest_number points n)
  where
    go : (b : Bool) → lt (largest_height points n) (height_at points n) ≡ b → ne (largest_height points n) (largest_height points n) ≡ false
        → is_nan (largest_height points n) ≡ false → is_nan (max_of (largest_height points n) (height_at points n)) ≡ false
    go true t e o = rw (e, t) (above_number (largest_height points n) (height_at points n) t)
    go false t e o = rw (e, t) o

outline_above : (points : List Float) (n : ℕ) (h : Float) → any_above h (heights points n) ≡ true → lt h (largest_height points n) ≡ true
unfolding heights any_above largest_height
outline_above points zero h a = no (sym a)
outline_above points (suc n) h a =
    go (lt M' Y') (lt h Y') refl refl (ne_itself M' ∙ largest_number points n) (largest_number points n) (outline_above points n h)
  where
    M' : Float
    M' = largest_height points n

    Y' : Float
    Y' = height_at points n

    go : (b c : Bool) → lt M' Y' ≡ b → lt h Y' ≡ c → ne M' M' ≡ false → is_nan M' ≡ false
        → (any_above h (heights points n) ≡ true → lt h M' ≡ true)
        → lt h (max_of M' Y') ≡ true
    go true true t u e o f = rw (e, t) u
    go true false t u e o f = rw (e, t) (below_through h M' Y' (above_number M' Y' t) (f (rw u at a)) (lt_asym M' Y' t))
    go false true t u e o f = rw (e, t) (below_through h Y' M' o u t)
    go false false t u e o f = rw (e, t) (f (rw u at a))

every_above : (planform : Planform) (points : List Float) (h : Float) → any_above h (every_y planform points) ≡ true
    → lt h (span_of planform points) ≡ true
unfolding every_y span_of any_above
every_above (Trapezoid root tip span sweep) points h a = no (sym a)
every_above (Ellipse root span) points h a = no (sym a)
every_above Outline points h a = go (leb (pair_count points) most_points) a
  where
    go : (b : Bool) → any_above h (cond b (heights points (pair_count points)) []) ≡ true
        → lt h (largest_height points (pair_count points)) ≡ true
    go true a = outline_above points (pair_count points) h a
    go false a = no (sym a)

-- so whether a strip begins at h asks for the span alone
pub span_above : (planform : Planform) (points : List Float) (h : Float)
    → (lt h (span_of planform points) || lt h (bits 0))
    ≡ lt h (at (all_heights planform points) (place_above h (all_heights planform points)))
unfolding any_above
span_above planform points h =
    go (lt h (bits 0)) (lt h (span_of planform points)) (any_above h (every_y planform points)) refl (every_above planform points h)
    ∙ sym (found_above h (all_heights planform points))
  where
    go : (a b c : Bool) → lt h (span_of planform points) ≡ b → (c ≡ true → lt h (span_of planform points) ≡ true)
        → (b || a) ≡ (a || (b || c))
    go true true c e f = refl
    go true false c e f = refl
    go false true c e f = refl
    go false false true e f = no (sym (f refl) ∙ e)
    go false false false e f = refl
