-- The nearest corner is nearest, and the first that is; and a corner itself is on the edge, with no corner nearer than
-- one in its place. Assumes nothing.
use mathlib.Core.Bool.{Bool, true, false, cond, not, ◌||◌}
use mathlib.Core.List.{List}
use mathlib.Core.Logic.{⊎_elim}
use mathlib.Core.Path.{◌≡◌, refl, sym, ap, subst, ◌∙◌}
use Prim.Native.Nat.{ℕ, zero, suc, ◌+◌, ◌-◌, ◌*◌, ◌≤◌, ◌<◌}
use native.Mathlib.Nat.{not-suc-le-zero, le_of_suc-le-suc, eq-or-lt_of_le, lt_irrefl, le_of_lt, mul-pos, zero-lt-suc}
use native.Mathlib.Omega.{arith}
use lib.Dec.{T, leb→le, le→leb, ltb→lt, leb-zero}
use lib.IntN.{ℤ, pos, negsuc, nat_abs, ◌+ℤ◌, ◌-ℤ◌, ◌*ℤ◌, +ℤ_invr, +ℤ_idl, -ℤ-+ℤ_cancel, zero-*ℤ, *ℤ-zero}
use lib.ListN.{get_or}
use lib.Signed.{le_z, lt_z, ◌≤ℤ◌, ◌<ℤ◌, ≤ℤ_refl, <ℤ-≤ℤ_trans, lt_z_yes, lt_z_no}
use Rattle.polygons.specs.declared.Offset.{Offset}
use Rattle.polygons.specs.Polygons.{is_zero_between, lies_on, squared_distance, is_nearer, corner_count, offset_of, is_on, some}
use Rattle.polygons.specs.Polygons.{is_on_edge, nearer_of, nearest_to, nearest_corner}

-- ---- the nearest corner

lt_le : (a b : ℤ) → T (lt_z a b) → T (le_z a b)
lt_le (pos a) (pos b) h = le→leb a b (le_of_lt (ltb→lt a b h))
lt_le (pos a) (negsuc b) h = absurd h
lt_le (negsuc a) (pos b) h = tt
lt_le (negsuc a) (negsuc b) h = le→leb b a (le_of_lt (ltb→lt b a h))

<ℤ-≤ℤ : {a b : ℤ} → a <ℤ b → a ≤ℤ b
<ℤ-≤ℤ {a} {b} h = record { le = lt_le a b h.lt }

module _ (corners : List ℤ) (x height : ℤ) where
  far : ℕ → ℤ
  far i = squared_distance (offset_of corners x height i)

  -- of corners 0 to m the one that is given has none nearer, and those before it are farther
  record Best (m best : ℕ) : Type 0 where
    among : best ≤ m
    least : (j : ℕ) → j ≤ m → far best ≤ℤ far j
    first : (j : ℕ) → j < best → far best <ℤ far j

  one_more : (m b : ℕ) → Best m b → (t : Bool) → lt_z (far (suc m)) (far b) ≡ t → Best (suc m) (cond t (suc m) b)
  one_more m b best true e =
      let nearer : far (suc m) <ℤ far b = lt_z_yes (subst T (sym e) tt) in
      let before : (j : ℕ) → j ≤ m → far (suc m) <ℤ far j = λ j h. <ℤ-≤ℤ_trans nearer (best.least j h) in
      record {
        among = omega arith;
        least = λ j h. ⊎_elim (λ (z : j ≡ suc m). subst (λ (k : ℕ). far (suc m) ≤ℤ far k) (sym z) (≤ℤ_refl (far (suc m))))
            (λ (z : j < suc m). <ℤ-≤ℤ (before j (omega arith))) (eq-or-lt_of_le h);
        first = λ j h. before j (omega arith);
      }
  one_more m b best false e =
      record {
        among = omega (arith, best.among);
        least = λ j h. ⊎_elim
            (λ (z : j ≡ suc m). subst (λ (k : ℕ). far b ≤ℤ far k) (sym z) (lt_z_no (subst (λ (t : Bool). T (not t)) (sym e) tt)))
            (λ (z : j < suc m). best.least j (omega arith)) (eq-or-lt_of_le h);
        first = best.first;
      }

  best : (m : ℕ) → Best m (nearest_to corners x height m)
  unfolding nearest_to nearer_of is_nearer far
  best zero = record {
    among = omega arith;
    least = λ j h. subst (λ (k : ℕ). far 0 ≤ℤ far k) (let z : 0 ≡ j = omega arith in z) (≤ℤ_refl (far 0));
    first = λ j h. absurd (not-suc-le-zero h);
  }
  best (suc m) = let b = nearest_to corners x height m in one_more m b (best m) (lt_z (far (suc m)) (far b)) refl

  -- it is one of the corners
  pub nearest_among : 0 < corner_count corners → nearest_corner corners x height < corner_count corners
  unfolding nearest_corner
  nearest_among h = omega (arith, (best (corner_count corners - 1)).among)

  -- no corner is nearer than the one that is given
  pub none_nearer : (j : ℕ) → j < corner_count corners
      → squared_distance (offset_of corners x height (nearest_corner corners x height)) ≤ℤ squared_distance (offset_of corners x height j)
  unfolding nearest_corner far
  none_nearer j h = (best (corner_count corners - 1)).least j (omega arith)

  -- and each before it is farther
  pub first_nearest : (j : ℕ) → j < nearest_corner corners x height
      → squared_distance (offset_of corners x height (nearest_corner corners x height)) <ℤ squared_distance (offset_of corners x height j)
  unfolding nearest_corner far
  first_nearest = (best (corner_count corners - 1)).first

-- ---- a corner itself

one_holds : (n : ℕ) (p : ℕ → Bool) (i : ℕ) → i < n → p i ≡ true → some n p ≡ true
unfolding some
one_holds zero p i h e = absurd (not-suc-le-zero h)
one_holds (suc n) p i h e = ⊎_elim
    (λ (z : i ≡ n). ap (λ (t : Bool). some n p || t) (subst (λ (k : ℕ). p k ≡ true) z e) ∙ or_true (some n p))
    (λ (z : i < n). ap (λ (t : Bool). t || p n) (one_holds n p i z e)) (eq-or-lt_of_le (le_of_suc-le-suc h))
  where
    or_true : (a : Bool) → (a || true) ≡ true
    or_true true = refl
    or_true false = refl

zero_between : (b : ℤ) → is_zero_between (pos 0) b ≡ true
zero_between (pos n) = rw (leb-zero n)
zero_between (negsuc n) = refl

on_its_end : (a b : Offset) → a.across ≡ pos 0 → a.up ≡ pos 0 → lies_on a b ≡ true
unfolding lies_on
on_its_end a b e f = rw (e, f, zero-*ℤ b.up, *ℤ-zero b.across, zero_between b.across, zero_between b.up)

module _ (corners : List ℤ) (i : ℕ) (in_range : i < corner_count corners) where
  abbrev at_x : ℤ
  at_x = get_or corners (2 * i) (pos 0)

  abbrev at_height : ℤ
  at_height = get_or corners (2 * i + 1) (pos 0)

  pub corner_on_edge : is_on_edge corners at_x at_height ≡ true
  unfolding is_on_edge is_on offset_of
  corner_on_edge = one_holds (corner_count corners) (is_on corners at_x at_height) i in_range
      (on_its_end _ _ (+ℤ_invr at_x) (+ℤ_invr at_height))

  none_left : (a : ℕ) → a * a ≡ 0 → a ≡ 0
  none_left zero h = refl
  none_left (suc a) h = absurd (lt_irrefl 0 (subst (λ (n : ℕ). 0 < n) h (mul-pos (zero-lt-suc a) (zero-lt-suc a))))

  no_square : (a : ℤ) → nat_abs a * nat_abs a ≡ 0 → a ≡ pos 0
  no_square (pos a) h = ap pos (none_left a h)
  no_square (negsuc a) h = absurd (lt_irrefl 0 (subst (λ (n : ℕ). 0 < n) h (mul-pos (zero-lt-suc a) (zero-lt-suc a))))

  square : (a : ℤ) → a *ℤ a ≡ pos (nat_abs a * nat_abs a)
  square (pos a) = refl
  square (negsuc a) = refl

  at_zero : (u v : ℤ) → (u *ℤ u +ℤ v *ℤ v) ≤ℤ pos 0 → (u ≡ pos 0) × (v ≡ pos 0)
  at_zero u v h =
      let s = nat_abs u * nat_abs u in
      let t = nat_abs v * nat_abs v in
      let l : s + t ≤ 0 = leb→le (s + t) 0
      (subst (λ (z : ℤ). T (le_z z (pos 0))) (ap (λ (z : ℤ). z +ℤ v *ℤ v) (square u) ∙ ap (λ (z : ℤ). pos s +ℤ z) (square v)) h.le) in
      (no_square u (omega arith), no_square v (omega arith))

  same : (a b : ℤ) → a -ℤ b ≡ pos 0 → a ≡ b
  same a b h = sym (-ℤ-+ℤ_cancel a b) ∙ ap (λ (z : ℤ). z +ℤ b) h ∙ +ℤ_idl b

  pub corner_nearest : let j = nearest_corner corners at_x at_height in
      (get_or corners (2 * j) (pos 0) ≡ at_x) × (get_or corners (2 * j + 1) (pos 0) ≡ at_height)
  unfolding squared_distance offset_of
  corner_nearest =
      let j = nearest_corner corners at_x at_height in
      let near = none_nearer corners at_x at_height i in_range in
      let own : (at_x -ℤ at_x) *ℤ (at_x -ℤ at_x) +ℤ (at_height -ℤ at_height) *ℤ (at_height -ℤ at_height) ≡ pos 0 =
      rw (+ℤ_invr at_x, +ℤ_invr at_height) in
      let z = at_zero (get_or corners (2 * j) (pos 0) -ℤ at_x) (get_or corners (2 * j + 1) (pos 0) -ℤ at_height)
      (subst (λ (z : ℤ). squared_distance (offset_of corners at_x at_height j) ≤ℤ z) own near) in
      (same (get_or corners (2 * j) (pos 0)) at_x z.0, same (get_or corners (2 * j + 1) (pos 0)) at_height z.1)
