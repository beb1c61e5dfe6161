-- An edge with both ends at most lo, or both above hi, is crossed at no height from lo to hi; so the edges that are
-- left have every crossing there. A NaN is below nothing and above nothing, and crosses nothing. Assumes nothing.
use mathlib.Core.Path.{◌≡◌, refl, sym, ap, ◌∙◌}
use mathlib.Core.Bool.{Bool, true, false, ◌&&◌, ◌||◌}
use mathlib.Core.List.{List, []}
use Prim.Native.Nat.{ℕ, zero, suc, ◌+◌, ◌-◌, ◌%◌, ◌≤◌, ◌<◌, zero-le}
use native.Mathlib.Nat.{not-suc-le-zero, le-suc, le_trans, le_refl, mod-eq_of_lt, mod_self}
use native.Mathlib.Numerals.{add-one}
use native.Mathlib.Omega.{arith}
use borrow.Author.Count.{below_more}
use borrow.Author.Tests.{le-leb, lt-leb}
use lib.ListN.{length, take, get_or, set}
use lib.Seq.{get_or-take, get_or-set_same, get_or-set_other, length-take-le}
use lib.Ieee.{Float, lt, le, eq, is_nan}
use Rattle.floats.proofs.Bools.{no, and_left, and_right, or_second}
use Rattle.floats.proofs.Order.{not_lt_through, below_through, le_not_below, below_nan, not_below_itself, equal_sym, equal_no_nan}
use Rattle.planforms.specs.Planforms.{height_at, pair_count}
use Rattle.segments.specs.Segments.{next}
use Rattle.sorting.specs.Sorted.{sorted}
use Rattle.limits.specs.Limits.{most_points}
use Rattle.chords.specs.Chords.{crossed, crossings, outline_crossings}
use Rattle.chords.specs.Edges.{crossings_among, Holding, Near, Kept}
use Rattle.chords.proofs.Crossed.{from_first, from_second, from_neither}

-- ---- an edge that is left out
above_no_nan : (x y : Float) → le x y ≡ true → is_nan y ≡ false
unfolding le
above_no_nan x y l = go (is_nan y) refl
  where
    go : (b : Bool) → is_nan y ≡ b → is_nan y ≡ false
    go false n = n
    go true n = equal_no_nan y x (equal_sym x y (or_second (lt x y) (eq x y) l (below_nan x y n)))

module _ (lo hi h p q : Float) (u : lt h lo ≡ false) (v : lt hi h ≡ false) where
  not_below : (x : Float) → le x lo ≡ true → lt h x ≡ false
  not_below x l = not_lt_through lo x h (above_no_nan x lo l) (le_not_below x lo l) u

  not_reached : (x : Float) → lt hi x ≡ true → le x h ≡ false
  not_reached x l = go (le x h) refl
    where
      go : (b : Bool) → le x h ≡ b → le x h ≡ false
      go false e = e
      go true e = no (sym (below_through hi x h (above_no_nan x h e) l (le_not_below x h e)) ∙ v)

  below_both : le p lo ≡ true → le q lo ≡ true → crossed h p q ≡ false
  below_both a b = go (le p h) (le q h) refl refl
    where
      go : (c d : Bool) → le p h ≡ c → le q h ≡ d → crossed h p q ≡ false
      go true d e f = sym (from_first h p q e) ∙ not_below q b
      go false true e f = sym (from_second h p q e f) ∙ not_below p a
      go false false e f = sym (from_neither h p q e f)

  above_both : lt hi p ≡ true → lt hi q ≡ true → crossed h p q ≡ false
  above_both a b = sym (from_neither h p q (not_reached p a) (not_reached q b))

  pub left_out : ((le p lo && le q lo) || (lt hi p && lt hi q)) ≡ true → crossed h p q ≡ false
  left_out t = go (le p lo && le q lo) refl
    where
      go : (b : Bool) → (le p lo && le q lo) ≡ b → crossed h p q ≡ false
      go true e = below_both (and_left (le p lo) (le q lo) e) (and_right (le p lo) (le q lo) e)
      go false e =
          let f = or_second (le p lo && le q lo) (lt hi p && lt hi q) t e in
          above_both (and_left (lt hi p) (lt hi q) f) (and_right (lt hi p) (lt hi q) f)

-- ---- a list's crossings
-- by the edges that are read alone
same_start : (points : List Float) (n : ℕ) (h : Float) (edges other : List ℕ) (k : ℕ)
    → ((m : ℕ) → m < k → get_or other m 0 ≡ get_or edges m 0)
    → crossings_among points n h other k ≡ crossings_among points n h edges k
unfolding crossings_among
same_start points n h edges other zero e = refl
same_start points n h edges other (suc k) e =
    rw (e k (le_refl (suc k)), same_start points n h edges other k (λ m l. e m (le_trans l (le-suc k))))

-- the first `count` of an array are those of the first i edges that are not left out
pub record KeptTo (points : List Float) (n : ℕ) (lo hi : Float) (i : ℕ) (edges : List ℕ) (count : ℕ) : Type 0 where
  pub fewer : count ≤ i
  pub each : (m : ℕ) → m < count → get_or edges m 0 < n
  pub same : (h : Float) → lt h lo ≡ false → lt hi h ≡ false → crossings_among points n h edges count ≡ crossings points n h i

pub none_yet : (points : List Float) (n : ℕ) (lo hi : Float) (edges : List ℕ) → KeptTo points n lo hi 0 edges 0
unfolding crossings_among crossings
none_yet points n lo hi edges = record { fewer = le_refl 0; each = λ m l. absurd (not-suc-le-zero l); same = λ h u v. refl }

module _ (points : List Float) (n : ℕ) (lo hi : Float) (i : ℕ) (edges after : List ℕ) (count found : ℕ)
    (w : KeptTo points n lo hi i edges count) where
  -- whether both ends of edge i are at most lo, and whether both are above hi
  abbrev Below : Bool
  Below = le (height_at points i) lo && le (height_at points (next n i)) lo

  abbrev Above : Bool
  Above = lt hi (height_at points i) && lt hi (height_at points (next n i))

  without : (Below || Above) ≡ true → found ≡ count → after ≡ edges → KeptTo points n lo hi (suc i) after found
  unfolding crossings
  without t e f =
      rw (e, f)
      (record {
        fewer = le_trans w.fewer (le-suc i);
        each = w.each;
        same = λ h u v. rw (left_out lo hi h (height_at points i) (height_at points (next n i)) u v t) (w.same h u v);
      })

  with_it : i < n → count < length edges → found ≡ count + 1 → after ≡ set edges count i → KeptTo points n lo hi (suc i) after found
  unfolding crossings crossings_among
  with_it l room e f =
      let here : get_or (set edges count i) count 0 ≡ i = get_or-set_same edges count i 0 room in
      let before : (m : ℕ) → m < count → get_or (set edges count i) m 0 ≡ get_or edges m 0 = λ m k. get_or-set_other edges count m i 0
      (λ z. omega arith) in
      rw (e, f)
      (record {
        fewer = (let k = w.fewer in omega arith);
        each = below_more (λ (m : ℕ). get_or (set edges count i) m 0 < n) count (λ m k. rw (before m k) (w.each m k)) (rw here l);
        same = λ h u v. rw (add-one count, here, same_start points n h edges (set edges count i) count before, w.same h u v);
      })

  kept : i < n → count < length edges → Kept edges after count i Below Above found → KeptTo points n lo hi (suc i) after found
  kept l room k = go (Below || Above) refl
    where
      go : (b : Bool) → (Below || Above) ≡ b → KeptTo points n lo hi (suc i) after found
      go true t = without t (k.count_is ∙ rw t) (k.list_is ∙ rw t)
      go false t = with_it l room (k.count_is ∙ rw t) (k.list_is ∙ rw t)

-- at point i the edges before it are asked
pub one_more : (points : List Float) (n : ℕ) (lo hi : Float) (i : ℕ) (edges after : List ℕ) (count found : ℕ) (below above : Bool) → 0 < i
    → i < n → count < length edges
    → below ≡ le (height_at points (i - 1)) lo → above ≡ lt hi (height_at points (i - 1)) → KeptTo points n lo hi (i - 1) edges count
    → Kept edges after count (i - 1) (below && le (height_at points i) lo) (above && lt hi (height_at points i)) found
    → KeptTo points n lo hi (i + 1 - 1) after found
one_more points n lo hi zero edges after count found below above p b room e f w k = absurd (let z : ⊥ = omega arith in z)
one_more points n lo hi (suc i) edges after count found below above p b room e f w k =
    let d : suc i - 1 ≡ i = omega arith in
    let m : next n i ≡ suc i = ap (λ (j : ℕ). j % n) (add-one i) ∙ mod-eq_of_lt b in
    let s : suc i + 1 - 1 ≡ suc i = omega arith in
    rw s (kept points n lo hi i edges after count found (rw d at w) (omega arith) room (rw m (rw (e, f, d) at k)))

pub closed : (points : List Float) (n : ℕ) (lo hi : Float) (i : ℕ) (edges after : List ℕ) (count found : ℕ) (below above : Bool) → i ≡ n
    → 0 < n → count < length edges
    → below ≡ le (height_at points (i - 1)) lo → above ≡ lt hi (height_at points (i - 1)) → KeptTo points n lo hi (i - 1) edges count
    → Kept edges after count (n - 1) (below && le (height_at points 0) lo) (above && lt hi (height_at points 0)) found
    → KeptTo points n lo hi n after found
closed points zero lo hi i edges after count found below above c p room e f w k = absurd (let z : ⊥ = omega arith in z)
closed points (suc n) lo hi i edges after count found below above c p room e f w k =
    let d : suc n - 1 ≡ n = omega arith in
    let m : next (suc n) n ≡ 0 = ap (λ (j : ℕ). j % suc n) (add-one n) ∙ mod_self (suc n) in
    kept points (suc n) lo hi n edges after count found (rw (c, d) at w) (le_refl (suc n)) room (rw m (rw (e, f, c, d) at k))

-- ---- the whole list
module _ (points : List Float) (lo hi : Float) (edges : List ℕ) where
  pub all_near : (count : ℕ) → pair_count points ≤ most_points → length edges ≡ most_points
      → KeptTo points (pair_count points) lo hi (pair_count points) edges count → Near points lo hi edges count
  unfolding outline_crossings
  all_near count b s w =
      let f = w.fewer in
      let room : count ≤ length edges = omega arith in
      let e : length (take count edges) ≡ count = length-take-le count edges room in
      let start : (m : ℕ) → m < count → get_or (take count edges) m 0 ≡ get_or edges m 0 = λ m l. get_or-take count edges m 0 l in
      record {
        room = room;
        holding = λ h u v. record {
          few = rw e (omega arith);
          each = λ k l. let l' : k < count = rw e at l in rw (start k l') (w.each k l');
          every = rw (
            e,
            le-leb (pair_count points) most_points b,
            same_start points (pair_count points) h edges (take count edges) count
                start,
            w.same h u v,
          );
        };
      }

  none_near : ((h : Float) → outline_crossings points h ≡ []) → Near points lo hi edges 0
  unfolding crossings_among sorted
  none_near e = record
      { room = zero-le; holding = λ h u v. record { few = zero-le; each = λ k l. absurd (not-suc-le-zero l); every = sym (e h) } }

  pub no_points : pair_count points ≡ 0 → Near points lo hi edges 0
  unfolding outline_crossings crossings sorted
  no_points e = none_near (λ h. rw e)

  pub too_many : most_points < pair_count points → Near points lo hi edges 0
  unfolding outline_crossings
  too_many b = none_near (λ h. rw (lt-leb (pair_count points) most_points b))

-- of one height
pub at_one_height : {points : List Float} {h : Float} {edges : List ℕ} {count : ℕ} → Near points h h edges count
    → Holding points h (take count edges)
at_one_height {h = h} w = w.holding h (not_below_itself h) (not_below_itself h)
