-- Where a point lies does not hang on the direction in which the corners are given: each edge is an edge of the other
-- polygon with its ends exchanged, a point lies on one where it does on the other, and one is cut where the other is.
-- The nearest corner is as far. Assumes nothing.
use mathlib.Core.Bool.{Bool, true, false, cond, ◌&&◌, ◌||◌}
use mathlib.Core.List.{List}
use mathlib.Core.Path.{◌≡◌, refl, sym, ap, subst, ◌∙◌}
use Prim.Native.Nat.{ℕ, zero, suc, ◌+◌, ◌-◌, ◌*◌, ◌/◌, ◌%◌, ◌<◌}
use native.Mathlib.Nat.{mod-eq_of_lt, mod_self, add_comm, add_assoc, le_antisymm}
use native.Mathlib.Omega.{arith}
use lib.Dec.{T, eqb, leb→le}
use lib.IntN.{ℤ, pos, negsuc, ◌*ℤ◌}
use lib.ListN.{length, get_or}
use lib.Signed.{le_z, ◌≤ℤ◌}
use Rattle.segments.specs.Segments.{next}
use Rattle.polygons.specs.declared.Offset.{Offset}
use Rattle.polygons.specs.Polygons.{is_same, is_zero_between, lies_on, is_cut_rising, is_cut, squared_distance, corner_count, offset_of, is_on}
use Rattle.polygons.specs.Polygons.{cuts, some, count, is_on_edge, is_inside, nearest_corner}
use Rattle.polygons.proofs.Corners.{nearest_among, none_nearer}

-- ---- an edge with its ends exchanged

and_comm : (a b : Bool) → (a && b) ≡ (b && a)
and_comm true true = refl
and_comm true false = refl
and_comm false true = refl
and_comm false false = refl

or_comm : (a b : Bool) → (a || b) ≡ (b || a)
or_comm true true = refl
or_comm true false = refl
or_comm false true = refl
or_comm false false = refl

same_either_way : (a b : ℤ) → is_same a b ≡ is_same b a
same_either_way a b = and_comm (le_z a b) (le_z b a)

between_either_way : (a b : ℤ) → is_zero_between a b ≡ is_zero_between b a
between_either_way a b = or_comm (le_z a (pos 0) && le_z (pos 0) b) (le_z b (pos 0) && le_z (pos 0) a)

lies_either_way : (a b : Offset) → lies_on a b ≡ lies_on b a
unfolding lies_on
lies_either_way a b = rw (
  same_either_way (a.across *ℤ b.up) (b.across *ℤ a.up),
  between_either_way a.across b.across,
  between_either_way a.up b.up,
)

cut_either_way : (a b : Offset) → is_cut a b ≡ is_cut b a
unfolding is_cut
cut_either_way a b = or_comm (is_cut_rising a b) (is_cut_rising b a)

-- ---- f 0, f 1, .. joined by an operation for which order and brackets do not matter

module _ {A : Type 0} (op : A → A → A) (unit : A) where
  joined : ℕ → (ℕ → A) → A
  joined zero f = unit
  joined (suc n) f = op (joined n f) (f n)

  same_joined : (n : ℕ) (f g : ℕ → A) → ((i : ℕ) → i < n → f i ≡ g i) → joined n f ≡ joined n g
  unfolding joined
  same_joined zero f g e = refl
  same_joined (suc n) f g e = rw (same_joined n f g (λ i h. e i (omega arith)), e n (omega arith))

  module _ (comm : (a b : A) → op a b ≡ op b a) (assoc : (a b c : A) → op (op a b) c ≡ op a (op b c)) where
    first_apart : (n : ℕ) (f : ℕ → A) → joined (suc n) f ≡ op (f 0) (joined n (λ i. f (suc i)))
    unfolding joined
    first_apart zero f = comm unit (f 0)
    first_apart (suc n) f = ap (λ (a : A). op a (f (suc n))) (first_apart n f) ∙ assoc (f 0) (joined n (λ i. f (suc i))) (f (suc n))

    backwards : (n : ℕ) (f : ℕ → A) → joined n (λ i. f (n - suc i)) ≡ joined n f
    unfolding joined
    backwards zero f = refl
    backwards (suc n) f =
        let e : suc n - suc n ≡ 0 = omega arith in
        let later = same_joined n (λ i. f (suc n - suc i)) (λ i. f (suc (n - suc i)))
        (λ i h. ap f (let z : suc n - suc i ≡ suc (n - suc i) = omega arith in z)) in
        rw (e, later, backwards n (λ i. f (suc i))) (comm (joined n (λ i. f (suc i))) (f 0) ∙ sym (first_apart n f))

or_assoc : (a b c : Bool) → (a || b || c) ≡ (a || (b || c))
or_assoc true b c = refl
or_assoc false b c = refl

some_joined : (n : ℕ) (p : ℕ → Bool) → some n p ≡ joined ◌||◌ false n p
unfolding some joined
some_joined zero p = refl
some_joined (suc n) p = ap (λ (b : Bool). b || p n) (some_joined n p)

count_joined : (n : ℕ) (p : ℕ → Bool) → count n p ≡ joined ◌+◌ 0 n (λ i. cond (p i) 1 0)
unfolding count joined
count_joined zero p = refl
count_joined (suc n) p = ap (λ (k : ℕ). k + cond (p n) 1 0) (count_joined n p)

-- ---- the edges of the other polygon

-- of n + 1 edges, q's are p's backwards, but for the closing one
module _ {A : Type 0} (op : A → A → A) (unit : A) (comm : (a b : A) → op a b ≡ op b a) (assoc : (a b c : A) → op (op a b) c ≡ op a (op b c))
  where
    same_edges : (n : ℕ) (p q : ℕ → A) → ((i : ℕ) → i < n → q i ≡ p (n - suc i)) → q n ≡ p n
        → joined op unit (suc n) q ≡ joined op unit (suc n) p
    unfolding joined
    same_edges n p q e last = rw (same_joined op unit n q (λ i. p (n - suc i)) e, backwards op unit comm assoc n p, last)

next_inner : (n j : ℕ) → j < n → next (suc n) j ≡ j + 1
next_inner n j h = mod-eq_of_lt (let z : j + 1 < suc n = omega arith in z)

next_last : (n : ℕ) → next (suc n) n ≡ 0
next_last n = ap (λ (k : ℕ). k % suc n) (let z : n + 1 ≡ suc n = omega arith in z) ∙ mod_self (suc n)

-- corner i of the one is corner n - 1 - i of the other
pub record Reversed (corners other : List ℤ) : Type 0 where
  pub long : length other ≡ length corners
  pub across : (i : ℕ) → i < corner_count corners
      → get_or other (2 * i) (pos 0) ≡ get_or corners (2 * (corner_count corners - suc i)) (pos 0)
  pub up : (i : ℕ) → i < corner_count corners
      → get_or other (2 * i + 1) (pos 0) ≡ get_or corners (2 * (corner_count corners - suc i) + 1) (pos 0)

module _ (corners other : List ℤ) (r : Reversed corners other) (x height : ℤ) where
  turned : (i : ℕ) → i < corner_count corners → offset_of other x height i ≡ offset_of corners x height (corner_count corners - suc i)
  unfolding offset_of
  turned i h = rw (r.across i h, r.up i h)

  -- an edge of the other one, by a test that does not mind its ends exchanged
  module _ (test : Offset → Offset → Bool) (either_way : (a b : Offset) → test a b ≡ test b a) where
    abbrev edge : List ℤ → ℕ → Bool
    edge l i = test (offset_of l x height i) (offset_of l x height (next (corner_count l) i))

    counted : corner_count other ≡ corner_count corners
    counted = ap (λ (k : ℕ). k / 2) r.long

    inner : (n i : ℕ) → corner_count corners ≡ suc n → i < n → edge other i ≡ edge corners (n - suc i)
    inner n i e h =
        let f = offset_of corners x height in
        let last = offset_of other x height (next (corner_count other) i) in
        let from : offset_of other x height i ≡ f (n - i) = turned i (omega arith)
        ∙ ap f (let z : corner_count corners - suc i ≡ n - i = omega arith in z) in
        let to : last ≡ f (n - suc i) = ap (offset_of other x height) (ap (λ (k : ℕ). next k i) (counted ∙ e) ∙ next_inner n i h)
        ∙ turned (i + 1) (omega arith) ∙ ap f (let z : corner_count corners - suc (i + 1) ≡ n - suc i = omega arith in z) in
        let back : f (next (corner_count corners) (n - suc i)) ≡ f (n - i) = ap f
        (ap (λ (k : ℕ). next k (n - suc i)) e ∙ next_inner n (n - suc i) (omega arith)
        ∙ (let z : n - suc i + 1 ≡ n - i = omega arith in z)) in
        ap (λ (a : Offset). test a last) from ∙ ap (λ (b : Offset). test (f (n - i)) b) to ∙ either_way (f (n - i)) (f (n - suc i))
        ∙ ap (λ (b : Offset). test (f (n - suc i)) b) (sym back)

    closing : (n : ℕ) → corner_count corners ≡ suc n → edge other n ≡ edge corners n
    closing n e =
        let f = offset_of corners x height in
        let last = offset_of other x height (next (corner_count other) n) in
        let from : offset_of other x height n ≡ f 0 = turned n (omega arith)
        ∙ ap f (let z : corner_count corners - suc n ≡ 0 = omega arith in z) in
        let to : last ≡ f n = ap (offset_of other x height) (ap (λ (k : ℕ). next k n) (counted ∙ e) ∙ next_last n) ∙ turned 0 (omega arith)
        ∙ ap f (let z : corner_count corners - 1 ≡ n = omega arith in z) in
        let back : f (next (corner_count corners) n) ≡ f 0 = ap f (ap (λ (k : ℕ). next k n) e ∙ next_last n) in
        ap (λ (a : Offset). test a last) from ∙ ap (λ (b : Offset). test (f 0) b) to ∙ either_way (f 0) (f n)
        ∙ ap (λ (b : Offset). test (f n) b) (sym back)

    module _ {A : Type 0} (op : A → A → A) (unit : A) (comm : (a b : A) → op a b ≡ op b a)
        (assoc : (a b c : A) → op (op a b) c ≡ op a (op b c)) (value : Bool → A) where
      all_edges : (n : ℕ) → corner_count corners ≡ n
          → joined op unit n (λ i. value (edge other i)) ≡ joined op unit n (λ i. value (edge corners i))
      unfolding joined
      all_edges zero e = refl
      all_edges (suc n) e = same_edges op unit comm assoc n (λ i. value (edge corners i)) (λ i. value (edge other i))
          (λ i h. ap value (inner n i e h)) (ap value (closing n e))

  pub on_edge_either_way : is_on_edge other x height ≡ is_on_edge corners x height
  unfolding is_on_edge is_on
  on_edge_either_way =
      let n = corner_count corners in
      ap (λ (k : ℕ). some k (is_on other x height)) (ap (λ (k : ℕ). k / 2) r.long)
      ∙ some_joined n (is_on other x height)
      ∙ all_edges lies_on lies_either_way ◌||◌ false or_comm or_assoc (λ t. t) n refl
      ∙ sym (some_joined n (is_on corners x height))

  pub inside_either_way : is_inside other x height ≡ is_inside corners x height
  unfolding is_inside cuts
  inside_either_way =
      let n = corner_count corners in
      ap (λ (k : ℕ). eqb (k % 2) 1)
      (ap (λ (k : ℕ). count k (cuts other x height)) (ap (λ (k : ℕ). k / 2) r.long)
      ∙ count_joined n (cuts other x height)
      ∙ all_edges is_cut cut_either_way ◌+◌ 0 add_comm add_assoc (λ t. cond t 1 0) n refl
      ∙ sym (count_joined n (cuts corners x height)))

-- ---- the nearest corner

neither_less : (a b : ℤ) → T (le_z a b) → T (le_z b a) → a ≡ b
neither_less (pos a) (pos b) h g = ap pos (le_antisymm (leb→le a b h) (leb→le b a g))
neither_less (pos a) (negsuc b) h g = absurd h
neither_less (negsuc a) (pos b) h g = absurd g
neither_less (negsuc a) (negsuc b) h g = ap negsuc (le_antisymm (leb→le a b g) (leb→le b a h))

module _ (corners other : List ℤ) (r : Reversed corners other) (x height : ℤ) (some_corner : 0 < corner_count corners) where
  n : ℕ
  n = corner_count corners

  far : List ℤ → ℕ → ℤ
  far l i = squared_distance (offset_of l x height i)

  first : ℕ
  first = nearest_corner corners x height

  second : ℕ
  second = nearest_corner other x height

  as_many : corner_count other ≡ n
  unfolding n
  as_many = ap (λ (k : ℕ). k / 2) r.long

  first_among : first < n
  unfolding first n
  first_among = nearest_among corners x height some_corner

  second_among : second < n
  unfolding second n
  second_among = subst (λ (k : ℕ). second < k) as_many (nearest_among other x height (subst (λ (k : ℕ). 0 < k) (sym as_many) some_corner))

  first_least : far corners first ≤ℤ far other second
  unfolding first second far n
  first_least =
      subst (λ (a : Offset). far corners first ≤ℤ squared_distance a) (sym (turned corners other r x height second second_among))
      (none_nearer corners x height (n - suc second) (let h = second_among in let z : n - suc second < n = omega arith in z))

  second_least : far other second ≤ℤ far corners first
  unfolding first second far n
  second_least =
      let h = first_among in
      let i = n - suc first in
      let less : i < n = omega arith in
      let back : n - suc i ≡ first = omega arith in
      subst (λ (a : Offset). far other second ≤ℤ squared_distance a)
      (turned corners other r x height i less ∙ ap (offset_of corners x height) back)
      (none_nearer other x height i (subst (λ (k : ℕ). i < k) (sym as_many) less))

  pub nearest_either_way : squared_distance (offset_of other x height (nearest_corner other x height))
      ≡ squared_distance (offset_of corners x height (nearest_corner corners x height))
  unfolding first second far
  nearest_either_way = neither_less (far other second) (far corners first) second_least.le first_least.le
