-- Joins over a family of bodies: families alike are joined alike, a join of one, and a join's mass and centre. Assumes nothing.
use mathlib.Core.Bool.{Bool, true, false, true≢false}
use mathlib.Core.Path.{◌≡◌, refl, sym, ap, subst, ◌∙◌}
use Prim.Native.Nat.{ℕ, zero, suc, ◌/◌, ◌%◌, ◌≤◌, ◌<◌}
use native.Mathlib.Nat.{lt-suc_self}
use native.Mathlib.Omega.{arith}
use borrow.Author.Tests.{eq-eqb}
use lib.Dec.{T}
use lib.ListN.{length}
use lib.Ieee.{Float, nan, lt, ne, of_bits, add}
use lib.Ieee.Compare.{differs_from_itself, nan_differs}
use Rattle.floats.specs.Operations.{◌⊕◌, bits, every}
use Rattle.floats.specs.Constants.{one}
use Rattle.floats.proofs.Every.{every_holds}
use Rattle.bodies.specs.declared.Body.{Body}
use Rattle.bodies.specs.declared.Vector.{Vector}
use Rattle.bodies.specs.Vectors.{vector, divide_vector}
use Rattle.bodies.specs.Tensors.{zero_tensor, add_tensors}
use Rattle.bodies.specs.Bodies.{inertia_about_of}
use Rattle.bodies.specs.Layout.{body_numbers}
use Rattle.joins.specs.Flat.{body_at, listed}
use Rattle.joins.specs.Joins.{in_order, no_sums, sums_of, add_body, centre_of, inertia_of, join_of, joined_of, combine_of}
use Rattle.joins.proofs.InOrder.{no_sums_lem, sums_suc, inertia_suc}
use Rattle.joins.proofs.Listed.{read_back, length_listed, read_back_lem}

-- bodies that a join takes alike: it reads no more of a body than this
abbrev Alike : Body → Body → Type 0
Alike a b = (a.mass_kg ≡ b.mass_kg) × (a.centre_m ≡ b.centre_m)
    × ((point : Vector) → inertia_about_of a point ≡ inertia_about_of b point)

the_same : {a b : Body} → a ≡ b → Alike a b
the_same e = (ap (λ (x : Body). x.mass_kg) e, ap (λ (x : Body). x.centre_m) e, λ point. ap (λ (x : Body). inertia_about_of x point) e)

as_read_back : {a : Body} (b : Body) → a ≡ read_back b → Alike a b
unfolding inertia_about_of
as_read_back b e = the_same e

lt_suc : {k n : ℕ} → k < n → k < suc n
lt_suc l = omega arith

module _ (f g : ℕ → Body) where
  sums_alike : (n : ℕ) → ((k : ℕ) → k < n → Alike (f k) (g k)) → sums_of f n ≡ sums_of g n
  sums_alike zero alike = sym (no_sums_lem f) ∙ no_sums_lem g
  sums_alike (suc n) alike =
      let a = alike n (lt-suc_self n) in
      sums_suc f n ∙ rw (sums_alike n (λ k l. alike k (lt_suc l)), a.0, a.1) (sym (sums_suc g n))

  inertia_alike : (centre : Vector) (n : ℕ) → ((k : ℕ) → k < n → Alike (f k) (g k)) → inertia_of f centre n ≡ inertia_of g centre n
  unfolding in_order inertia_of
  inertia_alike centre zero alike = refl
  inertia_alike centre (suc n) alike =
      inertia_suc f centre n
      ∙ rw (inertia_alike centre n (λ k l. alike k (lt_suc l)), (alike n (lt-suc_self n)).2 centre) (sym (inertia_suc g centre n))

  join_alike : (n : ℕ) → ((k : ℕ) → k < n → Alike (f k) (g k)) → join_of f n ≡ join_of g n
  unfolding join_of
  join_alike n alike = rw (sums_alike n alike, inertia_alike (centre_of (sums_of g n)) n alike)

  pub join_same : (n : ℕ) → ((k : ℕ) → k < n → f k ≡ g k) → join_of f n ≡ join_of g n
  join_same n same = join_alike n (λ k l. the_same (same k l))

  pub join_read_back : (n : ℕ) → ((k : ℕ) → k < n → f k ≡ read_back (g k)) → join_of f n ≡ join_of g n
  join_read_back n back = join_alike n (λ k l. as_read_back (g k) (back k l))

-- the list of n bodies is joined as they are
pub combine_listed : (f : ℕ → Body) (n : ℕ) → combine_of (listed f n) ≡ joined_of f n
combine_listed f n =
    let long = length_listed f n in
    let whole : length (listed f n) % body_numbers ≡ 0 = omega arith in
    let count : length (listed f n) / body_numbers ≡ n = omega arith in
    rw (eq-eqb _ _ whole, count, join_read_back (body_at (listed f n)) f n (read_back_lem f n))

decide : (b : Bool) → (T b → ⊥) → b ≡ false
decide true never = absurd (never tt)
decide false never = refl

nan_not_above : lt (bits 0) nan ≡ true → ⊥
unfolding lt of_bits
nan_not_above e = true≢false (sym e)

-- a number above 0 is no NaN
above_differs : (x : Float) → lt (bits 0) x ≡ true → ne x x ≡ false
above_differs x h =
    decide (ne x x) (λ (t : T (ne x x)). nan_not_above (subst (λ (y : Float). lt (bits 0) y ≡ true) (differs_from_itself x t) h))

-- a count of 1 to 32 is above 0
abbrev above : ℕ → Bool
above k = lt (bits 0) (in_order (λ x y. x ⊕ y) (bits 0) (λ k. one) (suc k))

all_above : every 32 above ≡ true
unfolding every in_order lt of_bits add
all_above = refl

counted : (n : ℕ) → 1 ≤ n → n ≤ 32 → lt (bits 0) (in_order (λ x y. x ⊕ y) (bits 0) (λ k. one) n) ≡ true
counted zero l h = absurd (let z : ⊥ = omega arith in z)
counted (suc k) l h = every_holds 32 above all_above k (omega arith)

module _ (f : ℕ → Body) where
  -- one body is joined like any other: its centre is its moment over its mass, rounded, and not the centre that it came with
  pub join_one :
      join_of f 1
      ≡ record {
        mass_kg = (add_body no_sums (f 0)).mass_kg;
        centre_m = centre_of (add_body no_sums (f 0));
        inertia_kg_m2 = add_tensors zero_tensor (inertia_about_of (f 0) (centre_of (add_body no_sums (f 0))));
      }
  unfolding in_order sums_of inertia_of join_of
  join_one = refl

  pub join_mass : (n : ℕ) → (join_of f (suc n)).mass_kg ≡ (join_of f n).mass_kg ⊕ (f n).mass_kg
  unfolding in_order sums_of join_of
  join_mass n = refl

  pub centre_nan : (n : ℕ) → (join_of f n).mass_kg ≡ nan → (join_of f n).centre_m ≡ vector nan nan nan
  unfolding join_of
  centre_nan n h = rw (h, nan_differs)

  pub centre_mean : (n : ℕ) → 1 ≤ n → n ≤ 32 → ne (join_of f n).mass_kg (join_of f n).mass_kg ≡ false
      → lt (bits 0) (join_of f n).mass_kg ≡ false → (join_of f n).centre_m ≡ divide_vector (sums_of f n).positions (sums_of f n).count
  unfolding join_of sums_of
  centre_mean n l h p q = rw (p, q, counted n l h)

  pub centre_above : (n : ℕ) → lt (bits 0) (join_of f n).mass_kg ≡ true
      → (join_of f n).centre_m ≡ divide_vector (sums_of f n).moment (join_of f n).mass_kg
  unfolding join_of
  centre_above n h = rw (above_differs (sums_of f n).mass_kg h, h)
