-- What a join is worked from, over a family of bodies: nothing at first, then one body more. Assumes nothing.
use mathlib.Core.Path.{◌≡◌, refl, sym, ◌∙◌}
use Prim.Native.Nat.{ℕ, zero, suc, ◌+◌}
use native.Mathlib.Numerals.{add-one}
use Rattle.bodies.specs.declared.Body.{Body}
use Rattle.bodies.specs.declared.Vector.{Vector}
use Rattle.bodies.specs.Tensors.{zero_tensor, add_tensors}
use Rattle.bodies.specs.Bodies.{inertia_about_of}
use Rattle.joins.specs.declared.Sums.{Sums}
use Rattle.joins.specs.Joins.{in_order, no_sums, sums_of, add_body, centre_of, inertia_of, at_centre, add_inertia, join_of, two_bodies}

module _ (f : ℕ → Body) where
  pub no_sums_lem : no_sums ≡ sums_of f 0
  unfolding in_order sums_of
  no_sums_lem = refl

  pub sums_suc : (n : ℕ) → sums_of f (suc n) ≡ add_body (sums_of f n) (f n)
  unfolding in_order sums_of
  sums_suc n = refl

  pub sums_next : (n : ℕ) {s r : Sums} {b : Body} → s ≡ sums_of f n → b ≡ f n → r ≡ add_body s b → r ≡ sums_of f (n + 1)
  sums_next n p q e = rw (e, p, q, add-one) (sym (sums_suc n))

  module _ (centre : Vector) where
    no_inertia : zero_tensor ≡ inertia_of f centre 0
    unfolding in_order inertia_of
    no_inertia = refl

    pub inertia_suc : (n : ℕ) → inertia_of f centre (suc n) ≡ add_tensors (inertia_of f centre n) (inertia_about_of (f n) centre)
    unfolding in_order inertia_of
    inertia_suc n = refl

  -- n bodies joined but for the tensors behind the first k
  abbrev pub joined_to : ℕ → ℕ → Body
  joined_to n k =
      record {
        mass_kg = (sums_of f n).mass_kg;
        centre_m = centre_of (sums_of f n);
        inertia_kg_m2 = inertia_of f (centre_of (sums_of f n)) k;
      }

  pub none_joined : (n : ℕ) {s : Sums} {r : Body} → s ≡ sums_of f n → r ≡ at_centre s → r ≡ joined_to n 0
  none_joined n p e = rw (e, p, no_inertia (centre_of (sums_of f n)))

  pub join_next : (n k : ℕ) {t r b : Body} → t ≡ joined_to n k → b ≡ f k → r ≡ add_inertia t b → r ≡ joined_to n (k + 1)
  join_next n k p q e = rw (e, p, q, add-one, inertia_suc (centre_of (sums_of f n)) k)

  pub all_joined : (n : ℕ) → joined_to n n ≡ join_of f n
  unfolding join_of
  all_joined n = refl

  -- the steps over n bodies, from nothing and from the joined mass, make the sums and the join
  sums_added : (n : ℕ) → in_order add_body no_sums f n ≡ sums_of f n
  unfolding in_order
  sums_added zero = no_sums_lem
  sums_added (suc n) = rw (sums_added n) (sym (sums_suc n))

  inertia_added : (n k : ℕ) → in_order add_inertia (at_centre (sums_of f n)) f k ≡ joined_to n k
  unfolding in_order
  inertia_added n zero = none_joined n refl refl
  inertia_added n (suc k) = rw (inertia_added n k, inertia_suc (centre_of (sums_of f n)) k)

  pub all_added : (n : ℕ) {none s : Sums} {t r : Body} → none ≡ no_sums → s ≡ in_order add_body none f n → t ≡ at_centre s
      → r ≡ in_order add_inertia t f n → r ≡ join_of f n
  all_added n p e q h = rw (h, q, e, p, sums_added n) (inertia_added n n ∙ all_joined n)

-- the steps over two bodies
pub two_added : (a b : Body) {none s s' : Sums} {t u r : Body} → none ≡ no_sums → s ≡ add_body none a → s' ≡ add_body s b → t ≡ at_centre s'
    → u ≡ add_inertia t a → r ≡ add_inertia u b → r ≡ join_of (two_bodies a b) 2
unfolding in_order
two_added a b p e e' q h h' = all_added (two_bodies a b) 2 p (rw (e', e)) q (rw (h', h))
