-- Copies at places: one place at HERE gives the body itself, others are joined. Assumes nothing.
use mathlib.Core.Bool.{Bool, true, false, cond, ◌&&◌}
use mathlib.Core.Path.{◌≡◌, refl, sym, ◌∙◌}
use Prim.Native.Nat.{ℕ, zero, suc, ◌≤◌}
use borrow.Author.Tests.{le-leb}
use lib.Dec.{eqb}
use lib.Ieee.{Float, eq}
use Rattle.floats.specs.Operations.{◌⊕◌, bits}
use Rattle.bodies.specs.declared.Body.{Body}
use Rattle.bodies.specs.Bodies.{rotated_of}
use Rattle.rotations.specs.Rotations.{rolled_of}
use Rattle.std.specs.Prelude.{Result, Ok}
use Rattle.refusals.specs.declared.Refusal.{Refusal}
use Rattle.joins.specs.Joins.{in_order, sums_of, join_of, joined_of}
use Rattle.placements.specs.declared.Placement.{Placement}
use Rattle.placements.specs.Places.{is_here}
use Rattle.placements.specs.Copies.{turned_copy, copy_at, placed_of}

module _ (b : Body) (places : ℕ → Placement) (n : ℕ) {count : ℕ} {same : Bool} {first : Placement} (p : count ≡ n) (q : first ≡ places 0)
    (e : same ≡ is_here first) where
  test : (eqb count 1 && same) ≡ (eqb n 1 && is_here (places 0))
  test = rw (p, e, q)

  pub at_here : {r : Result Body Refusal} → (eqb count 1 && same) ≡ true → r ≡ Ok b → r ≡ Ok (placed_of b places n)
  unfolding placed_of
  at_here t k = k ∙ rw (sym test ∙ t)

  pub elsewhere : {r : Result Body Refusal} → (eqb count 1 && same) ≡ false → 1 ≤ n → n ≤ 32
      → r ≡ joined_of (λ k. copy_at b (places k)) count → r ≡ Ok (placed_of b places n)
  unfolding placed_of
  elsewhere t l h k = k ∙ rw (p, sym test ∙ t, le-leb 1 n l, le-leb n 32 h)

module _ (b : Body) (places : ℕ → Placement) where
  -- a copy at HERE, either zero counting as zero, and nothing else is the body, bit for bit
  pub only_here : is_here (places 0) ≡ true → placed_of b places 1 ≡ b
  unfolding placed_of
  only_here h = rw h

  -- a turn or a move changes no mass
  turned_mass : (roll : Float) → (turned_copy b roll).mass_kg ≡ b.mass_kg
  unfolding turned_copy rotated_of
  turned_mass roll = by (eq roll (bits 0))
    where
      by : (zero_roll : Bool) → (cond zero_roll b (rolled_of b roll)).mass_kg ≡ b.mass_kg
      by true = refl
      by false = refl

  copy_mass : (p : Placement) → (copy_at b p).mass_kg ≡ b.mass_kg
  unfolding copy_at
  copy_mass p = turned_mass p.roll_rad

  -- the mass of n joined copies is n sums of the body's
  pub copies_mass : (n : ℕ) → (join_of (λ k. copy_at b (places k)) n).mass_kg ≡ in_order (λ x y. x ⊕ y) (bits 0) (λ k. b.mass_kg) n
  unfolding in_order sums_of join_of
  copies_mass zero = refl
  copies_mass (suc n) = rw (copies_mass n, copy_mass (places n))
