-- The place of the highest number, one place after another. Assumes nothing.
use mathlib.Core.Path.{◌≡◌, refl, ◌∙◌}
use mathlib.Core.Bool.{Bool, true, false, cond, ◌||◌}
use Prim.Native.Nat.{ℕ, zero, suc, ◌-◌, ◌≤◌, ◌<◌}
use native.Mathlib.Nat.{le_refl}
use native.Mathlib.Omega.{arith}
use mathlib.Core.List.{List}
use lib.ListN.{length}
use lib.Ieee.{Float, le, ne}
use Rattle.tolerance.specs.Bounds.{bound_of, score_of, last_highest, piece_at, worst_place}
use Rattle.quadrature.specs.declared.Piece.{Piece}
use Rattle.tolerance.specs.Steps.{higher_of}
use Rattle.tolerance.specs.declared.Highest.{Highest}

-- what the code keeps of the places 0 to n
abbrev pub highest_of : (ℕ → Float) → ℕ → Highest
highest_of g n = record { number = g (last_highest g n); place = last_highest g n }

pub highest_first : (g : ℕ → Float) → record { number = g 0; place = 0 } ≡ highest_of g 0
unfolding last_highest
highest_first g = refl

pub highest_next : (g : ℕ → Float) (n : ℕ) (h r : Highest) → h ≡ highest_of g n → r ≡ higher_of h (g (suc n)) (suc n)
    → r ≡ highest_of g (suc n)
unfolding higher_of last_highest
highest_next g n h r e f = f ∙ rw e (look (ne (g (suc n)) (g (suc n)) || le (g (last_highest g n)) (g (suc n))))
  where
    look : (b : Bool) → cond b (record { number = g (suc n); place = suc n }) (highest_of g n)
        ≡ record { number = g (cond b (suc n) (last_highest g n)); place = cond b (suc n) (last_highest g n) }
    look true = refl
    look false = refl

pub highest_below : (g : ℕ → Float) (n : ℕ) → last_highest g n ≤ n
unfolding last_highest
highest_below g zero = le_refl 0
highest_below g (suc n) = look (highest_below g n) (ne (g (suc n)) (g (suc n)) || le (g (last_highest g n)) (g (suc n)))
  where
    look : last_highest g n ≤ n → (b : Bool) → cond b (suc n) (last_highest g n) ≤ suc n
    look i true = le_refl (suc n)
    look i false = omega arith

-- equal numbers at the places 0 to n have equal highest places
pub highest_same : (g h : ℕ → Float) (n : ℕ) → ((i : ℕ) → i ≤ n → g i ≡ h i) → last_highest g n ≡ last_highest h n
unfolding last_highest
highest_same g h zero e = refl
highest_same g h (suc n) e =
    let i : last_highest g n ≡ last_highest h n = highest_same g h n (λ k l. e k (omega arith)) in
    rw (i, e (suc n) (le_refl (suc n)), e (last_highest h n) (omega (arith, highest_below h n)))

-- the worst piece is one of the pieces
pub worst_below : (w : ℕ) (pieces : List Piece) → 1 ≤ length pieces → worst_place w pieces < length pieces
unfolding worst_place
worst_below w pieces few = omega (arith, highest_below (λ i. score_of w (bound_of pieces) (piece_at pieces i)) (length pieces - 1))
