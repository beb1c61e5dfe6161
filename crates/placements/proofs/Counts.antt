-- Counts of places. Assumes nothing.
use Rattle.std.specs.Prelude.{Ok, Err}
use mathlib.Core.Bool.{Bool, true, false, cond, false≢true}
use mathlib.Core.List.{List, [], ◌∷◌}
use mathlib.Core.Path.{◌≡◌, subst}
use Prim.Native.Nat.{ℕ, ◌<◌, ◌≤◌}
use native.Mathlib.Omega.{arith}
use lib.Ieee.{Float}
use Rattle.refusals.specs.declared.Refusal.TheVariants.{Count}
use Rattle.refusals.proofs.Accepted.{holds, each_accepts}
use Rattle.limits.specs.Limits.{count_check}
use Rattle.limits.proofs.Accepted.{count_within}
use Rattle.bodies.specs.declared.Body.{Body}
use Rattle.body_check.specs.BodyCheck.{check_of}
use Rattle.placements.specs.Places.{place_count, is_whole_list, list_check, places_check}
use Rattle.placements.specs.Copies.{copies_check}

pub below : {k n m : ℕ} → k < n → n ≤ m → k < m
below h g = omega arith

-- a place of a list, of whichever kind it is known to be
pub of_kind : (kind : Bool) (l : List Float) (k : ℕ) {rolled : Bool} → rolled ≡ kind → k < place_count rolled l → k < place_count kind l
of_kind kind l k e h = subst (λ (b : Bool). k < place_count b l) e h

listed : (whole : Bool) (n : ℕ) → cond whole (count_check n) (Err Count) ≡ Ok tt → (1 ≤ n) × (n ≤ 32)
listed true n h = count_within n h
listed false n h = absurd (false≢true (holds false Count h))

-- an accepted list holds 1 to 32 places
pub counted : (rolled : Bool) (b : Body) (l : List Float) → copies_check rolled b l ≡ Ok tt
    → (1 ≤ place_count rolled l) × (place_count rolled l ≤ 32)
unfolding copies_check
counted rolled b l h =
    listed (is_whole_list rolled l) (place_count rolled l)
    (each_accepts (check_of b ∷ list_check rolled l ∷ places_check rolled l ∷ []) h).1.0
