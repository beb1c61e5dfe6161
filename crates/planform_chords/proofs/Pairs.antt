-- The pairs of a list: half as many as it is long, and their ends are its start. Assumes nothing.
use mathlib.Core.Path.{◌≡◌, refl, sym, ap, ◌∙◌}
use mathlib.Core.List.{List, [], ◌∷◌}
use Prim.Native.Nat.{ℕ, suc, ◌*◌, ◌/◌}
use native.Mathlib.Omega.{arith}
use lib.ListN.{length, take}
use lib.Ieee.{Float}
use Rattle.chords.specs.Chords.{paired}
use Rattle.planform_chords.specs.PlanformChords.{ends_in}

two_more : (n : ℕ) → suc (suc n) / 2 ≡ suc (n / 2)
two_more n = omega arith

pub pairs_count : (l : List Float) → length (paired l) ≡ length l / 2
unfolding paired
pairs_count [] = refl
pairs_count (a ∷ []) = refl
pairs_count (a ∷ b ∷ l) = ap suc (pairs_count l) ∙ sym (two_more (length l))

pub pairs_ends : (l : List Float) → ends_in (paired l) ≡ take (2 * (length l / 2)) l
unfolding paired ends_in
pairs_ends [] = refl
pairs_ends (a ∷ []) = refl
pairs_ends (a ∷ b ∷ l) =
    let e : 2 * (suc (suc (length l)) / 2) ≡ suc (suc (2 * (length l / 2))) = omega arith in
    rw e (ap (λ (t : List Float). a ∷ b ∷ t) (pairs_ends l))
