-- Which coordinates are whole numbers of steps: of a trapezoid its own four, since the tip's end is whole where sweep
-- and tip are; of a list its first and those behind it. Assumes nothing.
use mathlib.Core.Path.{◌≡◌, refl, sym, ap, ◌∙◌}
use mathlib.Core.Bool.{Bool, true, false, not, ◌&&◌}
use mathlib.Core.List.{List, [], ◌∷◌, map}
use Prim.Native.Nat.{ℕ, zero, suc}
use lib.IntN.{ℤ, pos, ◌+ℤ◌}
use lib.ListN.{length, get_or}
use Rattle.floats.specs.Operations.{every}
use Rattle.refusals.specs.declared.Refusal.TheVariants.{NotWholeSteps}
use Rattle.refusals.proofs.Accepted.{both_true}
use Rattle.steps.specs.Steps.{is_whole, steps_of}
use Rattle.steps.proofs.Sums.{whole_part}
use Rattle.std.specs.Prelude.{Ok, Err}
use Rattle.drill.specs.Drill.{are_whole, place_of}
use Rattle.drill.specs.InSteps.{in_steps}

-- ---- a test and its opposite

pub not_true : (t : Bool) → not t ≡ true → t ≡ false
not_true true h = sym h
not_true false h = refl

pub not_false : (t : Bool) → not t ≡ false → t ≡ true
not_false true h = refl
not_false false h = sym h

-- ---- a trapezoid

by_cases : (x h w s u t r : Bool) → (w ≡ true → u ≡ t)
    → (x && h && true && true && w && s && u && s && r && true) ≡ (x && h && (w && s && t) && r)
by_cases false h w s u t r e = refl
by_cases true false w s u t r e = refl
by_cases true true false s u t r e = refl
by_cases true true true false u t r e = refl
by_cases true true true true u t r e = rw (e refl) (last t r)
  where
    last : (t r : Bool) → (t && true && r && true) ≡ (t && r)
    last false r = refl
    last true false = refl
    last true true = refl

pub trapezoid : (x h w s t r : ℤ) → are_whole (x ∷ h ∷ pos 0 ∷ pos 0 ∷ w ∷ s ∷ (w +ℤ t) ∷ s ∷ r ∷ pos 0 ∷ [])
    ≡ (is_whole x && is_whole h && (is_whole w && is_whole s && is_whole t) && is_whole r)
unfolding are_whole every is_whole
trapezoid x h w s t r =
    by_cases (is_whole x) (is_whole h) (is_whole w) (is_whole s) (is_whole (w +ℤ t)) (is_whole t) (is_whole r) (whole_part w t)

-- the code's test of a trapezoid, and what it leaves of sweep and tip where it holds
module _ (x h w s t r : ℤ) {a b c d e f : Bool} (xs : a ≡ is_whole x) (hs : b ≡ is_whole h) (ws : c ≡ is_whole w)
    (ss : d ≡ is_whole s) (ts : e ≡ is_whole t) (rs : f ≡ is_whole r) where
  pub trapezoid_tested : (a && b && (c && d && e) && f)
      ≡ are_whole (x ∷ h ∷ pos 0 ∷ pos 0 ∷ w ∷ s ∷ (w +ℤ t) ∷ s ∷ r ∷ pos 0 ∷ [])
  trapezoid_tested = rw (xs, hs, ws, ss, ts, rs) (sym (trapezoid x h w s t r))

  pub tip_whole : not (a && b && (c && d && e) && f) ≡ false → (is_whole w ≡ true) × (is_whole t ≡ true)
  tip_whole o =
      let all = both_true (a && b && (c && d && e)) f (not_false (a && b && (c && d && e) && f) o) in
      let both = both_true (c && d) e (both_true (a && b) (c && d && e) all.0).1 in (
        sym ws ∙ (both_true c d both.0).0,
        sym ts ∙ both.1,
      )

-- ---- a list

and_assoc : (a b c : Bool) → (a && b && c) ≡ (a && (b && c))
and_assoc true b c = refl
and_assoc false b c = refl

first : (n : ℕ) (p : ℕ → Bool) → every (suc n) p ≡ (p 0 && every n (λ k. p (suc k)))
unfolding every
first zero p = last (p 0)
  where
    last : (b : Bool) → b ≡ (b && true)
    last true = refl
    last false = refl
first (suc n) p = ap (λ (b : Bool). b && p (suc n)) (first n p) ∙ and_assoc (p 0) (every n (λ k. p (suc k))) (p (suc n))

one_in_front : (u : ℤ) (l : List ℤ) → are_whole (u ∷ l) ≡ (is_whole u && are_whole l)
unfolding are_whole
one_in_front u l = first (length l) (λ k. is_whole (get_or (u ∷ l) k (pos 0)))

pub two_in_front : (x h : ℤ) (l : List ℤ) → are_whole (x ∷ h ∷ l) ≡ (is_whole x && is_whole h && are_whole l)
two_in_front x h l = one_in_front x (h ∷ l) ∙ ap (λ (b : Bool). is_whole x && b) (one_in_front h l)
    ∙ sym (and_assoc (is_whole x) (is_whole h) (are_whole l))

-- the code's test of an outline
pub outline_tested : (x h : ℤ) (l : List ℤ) {a b c : Bool} → a ≡ is_whole x → b ≡ is_whole h → c ≡ are_whole l
    → (a && b && c) ≡ are_whole (x ∷ h ∷ l)
outline_tested x h l xs hs ls = rw (xs, hs, ls) (sym (two_in_front x h l))

-- ---- the answer, whichever way the test t went

module _ (x h : ℤ) (corners : List ℤ) {t : Bool} (tested : t ≡ are_whole (x ∷ h ∷ corners)) where
  pub refused : not t ≡ true → Err NotWholeSteps ≡ in_steps corners x h
  unfolding in_steps
  refused o = sym (rw (sym tested ∙ not_true t o))

  pub placed : not t ≡ false → {l : List ℤ} {z y : ℤ} → l ≡ map steps_of corners → z ≡ steps_of x → y ≡ steps_of h
      → Ok (place_of l z y) ≡ in_steps corners x h
  unfolding in_steps
  placed o e f g = rw (e, f, g, sym tested ∙ not_false t o)
