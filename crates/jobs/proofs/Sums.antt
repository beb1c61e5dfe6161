-- Strips one after another: what one more adds to the totals, and that the counts fit a word. Assumes nothing.
use mathlib.Core.Path.{◌≡◌, refl, sym, ap, ◌∙◌}
use mathlib.Core.Bool.{Bool, true, false, cond, true≢false}
use mathlib.Core.List.{List, [], ◌∷◌, ◌++◌}
use Prim.Native.Nat.{ℕ, suc, ◌-◌, ◌*◌, ◌≤◌}
use native.Mathlib.Omega.{arith}
use lib.ListN.{length}
use lib.Ieee.{Float}
use Rattle.floats.specs.Operations.{◌⊘◌}
use Rattle.limits.specs.Limits.{most_pieces}
use Rattle.halving.specs.Cover.{samples_for}
use Rattle.halving.specs.Halving.{halving}
use Rattle.halving.specs.Scratch.{intervals_of}
use Rattle.halving.specs.Endings.{Ending, accepted as Accepted}
use Rattle.halving.specs.declared.Integral.{Integral}
use Rattle.strips.specs.Strips.{Worked, samples_of, is_accepted, strip_of, worked_of, ending_from, samples_in, intervals_in, summed_of, with_strip}
use Rattle.strips.specs.Strips.{integral_in}
use Rattle.strips.specs.Claim.{Each}
use Rattle.strips.proofs.Upward.{none, totals_from, totals_are, strip_few}
use Rattle.strips.proofs.Claims.{each_worked}

-- ---- one strip more
totals_with : (t : Integral) (strips : List Worked) (s : Worked)
    → totals_from t (strips ++ (s ∷ [])) ≡ with_strip (totals_from t strips).totals (integral_in s)
totals_with t [] s = refl
totals_with t (x ∷ strips) s = totals_with (with_strip t.totals (integral_in x)) strips s

pub summed_with : (strips : List Worked) (s : Worked)
    → with_strip (summed_of strips).totals (integral_in s) ≡ summed_of (strips ++ (s ∷ []))
summed_with strips s =
    ap (λ (t : Integral). with_strip t.totals (integral_in s)) (sym (totals_are strips)) ∙ sym (totals_with none strips s)
    ∙ totals_are (strips ++ (s ∷ []))

pub ending_with : (e : Ending) (strips : List Worked) (s : Worked) → ending_from e (strips ++ (s ∷ [])) ≡ s.halved.ending
ending_with e [] s = refl
ending_with e (x ∷ strips) s = ending_with x.halved.ending strips s

-- ---- few intervals and samples
abbrev pub Few : Worked → Type 0
Few s = (intervals_of s.lower s.upper s.halved ≤ most_pieces) × (samples_of s ≤ samples_for most_pieces)

pub few_in : (strips : List Worked) → Each Few strips
    → (intervals_in strips ≤ most_pieces * length strips) × (samples_in strips ≤ samples_for most_pieces * length strips)
few_in [] e = (omega arith, omega arith)
few_in (s ∷ strips) e =
    let rest = few_in strips e.1 in
    (omega (arith, e.0.0, rest.0), omega (arith, e.0.1, rest.1))

pub each_front : (P : Worked → Type 0) (front back : List Worked) → Each P (front ++ back) → Each P front
each_front P [] back e = tt
each_front P (s ∷ front) back e = (e.0, each_front P front back e.1)

pub each_with : (P : Worked → Type 0) (strips : List Worked) (s : Worked) → Each P strips → P s → Each P (strips ++ (s ∷ []))
each_with P [] s e p = (p, tt)
each_with P (x ∷ strips) s e p = (e.0, each_with P strips s e.1 p)

module _ (f : Float → List Float) (L : ℕ) (scale : Float) (some : 1 ≤ L) (most : L ≤ most_pieces) where
  pub strip_is_few : (lower upper : Float) → Few (strip_of 7 f L lower upper)
  strip_is_few lower upper =
      let n = strip_few f L scale lower upper some in
      (omega (arith, most, n.0), omega (arith, most, some, n.1))

  pub all_few : (heights : List Float) → Each Few (worked_of 7 f L scale heights)
  all_few heights = each_worked 7 f L scale Few strip_is_few heights

-- ---- as many strips as lie between the heights, where none is refused
accepts : (e : Ending) → e ≡ Accepted → is_accepted e ≡ true
accepts e h = ap is_accepted h

module _ (f : Float → List Float) (L : ℕ) (scale : Float) where
  pub worked_all : (heights : List Float) (e : Ending) → ending_from e (worked_of 7 f L scale heights) ≡ Accepted
      → length (worked_of 7 f L scale heights) ≡ length heights - 0 - 1
  unfolding worked_of
  worked_all [] e h = omega arith
  worked_all (x ∷ []) e h = omega arith
  worked_all (x ∷ y ∷ heights) e h = go (is_accepted E) refl (worked_all (y ∷ heights) E) h
    where
      E : Ending
      E = (halving 7 f (x ⊘ scale) (y ⊘ scale) L).ending

      rest : List Worked
      rest = worked_of 7 f L scale (y ∷ heights)

      go : (b : Bool) → is_accepted E ≡ b → (ending_from E rest ≡ Accepted → length rest ≡ length (y ∷ heights) - 0 - 1)
          → ending_from E (cond b rest []) ≡ Accepted
          → suc (length (cond b rest [])) ≡ length (x ∷ y ∷ heights) - 0 - 1
      go true a below k = omega (arith, below k)
      go false a below k = absurd (true≢false (sym (accepts E k) ∙ a))
