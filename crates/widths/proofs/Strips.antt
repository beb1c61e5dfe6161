-- The strips of a run at width w are those at width v with zeros behind, where the components between are zero in every sample and each
-- strip's ends are in order; and so are the samples, intervals and ending that are reported, and the totals. Assumes nothing.
use mathlib.Core.Path.{◌≡◌, refl, ap, ◌∙◌, subst}
use mathlib.Core.Bool.{Bool, true, false, cond}
use mathlib.Core.List.{List, [], ◌∷◌, map}
use Prim.Native.Nat.{ℕ, ◌+◌, ◌-◌}
use lib.ListN.{length, length-map}
use lib.Ieee.{Float}
use Rattle.floats.specs.Operations.{◌⊘◌}
use Rattle.rounding.specs.Sizes.{InOrder}
use Rattle.halving.specs.Halving.{Halved, halving}
use Rattle.pieces.specs.Stored.{widened}
use Rattle.halving.specs.Scratch.{widened_halved}
use Rattle.halving.specs.Endings.{Ending}
use Rattle.strips.specs.Strips.{Worked, is_accepted, worked_of, samples_in, intervals_in, ending_from, ending_of, widened_strip}
use Rattle.strips.specs.Claim.{Each}
use Rattle.widths.specs.Widths.{ZerosBehind}
use Rattle.widths.proofs.Halvings.{zeros_change_nothing}

module _ (v w : ℕ) (g f : Float → List Float) (z : ZerosBehind v w g f) where
  pub strips_change_nothing : (limit : ℕ) (scale : Float) (heights : List Float)
      → Each (λ s. InOrder 1000 s.lower s.upper) (worked_of w f limit scale heights)
      → worked_of w f limit scale heights ≡ map (widened_strip (w - v)) (worked_of v g limit scale heights)
  unfolding worked_of
  strips_change_nothing limit scale [] e = refl
  strips_change_nothing limit scale (h ∷ []) e = refl
  strips_change_nothing limit scale (h ∷ k ∷ heights) e =
      let a = h ⊘ scale in
      let b = k ⊘ scale in
      let q = zeros_change_nothing v w g f z a b limit e.0 in
      ap (λ (x : Halved). record { lower = a; upper = b; halved = x } ∷ cond (is_accepted x.ending)
      (worked_of w f limit scale (k ∷ heights)) []) q
      ∙ ap (λ (l : List Worked). record { lower = a; upper = b; halved = widened_halved (w - v) (halving v g a b limit) } ∷ l)
      (go (strips_change_nothing limit scale (k ∷ heights)) (is_accepted (halving v g a b limit).ending)
      (ap (λ (x : Halved). is_accepted x.ending) q) e.1)
    where
      go : (Each (λ s. InOrder 1000 s.lower s.upper) (worked_of w f limit scale (k ∷ heights))
          → worked_of w f limit scale (k ∷ heights) ≡ map (widened_strip (w - v)) (worked_of v g limit scale (k ∷ heights)))
          → (t : Bool) → is_accepted (halving w f (h ⊘ scale) (k ⊘ scale) limit).ending ≡ t
          → Each (λ s. InOrder 1000 s.lower s.upper)
          (cond (is_accepted (halving w f (h ⊘ scale) (k ⊘ scale) limit).ending) (worked_of w f limit scale (k ∷ heights)) [])
          → cond t (worked_of w f limit scale (k ∷ heights)) []
          ≡ map (widened_strip (w - v)) (cond t (worked_of v g limit scale (k ∷ heights)) [])
      go next true p r =
          next
          (subst (λ (t : Bool). Each (λ s. InOrder 1000 s.lower s.upper) (cond t (worked_of w f limit scale (k ∷ heights)) [])) p r)
      go next false p r = refl

-- ---- what is reported of strips does not see the zeros
pub samples_same : (d : ℕ) (strips : List Worked) → samples_in (map (widened_strip d) strips) ≡ samples_in strips
samples_same d [] = refl
samples_same d (s ∷ strips) = ap (λ (n : ℕ). length s.halved.heights + n) (samples_same d strips)

pub intervals_same : (d : ℕ) (strips : List Worked) → intervals_in (map (widened_strip d) strips) ≡ intervals_in strips
intervals_same d [] = refl
intervals_same d (s ∷ strips) = rw (length-map s.halved.pieces (widened d), intervals_same d strips)

ending_from_lem : (d : ℕ) (ending : Ending) (strips : List Worked)
    → ending_from ending (map (widened_strip d) strips) ≡ ending_from ending strips
ending_from_lem d ending [] = refl
ending_from_lem d ending (s ∷ strips) = ending_from_lem d s.halved.ending strips

pub ending_same : (d : ℕ) (strips : List Worked) → ending_of (map (widened_strip d) strips) ≡ ending_of strips
ending_same d strips = ending_from_lem d _ strips
