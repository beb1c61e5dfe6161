-- Every sample of a planform within its limits is bounded: its seven values are at most 2^700 at a height of at most 2^28. Assumes nothing.
use mathlib.Core.Path.{◌≡◌, subst}
use mathlib.Core.List.{List, [], ◌∷◌}
use Prim.Native.Nat.{ℕ, suc, ◌+◌, ◌≤◌, ◌<◌}
use native.Mathlib.Nat.{le_trans, le-suc}
use native.Mathlib.Omega.{arith}
use lib.Dec.{lit≤}
use lib.ListN.{length}
use lib.Ieee.{Float}
use Rattle.floats.specs.Operations.{◌⊕◌, ◌⊗◌, ◌⊘◌, bits, at, tabulate}
use Rattle.floats.specs.Constants.{half}
use Rattle.rounding.specs.Sizes.{Below}
use Rattle.rounding.proofs.Sizes.{zero_below, half_below, mul_below, div_below, add_below, weaker}
use Rattle.rounding.proofs.Terms.{given, ◌less◌, ◌times◌, ◌plus◌, within}
use Rattle.sorting.specs.Sorted.{Each}
use Rattle.limits.specs.Limits.{most_points}
use Rattle.planforms.proofs.Sized.{Sized}
use Rattle.chords.specs.Chords.{ends_at, chords_at}
use Rattle.chords.proofs.Sizes.{Pairs, ends_at_lem, paired_few}
use Rattle.sections.proofs.Sizes.{FourBelow, chord_moments_below}
use Rattle.integrands.specs.Integrands.{term_of, plus as plus_four, sums_from, sums_over, sample_values, sample_of}
use Rattle.integrands.specs.declared.Kind.{Kind}
use Rattle.integrands.specs.declared.Kind.TheVariants.{Area, Plate}
use Rattle.integrands.specs.declared.Integrand.{Integrand}
use Rattle.integrands.proofs.Scales.{Scale}

-- ---- what a chord adds
abbrev pub KindSized : Kind → Type 0
KindSized Area = Unit {0}
KindSized (Plate section thickness radius) = Below 26 thickness × Below 26 radius

term_below : (kind : Kind) (h a b : Float) → KindSized kind → Below 28 h → Below 136 a → Below 136 b → FourBelow 556 (term_of kind h a b)
term_below Area h a b s p ha hb =
    let up_to_lem = within (28 ∷ 136 ∷ 136 ∷ 0 ∷ []) [] (h ∷ a ∷ b ∷ half ∷ []) [] (p, (ha, (hb, (half_below, tt)))) tt in (
      up_to_lem (given 2 less given 1) 556 tt,
      (
        up_to_lem (given 3 times (given 2 times given 2 less given 1 times given 1)) 556 tt,
        (
          up_to_lem (given 0 times (given 2 less given 1)) 556 tt,
          weaker (bits 0) 0 556 (lit≤ tt) zero_below,
        ),
      ),
    )
term_below (Plate section thickness radius) h a b s p ha hb = chord_moments_below section a b thickness ha hb s.0

-- ---- the sums over the chords: each adds one to the exponent at most
plus_below : (x y : List Float) (p : ℕ) → 556 ≤ p → p < 1023 → FourBelow p x → FourBelow 556 y → FourBelow (suc p) (plus_four x y)
plus_below x y p l r h k = (
  one (at x 0) (at y 0) h.0 k.0,
  (
    one (at x 1) (at y 1) h.1.0 k.1.0,
    (
      one (at x 2) (at y 2) h.1.1.0 k.1.1.0,
      one (at x 3) (at y 3) h.1.1.1 k.1.1.1,
    ),
  ),
)
  where
    one : (u v : Float) → Below p u → Below 556 v → Below (suc p) (u ⊕ v)
    one u v a b = add_below u v p r a (weaker v 556 p l b)

sums_below : (kind : Kind) (scale h : Float) → KindSized kind → Scale scale → Below 28 h
    → (l : List (Float × Float)) (sums : List Float) (p : ℕ)
    → 556 ≤ p → p + length l ≤ 1000 → Pairs 116 l → FourBelow p sums → FourBelow (p + length l) (sums_from kind scale h sums l)
unfolding sums_from
sums_below kind scale h k s b [] sums p lo hi c f = subst (λ (z : ℕ). FourBelow z sums) (same p) f
  where
    same : (p : ℕ) → p ≡ p + 0
    same p = omega arith
sums_below kind scale h k s b (chord ∷ rest) sums p lo hi c f =
    let start = div_below chord.0 scale 116 20 (lit≤ tt) c.0.0 s.above in
    let end = div_below chord.1 scale 116 20 (lit≤ tt) c.0.1 s.above in
    let term = term_below kind h (chord.0 ⊘ scale) (chord.1 ⊘ scale) k b start end in
    let next = plus_four sums (term_of kind h (chord.0 ⊘ scale) (chord.1 ⊘ scale)) in
    subst (λ (z : ℕ). FourBelow z (sums_from kind scale h next rest)) (moved p (length rest))
    (sums_below kind scale h k s b rest next (suc p) (le_trans lo (le-suc p)) (omega arith) c.1
    (plus_below sums (term_of kind h (chord.0 ⊘ scale) (chord.1 ⊘ scale)) p lo (omega arith) f term))
  where
    moved : (p n : ℕ) → suc p + n ≡ p + suc n
    moved p n = omega arith

four_weaker : (m : List Float) (p q : ℕ) → p ≤ q → FourBelow p m → FourBelow q m
four_weaker m p q l h = (
  weaker (at m 0) p q l h.0,
  (weaker (at m 1) p q l h.1.0, (weaker (at m 2) p q l h.1.1.0, weaker (at m 3) p q l h.1.1.1)),
)

-- ---- the seven values
values_below : (kind : Kind) (h : Float) (m : List Float) → KindSized kind → Below 28 h → FourBelow 620 m
    → Each (Below 700) (sample_values kind h m)
values_below Area h m s b f =
    let z = weaker (bits 0) 0 700 (lit≤ tt) zero_below in
    let g = four_weaker m 620 700 (lit≤ tt) f in
    (g.0, (g.1.0, (g.1.1.0, (z, (z, (z, (z, tt)))))))
values_below (Plate section thickness radius) h m s b f =
    let up_to_lem = within (620 ∷ 620 ∷ 620 ∷ 620 ∷ 26 ∷ 28 ∷ []) [] (at m 0 ∷ at m 1 ∷ at m 2 ∷ at m 3 ∷ radius ∷ h ∷ []) []
    (f.0, (f.1.0, (f.1.1.0, (f.1.1.1, (s.1, (b, tt)))))) tt in (
      up_to_lem (given 0) 700 tt,
      (
        up_to_lem ((given 4 plus given 5) times given 0) 700 tt,
        (
          up_to_lem ((given 4 plus given 5) times (given 4 plus given 5) times given 0) 700 tt,
          (
            up_to_lem (given 1) 700 tt,
            (
              up_to_lem (given 2) 700 tt,
              (
                up_to_lem ((given 4 plus given 5) times given 1) 700 tt,
                (
                  up_to_lem (given 3) 700 tt,
                  tt,
                ),
              ),
            ),
          ),
        ),
      ),
    )

zeros : FourBelow 556 (tabulate 4 (λ i. bits 0))
zeros = let z = weaker (bits 0) 0 556 (lit≤ tt) zero_below in (z, (z, (z, z)))

pub sample_below : (f : Integrand) (points : List Float) (h : Float) → Sized f.planform points → Scale f.scale → KindSized f.kind
    → Below 28 h
    → Each (Below 700) (sample_of f points h)
unfolding sample_of
sample_below f points h s c k b =
    let metres = mul_below h f.scale 28 7 (lit≤ tt) b c.below in
    let few = paired_few 116 most_points (ends_at f.planform points (h ⊗ f.scale)) (ends_at_lem f.planform points (h ⊗ f.scale) s metres)
    in
    let l = chords_at f.planform points (h ⊗ f.scale) in
    let n = few.few in
    let sums = sums_below f.kind f.scale h k c b l (tabulate 4 (λ i. bits 0)) 556 (lit≤ tt) (omega arith) few.bounded zeros in
    values_below f.kind h (sums_over f.kind f.scale h l) k b
    (four_weaker (sums_over f.kind f.scale h l) (556 + length l) 620 (omega arith) sums)
