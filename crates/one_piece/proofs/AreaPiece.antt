-- The first piece of a trapezoid's strip meets the tolerance in the three components of an area: tip and sweep from 0 to 4 root chords.
-- Assumes nothing.
use Rattle.error_terms.proofs.Floors.{positive_from, NotBelow, Signed}
use mathlib.Core.Path.{◌≡◌, refl, sym}
use mathlib.Core.Bool.{Bool, true, false, cond}
use mathlib.Core.List.{List, [], ◌∷◌}
use Prim.Native.Nat.{ℕ, zero, suc, ◌*◌, ◌^◌, ◌<◌}
use native.Mathlib.Omega.{arith}
use lib.Dec.{T}
use lib.Ieee.{Float, round, of_bits}
use lib.Ieee.Bits.{is_true}
use lib.Ieee.Scale.{finite}
use lib.Ieee.Positive.{num, den, den_pos, positive}
use Rattle.floats.specs.Operations.{◌⊕◌, ◌⊖◌, ◌⊗◌, ◌⊘◌, bits}
use Rattle.floats.specs.Constants.{half}
use Rattle.floats.proofs.Bools.{no}
use Rattle.gauss_kronrod.specs.Tables.{nodes, kronrod_weights, gauss_weights}
use Rattle.quadrature.specs.Rule.{weighted_to, piece_of}
use Rattle.planforms.specs.declared.Planform.{Planform}
use Rattle.planforms.specs.declared.Planform.TheVariants.{Trapezoid}
use Rattle.chords.specs.Chords.{in_span, trapezoid_at, ends_at, paired}
use Rattle.integrands.specs.Integrands.{scale_of, sums_from, area_values, area_three}
use Rattle.integrands.specs.declared.Kind.TheVariants.{Area}
use Rattle.tolerance.specs.Bounds.{relative, converged}
use Rattle.rounding_error.proofs.Numbers.{Size, ◌of◌, Under, value_of, size_of, Ranges}
use Rattle.error_terms.proofs.Monomials.{AllRanges, place}
use Rattle.error_terms.proofs.Terms.{shape, Given, entry, var, const, nought, ◌take◌, value, AllKnown}
use Rattle.error_terms.proofs.Judged.{judge}
use Rattle.error_terms.proofs.Shared.{Shared, local, whole, ◌⊞◌, ◌⊟◌, ◌⊠◌, ◌⊡◌, tightly, bind, judge_all}
use Rattle.error_terms.proofs.Entries.{full, many_entry, own_entry}
use Rattle.error_terms.proofs.Orders.{above, above_zero}
use Rattle.one_piece.proofs.Rule.{accepts_in, accepted_in, within_bound, top_t, rule_parts, error_s, total_s, at_heights, Fits}
use Rattle.one_piece.proofs.Rule.{all_converged, inside_test, inside, fits_same}

-- ---- the samples of an area: f, lead, start and end at a height
abbrev pub chord_s : Shared → Shared → Shared
chord_s h body =
    bind h (bind (tightly (local 0 ⊠ whole (var 4) ⊡ 3)) (bind (whole (var 2) ⊠ local 0) (bind (tightly (local 0 ⊡ 4))
    (bind (tightly (tightly (local 1 ⊞ whole (var 0) ⊞ whole (var 1 take var 0) ⊠ local 2) ⊡ 4)) body))))

abbrev pub width_s : Shared → Shared
width_s h = chord_s h (tightly (whole (nought (1 ∷ []) (0 ∷ 0 ∷ 1 ∷ [])) ⊞ tightly (local 0 ⊟ local 1)))

abbrev pub along_s : Shared → Shared
along_s h = chord_s h (tightly (whole (nought (2 ∷ []) (0 ∷ 0 ∷ 2 ∷ [])) ⊞ whole (const half) ⊠ tightly
    (local 0 ⊠ local 0 ⊟ local 1 ⊠ local 1)))

abbrev pub height_s : Shared → Shared
height_s h = chord_s h (tightly (whole (nought (1 ∷ 1 ∷ []) (0 ∷ 0 ∷ 2 ∷ [])) ⊞ local 4 ⊠ tightly (local 0 ⊟ local 1)))

-- tip and sweep are from 0 to 4 root chords
pub record Fin (root tip span sweep scale : Float) : Type 0 where
  pub root_positive : T (positive root)
  pub span_positive : T (positive span)
  pub scale_positive : T (positive scale)
  pub tip_finite : T (finite tip)
  pub sweep_finite : T (finite sweep)
  pub tip_from_zero : NotBelow (value_of tip)
  pub sweep_from_zero : NotBelow (value_of sweep)
  pub tip_under : Under (4 of size_of root) (value_of tip)
  pub sweep_under : Under (4 of size_of root) (value_of sweep)
  pub ranges : Ranges 32 (size_of root)
  pub span_ranges : Ranges 32 (size_of span)
  pub scale_ranges : Ranges 32 (size_of scale)

module _ (root tip span sweep scale : Float) (g : Fin root tip span sweep scale) where
  abbrev bases : List Size
  bases = size_of root ∷ size_of span ∷ size_of scale ∷ []

  abbrev entries : List Given
  entries =
      entry root (value_of root) (shape 0 full (place 0) []) full ∷
      entry tip (value_of tip) (shape 0 (4 * 2 ^ 30) (place 0) []) 0 ∷
      entry sweep (value_of sweep) (shape 0 (4 * 2 ^ 30) (place 0) []) 0 ∷
      entry span (value_of span) (shape 0 full (place 1) []) full ∷
      entry scale (value_of scale) (shape 0 full (place 2) []) full ∷
      []

  all_ranges : AllRanges 32 bases
  all_ranges = (g.ranges, (g.span_ranges, (g.scale_ranges, tt)))

  all : AllKnown bases entries
  all = (
    own_entry bases 0 root refl g.root_positive,
    (
      (many_entry bases 0 (num root) (den root) refl tip 4 (den_pos root) g.tip_finite g.tip_under, tt),
      (
        (many_entry bases 0 (num root) (den root) refl sweep 4 (den_pos root) g.sweep_finite g.sweep_under, tt),
        (own_entry bases 1 span refl g.span_positive, (own_entry bases 2 scale refl g.scale_positive, tt)),
      ),
    ),
  )

  signed : Signed entries
  signed = (
    positive_from root g.root_positive,
    (g.tip_from_zero, (g.sweep_from_zero, (positive_from span g.span_positive, (positive_from scale g.scale_positive, tt)))),
  )

  area_test : T (accepts_in entries (error_s (1 ∷ []) (0 ∷ 0 ∷ 1 ∷ [])) (total_s (1 ∷ []) (0 ∷ 0 ∷ 1 ∷ []) (1 ∷ 1 ∷ []) (0 ∷ 0 ∷ 2 ∷ []))
      (judge_all entries [] (rule_parts width_s)))
  unfolding round of_bits nodes kronrod_weights gauss_weights relative
  area_test = tt

  along_test : T (accepts_in entries (error_s (2 ∷ []) (0 ∷ 0 ∷ 2 ∷ [])) (total_s (2 ∷ []) (0 ∷ 0 ∷ 2 ∷ []) (2 ∷ 1 ∷ []) (0 ∷ 0 ∷ 3 ∷ []))
      (judge_all entries [] (rule_parts along_s)))
  unfolding round of_bits nodes kronrod_weights gauss_weights relative
  along_test = tt

  height_test_lem : T (accepts_in entries (error_s (1 ∷ 1 ∷ []) (0 ∷ 0 ∷ 2 ∷ []))
      (total_s (1 ∷ 1 ∷ []) (0 ∷ 0 ∷ 2 ∷ []) (1 ∷ 2 ∷ []) (0 ∷ 0 ∷ 3 ∷ [])) (judge_all entries [] (rule_parts height_s)))
  unfolding round of_bits nodes kronrod_weights gauss_weights relative
  height_test_lem = tt

  high_test : T (above entries (judge entries top_t))
  high_test = tt

  -- the upper end of the strip is above 0
  pub high_positive : T (positive (span ⊘ scale))
  high_positive = above_zero bases all_ranges entries all signed top_t high_test

  inside_test_lem : T (at_heights (inside_test entries) 7)
  unfolding round of_bits nodes
  inside_test_lem = tt

  -- ---- the values of the terms are the program's sums
  abbrev start_at : Float → Float
  start_at h = sweep ⊗ (h ⊗ scale ⊘ span) ⊘ scale

  abbrev end_at : Float → Float
  end_at h = (sweep ⊗ (h ⊗ scale ⊘ span) ⊕ root ⊕ (tip ⊖ root) ⊗ (h ⊗ scale ⊘ span)) ⊘ scale

  abbrev pub three_at : Float → List Float
  three_at h = (bits 0 ⊕ (end_at h ⊖ start_at h)) ∷ (bits 0 ⊕ half ⊗ (end_at h ⊗ end_at h ⊖ start_at h ⊗ start_at h)) ∷
      (bits 0 ⊕ h ⊗ (end_at h ⊖ start_at h)) ∷ []

  area_fits : Fits (bits 0 ⊘ scale) (span ⊘ scale) three_at 0
  unfolding weighted_to
  area_fits =
      within_bound _ _ (accepted_in bases all_ranges entries all signed (rule_parts width_s) (error_s (1 ∷ []) (0 ∷ 0 ∷ 1 ∷ []))
      (total_s (1 ∷ []) (0 ∷ 0 ∷ 1 ∷ []) (1 ∷ 1 ∷ []) (0 ∷ 0 ∷ 2 ∷ [])) area_test)

  along_fits : Fits (bits 0 ⊘ scale) (span ⊘ scale) three_at 1
  unfolding weighted_to
  along_fits =
      within_bound _ _ (accepted_in bases all_ranges entries all signed (rule_parts along_s) (error_s (2 ∷ []) (0 ∷ 0 ∷ 2 ∷ []))
      (total_s (2 ∷ []) (0 ∷ 0 ∷ 2 ∷ []) (2 ∷ 1 ∷ []) (0 ∷ 0 ∷ 3 ∷ [])) along_test)

  height_fits : Fits (bits 0 ⊘ scale) (span ⊘ scale) three_at 2
  unfolding weighted_to
  height_fits =
      within_bound _ _ (accepted_in bases all_ranges entries all signed (rule_parts height_s) (error_s (1 ∷ 1 ∷ []) (0 ∷ 0 ∷ 2 ∷ []))
      (total_s (1 ∷ 1 ∷ []) (0 ∷ 0 ∷ 2 ∷ []) (1 ∷ 2 ∷ []) (0 ∷ 0 ∷ 3 ∷ [])) height_test_lem)

-- ---- the program's own integrand and strip
chord_there : (b : Bool) (root tip sweep f scale h : Float) → b ≡ true
    → area_values (sums_from Area scale h (bits 0 ∷ bits 0 ∷ bits 0 ∷ bits 0 ∷ []) (paired (cond b (trapezoid_at root tip sweep f) [])))
    ≡ (bits 0 ⊕ ((sweep ⊗ f ⊕ root ⊕ (tip ⊖ root) ⊗ f) ⊘ scale ⊖ sweep ⊗ f ⊘ scale))
    ∷ (bits 0 ⊕ half ⊗ ((sweep ⊗ f ⊕ root ⊕ (tip ⊖ root) ⊗ f) ⊘ scale ⊗
    ((sweep ⊗ f ⊕ root ⊕ (tip ⊖ root) ⊗ f) ⊘ scale) ⊖ sweep ⊗ f ⊘ scale ⊗ (sweep ⊗ f ⊘ scale)))
    ∷ (bits 0 ⊕ h ⊗ ((sweep ⊗ f ⊕ root ⊕ (tip ⊖ root) ⊗ f) ⊘ scale ⊖ sweep ⊗ f ⊘ scale)) ∷ []
unfolding paired sums_from
chord_there true root tip sweep f scale h e = refl
chord_there false root tip sweep f scale h e = no (sym e)

module _ (root tip span sweep : Float) (points : List Float) where
  abbrev pub planform : Planform
  planform = Trapezoid root tip span sweep

  abbrev pub scale_in : Float
  scale_in = scale_of planform points

  values_there : (h : Float) → T (in_span span (h ⊗ scale_in)) → area_three planform points h
      ≡ (bits 0 ⊕ ((sweep ⊗ (h ⊗ scale_in ⊘ span) ⊕ root ⊕ (tip ⊖ root) ⊗ (h ⊗ scale_in ⊘ span)) ⊘ scale_in ⊖ sweep ⊗
      (h ⊗ scale_in ⊘ span) ⊘ scale_in))
      ∷ (bits 0 ⊕ half ⊗ ((sweep ⊗ (h ⊗ scale_in ⊘ span) ⊕ root ⊕ (tip ⊖ root) ⊗ (h ⊗ scale_in ⊘ span)) ⊘ scale_in ⊗
      ((sweep ⊗ (h ⊗ scale_in ⊘ span) ⊕ root ⊕ (tip ⊖ root) ⊗ (h ⊗ scale_in ⊘ span)) ⊘ scale_in)
      ⊖ sweep ⊗ (h ⊗ scale_in ⊘ span) ⊘ scale_in ⊗
      (sweep ⊗ (h ⊗ scale_in ⊘ span) ⊘ scale_in)))
      ∷ (bits 0 ⊕ h ⊗ ((sweep ⊗ (h ⊗ scale_in ⊘ span) ⊕ root ⊕ (tip ⊖ root) ⊗ (h ⊗ scale_in ⊘ span)) ⊘ scale_in ⊖ sweep ⊗
      (h ⊗ scale_in ⊘ span) ⊘ scale_in)) ∷ []
  unfolding area_three ends_at
  values_there h t = chord_there (in_span span (h ⊗ scale_in)) root tip sweep (h ⊗ scale_in ⊘ span) scale_in h (is_true _ t)

  module _ (g : Fin root tip span sweep scale_in) where
    abbrev G : List Given
    G = entries root tip span sweep scale_in g

    component : (k : ℕ) → Fits (bits 0 ⊘ scale_in) (span ⊘ scale_in) (three_at root tip span sweep scale_in g) k
        → Fits (bits 0 ⊘ scale_in) (span ⊘ scale_in) (area_three planform points) k
    component k h =
        let B = bases root tip span sweep scale_in g in
        let r = all_ranges root tip span sweep scale_in g in
        let a = all root tip span sweep scale_in g in
        let s = signed root tip span sweep scale_in g in
        fits_same B r G a s (area_three planform points) (three_at root tip span sweep scale_in g) (inside_test G)
        (λ h t. values_there (value G h) (inside B r G a s h t)) (inside_test_lem root tip span sweep scale_in g) k h

    -- the first piece meets the tolerance in its three components
    pub area_converged : converged 3 (piece_of 3 (area_three planform points) (bits 0 ⊘ scale_in) (span ⊘ scale_in) ∷ []) ≡ true
    area_converged = all_converged 3 (area_three planform points) (bits 0 ⊘ scale_in) (span ⊘ scale_in) each
      where
        each : (k : ℕ) → k < 3 → Fits (bits 0 ⊘ scale_in) (span ⊘ scale_in) (area_three planform points) k
        each zero l = component 0 (area_fits root tip span sweep scale_in g)
        each (suc zero) l = component 1 (along_fits root tip span sweep scale_in g)
        each (suc (suc zero)) l = component 2 (height_fits root tip span sweep scale_in g)
        each (suc (suc (suc k))) l = absurd (beyond k l)
          where
            beyond : (k : ℕ) → suc (suc (suc k)) < 3 → ⊥
            beyond k l = omega arith
