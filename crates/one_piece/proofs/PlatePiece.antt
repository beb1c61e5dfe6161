-- The seven components of a plate of square or airfoil section on a trapezoid, as terms: each meets the tolerance where a test on sizes
-- holds. Assumes nothing.
use mathlib.Core.Path.{◌≡◌, refl, sym, ap, ◌∙◌}
use mathlib.Core.Bool.{Bool, true, false, ◌&&◌, cond}
use mathlib.Core.List.{List, [], ◌∷◌}
use Prim.Native.Nat.{ℕ, zero, suc, ◌*◌, ◌^◌, ◌<◌}
use native.Mathlib.Nat.{mul-pos}
use native.Mathlib.Omega.{arith}
use lib.Dec.{T, lt→ltb, ltb→lt}
use lib.Ieee.{Float, nan, inf, fin, up, down, lt, le, of_bits}
use lib.Ieee.Bits.{is_true}
use lib.Ieee.Positive.{positive}
use lib.Ieee.Fits.{and_l, and_r, up_pos}
use Rattle.floats.specs.Operations.{◌⊕◌, ◌⊖◌, ◌⊗◌, ◌⊘◌, bits, at, tabulate}
use Rattle.floats.specs.Constants.{half, two, three, twelve}
use Rattle.floats.specs.Floats.{abs_of}
use Rattle.floats.proofs.Bools.{no}
use Rattle.floats.proofs.Order.{le_not_below}
use Rattle.quadrature.specs.Rule.{weighted_to, sum_of}
use Rattle.planforms.specs.declared.Planform.{Planform}
use Rattle.planforms.specs.declared.Planform.TheVariants.{Trapezoid}
use Rattle.chords.specs.Chords.{in_span, trapezoid_at, ends_at, paired}
use Rattle.sections.specs.Airfoil.{Coefficients, closed_tail, open_tail, airfoil_constants}
use Rattle.sections.specs.ChordMoments.{section_moments, chord_moments}
use Rattle.sections.specs.declared.Section.{Section}
use Rattle.sections.specs.declared.Section.TheVariants.{Square, Rounded, Airfoil, AirfoilOpen}
use Rattle.integrands.specs.Integrands.{scale_of, plus, sums_from, plate_values, sample_of, plate_of}
use Rattle.integrands.specs.declared.Kind.TheVariants.{Plate as plate_kind}
use Rattle.tolerance.specs.Bounds.{bound_for}
use Rattle.rounding_error.proofs.Numbers.{Size, value_of}
use Rattle.error_terms.proofs.Monomials.{AllRanges, place, added}
use Rattle.error_terms.proofs.Terms.{Shape, shape, Given, entry, Term, var, const, nought, tight, ◌add◌, ◌take◌, ◌mul◌, ◌over◌, value}
use Rattle.error_terms.proofs.Terms.{AllKnown}
use Rattle.error_terms.proofs.Judged.{judge}
use Rattle.error_terms.proofs.Shared.{Shared, local, whole, ◌⊞◌, ◌⊟◌, ◌⊠◌, divided_by, tightly, raised_by, bind, expand, judge_all, bind_all}
use Rattle.error_terms.proofs.Entries.{full}
use Rattle.error_terms.proofs.Floors.{Signed}
use Rattle.error_terms.proofs.Orders.{above, above_zero}
use Rattle.one_piece.proofs.Rule.{accepts_in, accepted_in, within_bound, rule_parts, error_s, total_s, at_heights, Fits, inside_test}
use Rattle.one_piece.proofs.Rule.{inside, same_sums}
use Rattle.one_piece.proofs.AreaPiece.{chord_s}
use Rattle.one_piece.specs.OnePiece.{NotRounded}

-- ---- the samples, behind start and end: the variables root, tip, sweep, span, scale, thickness, radius; u is the unit of the
-- distance from the axis
abbrev thick_t : Term
thick_t = var 5 over 4

abbrev cube_s : Shared → Shared
cube_s x = x ⊠ (x ⊠ x)

abbrev width_s : Shared
width_s = tightly (local 0 ⊟ local 1)

abbrev m0_s : Shared
m0_s = tightly (whole (nought (1 ∷ 0 ∷ 0 ∷ 1 ∷ []) (0 ∷ 0 ∷ 2 ∷ [])) ⊞ whole thick_t ⊠ width_s)

abbrev m1_s : Shared
m1_s = tightly (whole (nought (2 ∷ 0 ∷ 0 ∷ 1 ∷ []) (0 ∷ 0 ∷ 3 ∷ [])) ⊞ whole (const half mul thick_t) ⊠ tightly
    (local 0 ⊠ local 0 ⊟ local 1 ⊠ local 1))

abbrev m2_s : Shared
m2_s = tightly (whole (nought (3 ∷ 0 ∷ 0 ∷ 1 ∷ []) (0 ∷ 0 ∷ 4 ∷ [])) ⊞ divided_by three
    (whole thick_t ⊠ tightly (cube_s (local 0) ⊟ cube_s (local 1))))

abbrev m3_s : Shared
m3_s =
    tightly (whole (nought (1 ∷ 0 ∷ 0 ∷ 3 ∷ []) (0 ∷ 0 ∷ 4 ∷ [])) ⊞ divided_by twelve (whole (thick_t mul (thick_t mul thick_t)) ⊠ width_s))

-- airfoils: the width c stands before them, local 0; k holds the section's constants
abbrev constant_t : Coefficients → ℕ → Shared
constant_t p i = whole (const (at (airfoil_constants p) i))

abbrev f0_s : Coefficients → Shared
f0_s p = tightly (whole (nought (1 ∷ 0 ∷ 0 ∷ 1 ∷ []) (0 ∷ 0 ∷ 2 ∷ [])) ⊞ whole thick_t ⊠ local 0 ⊠ constant_t p 0)

abbrev f1_s : Coefficients → Shared
f1_s p = tightly (whole (nought (2 ∷ 0 ∷ 0 ∷ 1 ∷ []) (0 ∷ 0 ∷ 3 ∷ [])) ⊞ whole thick_t ⊠ tightly
    (local 2 ⊠ local 0 ⊠ constant_t p 0 ⊞ local 0 ⊠ local 0 ⊠ constant_t p 1))

abbrev f2_s : Coefficients → Shared
f2_s p =
    tightly (whole (nought (3 ∷ 0 ∷ 0 ∷ 1 ∷ []) (0 ∷ 0 ∷ 4 ∷ [])) ⊞ whole thick_t ⊠
    tightly (local 2 ⊠ local 2 ⊠ local 0 ⊠ constant_t p 0 ⊞ whole (const two) ⊠ local 2 ⊠ local 0 ⊠ local 0 ⊠ constant_t p 1 ⊞ cube_s
    (local 0) ⊠ constant_t p 2))

abbrev f3_s : Coefficients → Shared
f3_s p = tightly (whole (nought (1 ∷ 0 ∷ 0 ∷ 3 ∷ []) (0 ∷ 0 ∷ 4 ∷ [])) ⊞ divided_by twelve
    (whole (thick_t mul (thick_t mul thick_t)) ⊠ local 0 ⊠ constant_t p 3))

-- the distance from the axis, where the height is local i
abbrev radius_s : ℕ → Shared
radius_s i = tightly (whole (var 6 over 4) ⊞ raised_by 7 (local i))

-- component k of moments m, and the unit of its samples, above the line and below it
abbrev component_s : Shared → Shared → Shared → Shared → Shared → ℕ → Shared
component_s r m0 m1 m2 m3 zero = m0
component_s r m0 m1 m2 m3 (suc zero) = tightly (r ⊠ m0)
component_s r m0 m1 m2 m3 (suc (suc zero)) = tightly (r ⊠ r ⊠ m0)
component_s r m0 m1 m2 m3 (suc (suc (suc zero))) = m1
component_s r m0 m1 m2 m3 (suc (suc (suc (suc zero)))) = m2
component_s r m0 m1 m2 m3 (suc (suc (suc (suc (suc zero))))) = tightly (r ⊠ m1)
component_s r m0 m1 m2 m3 (suc (suc (suc (suc (suc (suc k)))))) = m3

-- by the section; of a rounded one nothing is said
abbrev pub value_s : Section → ℕ → Shared
value_s Square k = component_s (radius_s 4) m0_s m1_s m2_s m3_s k
value_s Rounded k = local 0
value_s Airfoil k = bind width_s (component_s (radius_s 5) (f0_s closed_tail) (f1_s closed_tail) (f2_s closed_tail) (f3_s closed_tail) k)
value_s AirfoilOpen k = bind width_s (component_s (radius_s 5) (f0_s open_tail) (f1_s open_tail) (f2_s open_tail) (f3_s open_tail) k)

abbrev pub top_of : List ℕ → ℕ → List ℕ
top_of u zero = 1 ∷ 0 ∷ 0 ∷ 1 ∷ []
top_of u (suc zero) = added (1 ∷ 0 ∷ 0 ∷ 1 ∷ []) u
top_of u (suc (suc zero)) = added (added (1 ∷ 0 ∷ 0 ∷ 1 ∷ []) u) u
top_of u (suc (suc (suc zero))) = 2 ∷ 0 ∷ 0 ∷ 1 ∷ []
top_of u (suc (suc (suc (suc zero)))) = 3 ∷ 0 ∷ 0 ∷ 1 ∷ []
top_of u (suc (suc (suc (suc (suc zero))))) = added (2 ∷ 0 ∷ 0 ∷ 1 ∷ []) u
top_of u (suc (suc (suc (suc (suc (suc k)))))) = 1 ∷ 0 ∷ 0 ∷ 3 ∷ []

abbrev pub bottom_of : ℕ → List ℕ
bottom_of zero = 0 ∷ 0 ∷ 2 ∷ []
bottom_of (suc zero) = 0 ∷ 0 ∷ 3 ∷ []
bottom_of (suc (suc zero)) = 0 ∷ 0 ∷ 4 ∷ []
bottom_of (suc (suc (suc zero))) = 0 ∷ 0 ∷ 3 ∷ []
bottom_of (suc (suc (suc (suc k)))) = 0 ∷ 0 ∷ 4 ∷ []

abbrev pub parts_of : Section → ℕ → List Shared
parts_of c k = rule_parts (λ h. chord_s h (value_s c k))

abbrev error_of : List ℕ → ℕ → Shared
error_of u k = error_s (top_of u k) (bottom_of k)

abbrev total_of : List ℕ → ℕ → Shared
total_of u k = total_s (top_of u k) (bottom_of k) (added (top_of u k) (0 ∷ 1 ∷ [])) (added (bottom_of k) (0 ∷ 0 ∷ 1 ∷ []))

abbrev pub component_test : Section → List Given → List ℕ → ℕ → Bool
component_test c G u k = accepts_in G (error_of u k) (total_of u k) (judge_all G [] (parts_of c k))

-- a height is in the span, and the chord there is wider than 0
abbrev fraction_t : Term → Term
fraction_t h = tight (h mul var 4 over 3)

abbrev pub start_t : Term → Term
start_t h = var 2 mul fraction_t h over 4

abbrev pub end_t : Term → Term
end_t h = tight (var 2 mul fraction_t h add var 0 add (var 1 take var 0) mul fraction_t h) over 4

abbrev pub room_test : List Given → Term → Bool
room_test G h = inside_test G h && above G (judge G (tight (end_t h take start_t h)))

abbrev pub entries_of : (root tip span sweep scale thickness radius : Float) → ℕ → ℕ → ℕ → Shape → ℕ → List Given → List Given
entries_of root tip span sweep scale thickness radius kt ks ls rs rl rest =
    entry root (value_of root) (shape 0 full (place 0) []) full ∷
    entry tip (value_of tip) (shape 0 (kt * 2 ^ 30) (place 0) []) 0 ∷
    entry sweep (value_of sweep) (shape 0 (ks * 2 ^ 30) (place 0) []) ls ∷
    entry span (value_of span) (shape 0 full (place 1) []) full ∷
    entry scale (value_of scale) (shape 0 full (place 2) []) full ∷
    entry thickness (value_of thickness) (shape 0 full (place 3) []) full ∷
    entry radius (value_of radius) rs rl ∷
    rest

-- what holds of each of the seven components, and of each section that is not rounded
pub each_of_seven : (P : ℕ → Type 0) → P 0 → P 1 → P 2 → P 3 → P 4 → P 5 → P 6 → (i : ℕ) → i < 7 → P i
each_of_seven P a b c d e f g zero l = a
each_of_seven P a b c d e f g (suc zero) l = b
each_of_seven P a b c d e f g (suc (suc zero)) l = c
each_of_seven P a b c d e f g (suc (suc (suc zero))) l = d
each_of_seven P a b c d e f g (suc (suc (suc (suc zero)))) l = e
each_of_seven P a b c d e f g (suc (suc (suc (suc (suc zero))))) l = f
each_of_seven P a b c d e f g (suc (suc (suc (suc (suc (suc zero)))))) l = g
each_of_seven P a b c d e f g (suc (suc (suc (suc (suc (suc (suc i))))))) l = absurd (beyond i l)
  where
    beyond : (i : ℕ) → suc (suc (suc (suc (suc (suc (suc i)))))) < 7 → ⊥
    beyond i l = omega arith

pub plain_sections : (P : Section → Type 0) → P Square → P Airfoil → P AirfoilOpen → (c : Section) → NotRounded c → P c
plain_sections P a b d Rounded e = absurd e
plain_sections P a b d Square e = a
plain_sections P a b d Airfoil e = b
plain_sections P a b d AirfoilOpen e = d

module _ (root tip span sweep scale thickness radius : Float) (kt ks ls : ℕ) (rs : Shape) (rl : ℕ) (rest : List Given) where
  abbrev G : List Given
  G = entries_of root tip span sweep scale thickness radius kt ks ls rs rl rest

  abbrev start_at : Float → Float
  start_at h = sweep ⊗ (h ⊗ scale ⊘ span) ⊘ scale

  abbrev end_at : Float → Float
  end_at h = (sweep ⊗ (h ⊗ scale ⊘ span) ⊕ root ⊕ (tip ⊖ root) ⊗ (h ⊗ scale ⊘ span)) ⊘ scale

  abbrev pub seven_at : Section → Float → List Float
  seven_at c h = plate_values (radius ⊘ scale ⊕ h)
      (plus (tabulate 4 (λ i. bits 0)) (section_moments c (start_at h) (end_at h) (end_at h ⊖ start_at h) (thickness ⊘ scale)))

  module _ (B : List Size) (r : AllRanges 32 B) (all : AllKnown B G) (signed : Signed G) (u : List ℕ) where
    by_test : (c : Section) (k : ℕ) → T (component_test c G u k)
        → T (le (bits 0 ⊕ abs_of (value G (expand [] (bind_all (parts_of c k) (error_of u k)))))
        (bound_for (value G (expand [] (bind_all (parts_of c k) (total_of u k))))))
    by_test c k t = within_bound _ _ (accepted_in B r G all signed (parts_of c k) (error_of u k) (total_of u k) t)

    -- all seven, of a section that is not rounded
    abbrev Passed : Section → ℕ → Type 0
    Passed c k = T (component_test c G u k) → Fits (bits 0 ⊘ scale) (span ⊘ scale) (seven_at c) k

    pub fits : (c : Section) → NotRounded c → (k : ℕ) → k < 7 → Passed c k
    unfolding weighted_to
    fits = plain_sections (λ c. (k : ℕ) → k < 7 → Passed c k)
        (each_of_seven (λ k. Passed Square k) (by_test Square 0) (by_test Square 1) (by_test Square 2) (by_test Square 3)
        (by_test Square 4) (by_test Square 5) (by_test Square 6))
        (each_of_seven (λ k. Passed Airfoil k) (by_test Airfoil 0) (by_test Airfoil 1) (by_test Airfoil 2) (by_test Airfoil 3)
        (by_test Airfoil 4) (by_test Airfoil 5) (by_test Airfoil 6))
        (each_of_seven (λ k. Passed AirfoilOpen k) (by_test AirfoilOpen 0) (by_test AirfoilOpen 1) (by_test AirfoilOpen 2)
        (by_test AirfoilOpen 3) (by_test AirfoilOpen 4) (by_test AirfoilOpen 5) (by_test AirfoilOpen 6))

-- ---- the program's own integrand
moments_there : (c : Section) (x : Bool) (root tip sweep f scale h t q : Float) → x ≡ true
    → le ((sweep ⊗ f ⊕ root ⊕ (tip ⊖ root) ⊗ f) ⊘ scale ⊖ sweep ⊗ f ⊘ scale) (bits 0) ≡ false
    → sums_from (plate_kind c t q) scale h (tabulate 4 (λ i. bits 0)) (paired (cond x (trapezoid_at root tip sweep f) []))
    ≡ plus (tabulate 4 (λ i. bits 0)) (section_moments c (sweep ⊗ f ⊘ scale) ((sweep ⊗ f ⊕ root ⊕ (tip ⊖ root) ⊗ f) ⊘ scale)
    ((sweep ⊗ f ⊕ root ⊕ (tip ⊖ root) ⊗ f) ⊘ scale ⊖ sweep ⊗ f ⊘ scale) t)
unfolding paired sums_from chord_moments
moments_there c true root tip sweep f scale h t q e w = rw w
moments_there c false root tip sweep f scale h t q e w = no (sym e)

pub positive_above : (x : Float) → T (positive x) → lt (bits 0) x ≡ true
unfolding lt of_bits
positive_above nan p = absurd p
positive_above (inf s) p = absurd p
positive_above (fin true m e) p = absurd p
positive_above (fin false m e) p = is_true _ (lt→ltb _ _ (go (m * up e) (down e) (mul-pos (ltb→lt 0 m p) (up_pos e))))
  where
    go : (N D : ℕ) → 0 < N → 0 * D < N * 1
    go N D h = omega arith

pub not_at_most : (x : Float) → T (positive x) → le x (bits 0) ≡ false
not_at_most x p = go (le x (bits 0)) refl
  where
    go : (b : Bool) → le x (bits 0) ≡ b → b ≡ false
    go false e = refl
    go true e = no (sym (positive_above x p) ∙ le_not_below x (bits 0) e)

module _ (c : Section) (root tip span sweep thickness radius : Float) (points : List Float) where
  abbrev pub planform : Planform
  planform = Trapezoid root tip span sweep

  abbrev pub scale_in : Float
  scale_in = scale_of planform points

  abbrev pub plate : Float → List Float
  plate = plate_of planform points c thickness radius

  -- x may stand for the radius, which counts for nothing here
  module _ (x : Float) (kt ks ls : ℕ) (rs : Shape) (rl : ℕ) (rest : List Given) where
    abbrev H : List Given
    H = entries_of root tip span sweep scale_in thickness x kt ks ls rs rl rest

    abbrev pub seven : Float → List Float
    seven = seven_at root tip span sweep scale_in thickness radius kt ks ls rs rl rest c

    pub plate_there : (h : Float) → T (in_span span (h ⊗ scale_in))
        → le ((sweep ⊗ (h ⊗ scale_in ⊘ span) ⊕ root ⊕ (tip ⊖ root) ⊗ (h ⊗ scale_in ⊘ span)) ⊘ scale_in ⊖ sweep ⊗
        (h ⊗ scale_in ⊘ span) ⊘ scale_in) (bits 0) ≡ false → plate h ≡ seven h
    unfolding plate_of sample_of ends_at
    plate_there h t w =
        ap (plate_values (radius ⊘ scale_in ⊕ h))
        (moments_there c (in_span span (h ⊗ scale_in)) root tip sweep (h ⊗ scale_in ⊘ span) scale_in h
        (thickness ⊘ scale_in) (radius ⊘ scale_in) (is_true _ t) w)

    module _ (B : List Size) (r : AllRanges 32 B) (all : AllKnown B H) (signed : Signed H) (room : T (at_heights (room_test H) 7)) where
      same : (h : Term) → T (room_test H h) → plate (value H h) ≡ seven (value H h)
      same h t =
          let a = inside_test H h in
          let b = above H (judge H (tight (end_t h take start_t h))) in
          plate_there (value H h) (inside B r H all signed h (and_l a b t))
          (not_at_most _ (above_zero B r H all signed (tight (end_t h take start_t h)) (and_r a b t)))

      pub room_sums : (w : ℕ → Float) (k : ℕ)
          → sum_of w plate (bits 0 ⊘ scale_in) (span ⊘ scale_in) k ≡ sum_of w seven (bits 0 ⊘ scale_in) (span ⊘ scale_in) k
      room_sums w k = same_sums B r H all signed plate seven (room_test H) same room w k
