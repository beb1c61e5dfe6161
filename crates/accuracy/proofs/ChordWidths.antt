-- A strip of a plate that the call worked in one piece, whatever the sign of the sweep: each sample's chord is wider than 0, as its f64
-- width is near a target in which no sweep stands. Assumes nothing.
use mathlib.Core.Path.{◌≡◌, refl, ap, subst}
use mathlib.Core.Bool.{Bool, true, false, ◌&&◌}
use mathlib.Core.List.{List, [], ◌∷◌}
use Prim.Native.Nat.{ℕ, ◌*◌, ◌^◌}
use lib.Dec.{T}
use lib.Ieee.{Float, nan, inf, fin, round, of_bits}
use lib.Ieee.Scale.{finite}
use lib.Ieee.Positive.{num, den, den_pos, positive}
use lib.Ieee.Fits.{and_l, and_r}
use Rattle.floats.specs.Operations.{◌⊗◌, ◌⊘◌, bits, at}
use Rattle.gauss_kronrod.specs.Tables.{nodes}
use Rattle.quadrature.specs.Rule.{half_sum, half_width, sum_of}
use Rattle.chords.specs.Chords.{in_span}
use Rattle.sections.specs.declared.Section.{Section}
use Rattle.rounding_error.proofs.Numbers.{Number, number, Size, ◌of◌, ◌roundoffs◌, ◌plus◌, ◌less◌, ◌times◌, Under, Near, Ranges, value_of}
use Rattle.rounding_error.proofs.Numbers.{size_of}
use Rattle.error_terms.proofs.Laws.{inverse_of}
use Rattle.rounding_error.proofs.Polynomials.{Expression, given, ratio, ◌add◌, ◌take◌, ◌mul◌, evaluate}
use Rattle.error_terms.proofs.Monomials.{AllRanges, place}
use Rattle.error_terms.proofs.Terms.{shape, Given, entry, Term, var, const, nought, divided, inverse_constant, tight, raised, value}
use Rattle.error_terms.proofs.Terms.{constant, numbers_of, unit_by, AllKnown, ◌add◌ as ◌add_t◌, ◌take◌ as ◌take_t◌, ◌mul◌ as ◌mul_t◌}
use Rattle.error_terms.proofs.Terms.{◌over◌ as ◌over_t◌}
use Rattle.error_terms.proofs.Judged.{judge, nearer, near_within}
use Rattle.error_terms.proofs.Stages.{low_test, target_lowest}
use Rattle.error_terms.proofs.Entries.{full, many_entry, own_entry}
use Rattle.error_terms.proofs.Floors.{NotBelow, Signed, positive_from}
use Rattle.one_piece.proofs.Rule.{at_heights, at_heights_lem, inside_test, inside, same_sum, centre_t, minus_t, plus_t}
use Rattle.one_piece.proofs.PlatePiece.{start_t, end_t, scale_in, plate, seven_at, plate_there, not_at_most}

-- what part of span over scale a height is exactly
abbrev share_e : Term → Expression
share_e (var i) = ratio 1 0
share_e (const c) = constant c
share_e (nought p q) = ratio 0 0
share_e (s add_t t) = share_e s add share_e t
share_e (s take_t t) = share_e s take share_e t
share_e (s mul_t t) = share_e s mul share_e t
share_e (s over_t i) = share_e s
share_e (divided c s) = share_e s mul inverse_constant c
share_e (tight s) = share_e s
share_e (raised k s) = share_e s

-- no variable stands in it
same_share : (x y : ℕ → Number) (h : Term) → evaluate x (share_e h) ≡ evaluate y (share_e h)
same_share x y (var i) = refl
same_share x y (const nan) = refl
same_share x y (const (inf s)) = refl
same_share x y (const (fin true m e)) = refl
same_share x y (const (fin false m e)) = refl
same_share x y (nought p q) = refl
same_share x y (s add_t t) = rw (same_share x y s, same_share x y t)
same_share x y (s take_t t) = rw (same_share x y s, same_share x y t)
same_share x y (s mul_t t) = rw (same_share x y s, same_share x y t)
same_share x y (s over_t i) = same_share x y s
same_share x y (divided c s) = rw (same_share x y s)
same_share x y (tight s) = same_share x y s
same_share x y (raised k s) = same_share x y s

-- (root·(1 − σ) + tip·σ)/scale
abbrev width_e : (r t s σ : Expression) → Expression
width_e r t s σ = (r mul (ratio 1 0 take σ) add t mul σ) mul s

abbrev width_t : Term → Term
width_t h = tight (end_t h take_t start_t h)

-- tip at most 2 root chords, sweep at most 8
pub record Widths (root tip span sweep scale : Float) : Type 0 where
  pub root_positive : T (positive root)
  pub span_positive : T (positive span)
  pub scale_positive : T (positive scale)
  pub tip_finite : T (finite tip)
  pub sweep_finite : T (finite sweep)
  pub tip_from_zero : NotBelow (value_of tip)
  pub tip_under : Under (2 of size_of root) (value_of tip)
  pub sweep_under : Under (8 of size_of root) (value_of sweep)
  pub root_ranges : Ranges 32 (size_of root)
  pub span_ranges : Ranges 32 (size_of span)
  pub scale_ranges : Ranges 32 (size_of scale)

module _ (c : Section) (root tip span sweep thickness radius : Float) (points : List Float)
    (g : Widths root tip span sweep (scale_in c root tip span sweep thickness radius points)) where
  abbrev S : Float
  S = scale_in c root tip span sweep thickness radius points

  abbrev bases : List Size
  bases = size_of root ∷ size_of span ∷ size_of S ∷ []

  ranges : AllRanges 32 bases
  ranges = (g.root_ranges, (g.span_ranges, (g.scale_ranges, tt)))

  abbrev root_e : Given
  root_e = entry root (value_of root) (shape 0 full (place 0) []) full

  abbrev tip_e : Given
  tip_e = entry tip (value_of tip) (shape 0 (2 * 2 ^ 30) (place 0) []) 0

  abbrev span_e : Given
  span_e = entry span (value_of span) (shape 0 full (place 1) []) full

  abbrev scale_e : Given
  scale_e = entry S (value_of S) (shape 0 full (place 2) []) full

  abbrev all : List Given
  all = root_e ∷ tip_e ∷ entry sweep (value_of sweep) (shape 0 (8 * 2 ^ 30) (place 0) []) 0 ∷ span_e ∷ scale_e ∷ []

  -- without the sweep; and the heights, which root, tip and sweep do not enter: the span stands in their places
  abbrev unswept : List Given
  unswept = root_e ∷ tip_e ∷ scale_e ∷ []

  abbrev heights : List Given
  heights = span_e ∷ span_e ∷ span_e ∷ span_e ∷ scale_e ∷ []

  all_known : AllKnown bases all
  all_known =
      let tip_k = many_entry bases 0 (num root) (den root) refl tip 2 (den_pos root) g.tip_finite g.tip_under in
      let sweep_k = many_entry bases 0 (num root) (den root) refl sweep 8 (den_pos root) g.sweep_finite g.sweep_under in (
        own_entry bases 0 root refl g.root_positive,
        (
          (tip_k, tt),
          ((sweep_k, tt), (own_entry bases 1 span refl g.span_positive, (own_entry bases 2 S refl g.scale_positive, tt))),
        ),
      )

  unswept_known : AllKnown bases unswept
  unswept_known = (all_known.0, (all_known.1.0, all_known.1.1.1.1))

  unswept_signed : Signed unswept
  unswept_signed = (positive_from root g.root_positive, (g.tip_from_zero, (positive_from S g.scale_positive, tt)))

  heights_known : AllKnown bases heights
  heights_known = let s = all_known.1.1.1.0 in (s, (s, (s, all_known.1.1.1)))

  heights_signed : Signed heights
  heights_signed =
      let s = positive_from span g.span_positive in
      (s, (s, (s, (s, (positive_from S g.scale_positive, tt)))))

  -- a height is in the span, and its chord's width at most 1,000 roundoffs from what is above 0
  abbrev K : ℕ
  K = 1000 * 2 ^ 30

  abbrev wide_test : Term → Bool
  wide_test h =
      nearer all (width_e (given 0) (given 2) (given 9) (share_e h)) K (1 ∷ []) (0 ∷ 0 ∷ 1 ∷ []) (judge all (width_t h))
      && low_test unswept (width_e (given 0) (given 2) (given 5) (share_e h)) K 0 (1 ∷ []) (0 ∷ 0 ∷ 1 ∷ [])

  wide_tests : T (at_heights wide_test 7)
  unfolding round of_bits nodes
  wide_tests = tt

  inside_tests : T (at_heights (inside_test heights) 7)
  unfolding round of_bits nodes
  inside_tests = tt

  wide : (h : Term) → T (wide_test h) → T (positive (value all (width_t h)))
  wide h t =
      let e = width_e (given 0) (given 2) (given 9) (share_e h) in
      let e₂ = width_e (given 0) (given 2) (given 5) (share_e h) in
      let a = nearer all e K (1 ∷ []) (0 ∷ 0 ∷ 1 ∷ []) (judge all (width_t h)) in
      let b = low_test unswept e₂ K 0 (1 ∷ []) (0 ∷ 0 ∷ 1 ∷ []) in
      (target_lowest bases ranges unswept unswept_known unswept_signed (value all (width_t h)) e₂ K 0 0 (1 ∷ []) (0 ∷ 0 ∷ 1 ∷ [])
      (subst (λ (σ : Number). Near (value all (width_t h)) ((value_of root times (number 1 0 1 less σ) plus value_of tip times σ) times
      inverse_of (value_of S))
      (K roundoffs unit_by bases (1 ∷ []) (0 ∷ 0 ∷ 1 ∷ []))) (same_share (numbers_of all) (numbers_of unswept) h)
      (near_within bases ranges all all_known (width_t h) e K (1 ∷ []) (0 ∷ 0 ∷ 1 ∷ []) (and_l a b t))) (and_r a b t)).0

  abbrev seven : Float → List Float
  seven = seven_at root tip span sweep S thickness radius 0 0 0 (shape 0 0 [] []) 0 [] c

  there : (h : Term) → T (inside_test heights h) → T (wide_test h) → value heights h ≡ value all h
      → plate c root tip span sweep thickness radius points (value all h) ≡ seven (value all h)
  there h t w e =
      plate_there c root tip span sweep thickness radius points radius 0 0 0 (shape 0 0 [] []) 0 [] (value all h)
      (subst (λ (x : Float). T (in_span span (x ⊗ S))) e (inside bases ranges heights heights_known heights_signed h t))
      (not_at_most _ (wide h w))

  -- the sums are those of the chords
  pub one_sums : (w : ℕ → Float) (k : ℕ) → sum_of w (plate c root tip span sweep thickness radius points) (bits 0 ⊘ S) (span ⊘ S) k
      ≡ sum_of w seven (bits 0 ⊘ S) (span ⊘ S) k
  one_sums w k =
      let i = at_heights_lem (inside_test heights) 7 inside_tests in
      let v = at_heights_lem wide_test 7 wide_tests in
      let P = plate c root tip span sweep thickness radius points in
      same_sum 7 w (λ h. at (P h) k) (λ h. at (seven h) k) (half_sum (bits 0 ⊘ S) (span ⊘ S)) (half_width (bits 0 ⊘ S) (span ⊘ S))
      (ap (λ (x : List Float). at x k) (there centre_t i.0 v.0 refl))
      (λ n l. ap (λ (x : List Float). at x k) (there (minus_t n) (i.1 n l).0 (v.1 n l).0 refl))
      (λ n l. ap (λ (x : List Float). at x k) (there (plus_t n) (i.1 n l).1 (v.1 n l).1 refl))
