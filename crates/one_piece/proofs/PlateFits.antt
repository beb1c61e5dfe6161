-- The first piece of a trapezoid's strip meets the tolerance in the seven components of a plate: square section with a tip up to 2 root
-- chords, airfoils with a tip up to 1, sweep from 0 to 4, any radius of the body, any thickness. Assumes nothing.
use mathlib.Core.Path.{◌≡◌, refl}
use mathlib.Core.Bool.{true, false}
use mathlib.Core.Logic.{◌⊎◌, inl, inr}
use mathlib.Core.List.{List, [], ◌∷◌}
use Prim.Native.Nat.{ℕ, zero, suc, ◌+◌, ◌*◌, ◌^◌, ◌≤◌, ◌<◌, zero-le}
use native.Mathlib.Nat.{mul-pos, mul-le-mul_right, le_of_mul-le-mul_right, one-mul, mul-one, zero-mul, mul-zero, zero-add, add-zero}
use native.Mathlib.Nat.{zero-lt-suc}
use native.Mathlib.Omega.{arith}
use lib.Dec.{T, lt→ltb}
use lib.ListN.{get_or}
use lib.Ieee.{Float, nan, inf, fin, up, down, of_bits}
use lib.Ieee.Scale.{finite}
use lib.Ieee.Fits.{down_pos}
use lib.Ieee.Positive.{num, den, den_pos, positive, positive-finite}
use Rattle.floats.specs.Operations.{◌⊘◌, bits}
use Rattle.quadrature.specs.Rule.{kronrod_weight, gauss_weight, sum_of, piece_of}
use Rattle.rounding.proofs.Monotone.{positive_num}
use Rattle.sections.specs.declared.Section.{Section}
use Rattle.tolerance.specs.Bounds.{converged}
use Rattle.rounding_error.proofs.Numbers.{Number, number, Size, ◌per◌, ◌of◌, Under, value_of, size_of, Ranges, Most}
use Rattle.rounding_error.proofs.Distances.{sorted}
use Rattle.rounding_error.proofs.Counts as Counts
use Rattle.error_terms.proofs.Monomials.{AllRanges, top, bottom, mono, place, unit}
use Rattle.error_terms.proofs.Laws.{Reaches}
use Rattle.error_terms.proofs.Terms.{Shape, shape, larger, Lowest, AllKnown}
use Rattle.error_terms.proofs.Entries.{full, sized_entry, many_entry, many_low, own_entry}
use Rattle.error_terms.proofs.Floors.{NotBelow, Signed, positive_from}
use Rattle.one_piece.proofs.Rule.{Fits, all_converged}
use Rattle.one_piece.proofs.PlatePiece.{entries_of, component_test, seven_at, fits, scale_in, plate, room_sums}
use Rattle.one_piece.proofs.PlateTests.{near, Free, Near, Far, Tests, tests}
use Rattle.one_piece.specs.OnePiece.{NotRounded, tips_of}

ruleset plain = (sorted, one-mul, mul-one, zero-mul, mul-zero, zero-add, add-zero)

total : (x y : ℕ) → (x ≤ y) ⊎ (y ≤ x)
total zero y = inl zero-le
total (suc x) zero = inr zero-le
total (suc x) (suc y) = go (total x y)
  where
    go : (x ≤ y) ⊎ (y ≤ x) → (suc x ≤ suc y) ⊎ (suc y ≤ suc x)
    go (inl h) = inl (omega arith)
    go (inr h) = inr (omega arith)

-- ---- a number that is not below 0 is at most k of a size, or at least
either : (k a c : ℕ) (v : Number) → NotBelow v → Under (k of (a per c)) v ⊎ Reaches k a c v
either k a c (number p n d) l = go (total (p * c) (n * c + k * a * d))
  where
    go : (p * c ≤ n * c + k * a * d) ⊎ (n * c + k * a * d ≤ p * c) → Under (k of (a per c)) (number p n d) ⊎ Reaches k a c (number p n d)
    go (inl h) = inl (record { below = one h; above = two (mul-le-mul_right c l) })
      where
        one : p * c ≤ n * c + k * a * d → (p * 1 + 0 * d) * c ≤ (0 * d + n * 1) * c + k * a * (d * 1)
        one u = let x = simp plain at u in simp plain (omega (arith, x))

        two : n * c ≤ p * c → (0 * d + n * 1) * c ≤ (p * 1 + 0 * d) * c + k * a * (1 * d)
        two u = let x = simp plain at u in simp plain (omega (arith, x))
    go (inr h) = inr (three' h)
      where
        three' : n * c + k * a * d ≤ p * c → k * a * d + n * c ≤ p * c
        three' u = omega arith

reach_positive : (x : Float) (j a c : ℕ) → T (finite x) → 0 < j → 0 < a → Reaches j a c (value_of x) → T (positive x)
reach_positive nan j a c f J A h = absurd f
reach_positive (inf s) j a c f J A h = absurd f
reach_positive (fin true m e) j a c f J A h = absurd (none (j * a * down e) (m * up e) (mul-pos (mul-pos J A) (down_pos e)) h)
  where
    none : (X Y : ℕ) → 0 < X → X + Y * c ≤ 0 * c → ⊥
    none X Y u v = omega arith
reach_positive (fin false zero e) j a c f J A h = absurd (none (j * a * down e) (up e) (mul-pos (mul-pos J A) (down_pos e)) h)
  where
    none : (X Y : ℕ) → 0 < X → X + 0 * c ≤ 0 * Y * c → ⊥
    none X Y u v = let x = simp plain at v in omega (arith, x)
reach_positive (fin false (suc m) e) j a c f J A h = lt→ltb 0 (suc m) (zero-lt-suc m)

pub record PlateFin (tips : ℕ) (root tip span sweep scale thickness radius : Float) : Type 0 where
  pub root_positive : T (positive root)
  pub span_positive : T (positive span)
  pub scale_positive : T (positive scale)
  pub thickness_positive : T (positive thickness)
  pub tip_finite : T (finite tip)
  pub sweep_finite : T (finite sweep)
  pub radius_finite : T (finite radius)
  pub tip_from_zero : NotBelow (value_of tip)
  pub sweep_from_zero : NotBelow (value_of sweep)
  pub radius_from_zero : NotBelow (value_of radius)
  pub tip_under : Under (tips of size_of root) (value_of tip)
  pub sweep_under : Under (4 of size_of root) (value_of sweep)
  pub ranges : Ranges 32 (size_of root)
  pub span_ranges : Ranges 32 (size_of span)
  pub scale_ranges : Ranges 32 (size_of scale)
  pub thickness_ranges : Ranges 32 (size_of thickness)
  pub radius_most : Most 32 (size_of radius)

module _ (c : Section) (plain_section : NotRounded c) (root tip span sweep thickness radius : Float) (points : List Float)
    (g : PlateFin (tips_of c) root tip span sweep (scale_in c root tip span sweep thickness radius points) thickness radius) where
  abbrev S : Float
  S = scale_in c root tip span sweep thickness radius points

  -- component k of the samples, with the distance x of the root from the axis
  abbrev Fit : Float → ℕ → Type 0
  Fit x k = Fits (bits 0 ⊘ S) (span ⊘ S) (seven_at root tip span sweep S thickness x 0 0 0 (shape 0 0 [] []) 0 [] c) k

  abbrev inner : List Size
  inner = size_of root ∷ size_of span ∷ size_of S ∷ size_of thickness ∷ []

  inner_ranges : AllRanges 32 inner
  inner_ranges = (g.ranges, (g.span_ranges, (g.scale_ranges, (g.thickness_ranges, tt))))

  signed : (x : Float) → NotBelow (value_of x) → (ks ls : ℕ) (rs : Shape) (rl : ℕ)
      → Signed (entries_of root tip span sweep S thickness x (tips_of c) ks ls rs rl [])
  signed x n ks ls rs rl = (
    positive_from root g.root_positive,
    (
      g.tip_from_zero,
      (
        g.sweep_from_zero,
        (
          positive_from span g.span_positive,
          (
            positive_from S g.scale_positive,
            (positive_from thickness g.thickness_positive, (n, tt)),
          ),
        ),
      ),
    ),
  )

  -- sweep between two numbers of root chords
  module _ (ks ls : ℕ) (most_sweep : Under (ks of size_of root) (value_of sweep))
      (low : (B : List Size) → get_or B 0 unit ≡ size_of root
      → Lowest B sweep (value_of sweep) (shape 0 (ks * 2 ^ 30) (place 0) []) ls) where
    -- a radius up to the span
    near_known : (x : Float) → T (finite x) → Under (1 of size_of span) (value_of x)
        → AllKnown inner (near root tip span sweep S thickness radius x (tips_of c) ks ls)
    unfolding of_bits
    near_known x f R = (
      own_entry inner 0 root refl g.root_positive,
      (
        (many_entry inner 0 (num root) (den root) refl tip (tips_of c) (den_pos root) g.tip_finite g.tip_under, tt),
        (
          (many_entry inner 0 (num root) (den root) refl sweep ks (den_pos root) g.sweep_finite most_sweep, low inner refl),
          (
            own_entry inner 1 span refl g.span_positive,
            (
              own_entry inner 2 S refl g.scale_positive,
              (
                own_entry inner 3 thickness refl g.thickness_positive,
                ((sized_entry inner 1 (num span) (den span) refl x (den_pos span) f R, tt), tt),
              ),
            ),
          ),
        ),
      ),
    )

    by_near : (x : Float) → T (finite x) → NotBelow (value_of x) → Under (1 of size_of span) (value_of x) → (k : ℕ) → k < 7
        → T (component_test c (near root tip span sweep S thickness radius x (tips_of c) ks ls) (0 ∷ 1 ∷ []) k) → Fit x k
    by_near x f n R k l t =
        fits root tip span sweep S thickness x (tips_of c) ks ls (shape 0 full (place 1) []) 0 [] inner inner_ranges (near_known x f R)
        (signed x n ks ls (shape 0 full (place 1) []) 0) (0 ∷ 1 ∷ []) c plain_section k l t

    -- where the radius does not count
    own_span : Under (1 of size_of span) (value_of span)
    own_span = Counts.own_size span g.span_positive

    by_free : (k : ℕ) → k < 7 → Free root tip span sweep S thickness radius ks ls c k → Fit span k
    by_free k l t = by_near span (positive-finite span g.span_positive) (positive_from span g.span_positive) own_span k l t

    -- one from the span on
    by_far : Reaches 1 (num span) (den span) (value_of radius) → (k : ℕ) → k < 7 → Far root tip span sweep S thickness radius ks ls c k
        → Fit radius k
    unfolding of_bits
    by_far R k l t =
        let rp = reach_positive radius 1 (num span) (den span) g.radius_finite (zero-lt-suc 0)
        (positive_num span g.span_positive) R in
        let wide = over_span radius rp R in
        let B = size_of root ∷ size_of span ∷ size_of S ∷ size_of thickness ∷ size_of radius ∷ [] in
        let rr : Ranges 32 (size_of radius) = record {
          real = den_pos radius;
          least = least (num span) (den span) (num radius) (den radius)
              (2 ^ 32) (positive_num span g.span_positive) g.span_ranges.least wide;
          most = g.radius_most;
        } in
        let r : AllRanges 32 B = (g.ranges, (g.span_ranges, (g.scale_ranges, (g.thickness_ranges, (rr, tt))))) in
        fits root tip span sweep S thickness radius (tips_of c) ks ls (shape 0 full (place 4) []) full (larger 1 4 ∷ []) B r (
          own_entry B 0 root refl g.root_positive,
          (
            (many_entry B 0 (num root) (den root) refl tip (tips_of c) (den_pos root) g.tip_finite g.tip_under, tt),
            (
              (many_entry B 0 (num root) (den root) refl sweep ks (den_pos root) g.sweep_finite most_sweep, low B refl),
              (
                own_entry B 1 span refl g.span_positive,
                (
                  own_entry B 2 S refl g.scale_positive,
                  (
                    own_entry B 3 thickness refl g.thickness_positive,
                    (own_entry B 4 radius refl rp, (wide, tt)),
                  ),
                ),
              ),
            ),
          ),
        )
        (signed radius g.radius_from_zero ks ls (shape 0 full (place 4) []) full) (0 ∷ 0 ∷ 0 ∷ 0 ∷ 1 ∷ []) c plain_section k l t
      where
        over_span : (x : Float) → T (positive x) → Reaches 1 (num span) (den span) (value_of x) → num span * den x ≤ num x * den span
        over_span nan p h = absurd p
        over_span (inf s) p h = absurd p
        over_span (fin true m e) p h = absurd p
        over_span (fin false m e) p h = go (num span) (down e) (m * up e) (den span) h
          where
            go : (N E X D : ℕ) → 1 * N * E + 0 * D ≤ X * D → N * E ≤ X * D
            go N E X D u = let x = simp plain at u in omega (arith, x)

        least : (n d x e P : ℕ) → 0 < n → d ≤ n * P → n * e ≤ x * d → e ≤ x * P
        least n d x e P N h k = le_of_mul-le-mul_right (go (mul-le-mul_right x h) k) N
          where
            go : d * x ≤ n * P * x → n * e ≤ x * d → e * n ≤ x * P * n
            go s t = let a = simp sorted at s in let b = simp sorted at t in simp sorted (omega (arith, a, b))

    by_radius : (k : ℕ) → k < 7 → Near root tip span sweep S thickness radius ks ls c k
        → Far root tip span sweep S thickness radius ks ls c k → Fit radius k
    by_radius k l a b = go (either 1 (num span) (den span) (value_of radius) g.radius_from_zero)
      where
        go : Under (1 of size_of span) (value_of radius) ⊎ Reaches 1 (num span) (den span) (value_of radius) → Fit radius k
        go (inl R) = by_near radius g.radius_finite g.radius_from_zero R k l a
        go (inr R) = by_far R k l b

  at_least : (j : ℕ) → 0 < j → Reaches j (num root) (den root) (value_of sweep) → (B : List Size) → get_or B 0 unit ≡ size_of root
      → T (positive sweep) × Reaches (j * 2 ^ 30) (mono top B (place 0) * mono bottom B [])
      (mono bottom B (place 0) * mono top B [] * 2 ^ 30) (value_of sweep)
  at_least j J R B e = (
    reach_positive sweep j (num root) (den root) g.sweep_finite J (positive_num root g.root_positive) R,
    many_low B 0 (num root) (den root) e (value_of sweep) j R,
  )

  -- by how many root chords the sweep is
  abbrev Low : ℕ → ℕ → Type 0
  Low ks ls = (B : List Size) → get_or B 0 unit ≡ size_of root → Lowest B sweep (value_of sweep) (shape 0 (ks * 2 ^ 30) (place 0) []) ls

  by_sweep : (P : Type 0) → (Under (1 of size_of root) (value_of sweep) → Low 1 0 → P)
      → (Under (2 of size_of root) (value_of sweep) → Low 2 (1 * 2 ^ 30) → P)
      → (Under (4 of size_of root) (value_of sweep) → Low 4 (2 * 2 ^ 30) → P) → P
  by_sweep P one two four = first (either 1 (num root) (den root) (value_of sweep) g.sweep_from_zero)
    where
      second : Reaches 1 (num root) (den root) (value_of sweep)
          → Under (2 of size_of root) (value_of sweep) ⊎ Reaches 2 (num root) (den root) (value_of sweep) → P
      second l (inl u) = two u (at_least 1 (zero-lt-suc 0) l)
      second l (inr m) = four g.sweep_under (at_least 2 (zero-lt-suc 1) m)

      first : Under (1 of size_of root) (value_of sweep) ⊎ Reaches 1 (num root) (den root) (value_of sweep) → P
      first (inl u) = one u (λ B e. tt)
      first (inr l) = second l (either 2 (num root) (den root) (value_of sweep) g.sweep_from_zero)

  passed : Tests root tip span sweep S thickness radius c
  passed = tests root tip span sweep S thickness radius c plain_section

  -- each sample has a chord wider than 0, at which the radius does not count
  pub plate_sums : (w : ℕ → Float) (k : ℕ) → sum_of w (plate c root tip span sweep thickness radius points) (bits 0 ⊘ S) (span ⊘ S) k
      ≡ sum_of w (seven_at root tip span sweep S thickness radius 0 0 0 (shape 0 0 [] []) 0 [] c) (bits 0 ⊘ S) (span ⊘ S) k
  plate_sums w k =
      room_sums c root tip span sweep thickness radius points span (tips_of c) 4 0 (shape 0 full (place 1) []) 0 [] inner inner_ranges
      (near_known 4 0 g.sweep_under (λ B e. tt) span (positive-finite span g.span_positive)
      (Counts.own_size span g.span_positive))
      (signed span (positive_from span g.span_positive) 4 0 (shape 0 full (place 1) []) 0) passed.room w k

  -- the first piece meets the tolerance in all seven components
  pub fin_converged : converged 7 (piece_of 7 (plate c root tip span sweep thickness radius points) (bits 0 ⊘ S) (span ⊘ S) ∷ []) ≡ true
  fin_converged = all_converged 7 (plate c root tip span sweep thickness radius points) (bits 0 ⊘ S) (span ⊘ S)
      (λ k l. roomy k (each k l))
    where
      roomy : (k : ℕ) → Fit radius k → Fits (bits 0 ⊘ S) (span ⊘ S) (plate c root tip span sweep thickness radius points) k
      roomy k h = rw (plate_sums kronrod_weight k, plate_sums gauss_weight k) h

      each : (k : ℕ) → k < 7 → Fit radius k
      each zero l = by_free 4 0 g.sweep_under (λ B e. tt) 0 l passed.free0
      each (suc zero) l = by_radius 4 0 g.sweep_under (λ B e. tt) 1 l passed.near1 passed.far1
      each (suc (suc zero)) l = by_radius 4 0 g.sweep_under (λ B e. tt) 2 l passed.near2 passed.far2
      each (suc (suc (suc zero))) l = by_free 4 0 g.sweep_under (λ B e. tt) 3 l passed.free3
      each (suc (suc (suc (suc zero)))) l =
          by_sweep (Fit radius 4) (λ u w. by_free 1 0 u w 4 l passed.free4.0)
          (λ u w. by_free 2 (1 * 2 ^ 30) u w 4 l passed.free4.1.0) (λ u w. by_free 4 (2 * 2 ^ 30) u w 4 l passed.free4.1.1)
      each (suc (suc (suc (suc (suc zero))))) l =
          by_sweep (Fit radius 5) (λ u w. by_radius 1 0 u w 5 l passed.near5.0 passed.far5.0)
          (λ u w. by_radius 2 (1 * 2 ^ 30) u w 5 l passed.near5.1.0 passed.far5.1.0)
          (λ u w. by_radius 4 (2 * 2 ^ 30) u w 5 l passed.near5.1.1 passed.far5.1.1)
      each (suc (suc (suc (suc (suc (suc zero)))))) l = by_free 4 0 g.sweep_under (λ B e. tt) 6 l passed.free6
      each (suc (suc (suc (suc (suc (suc (suc k))))))) l = absurd (beyond k l)
        where
          beyond : (k : ℕ) → suc (suc (suc (suc (suc (suc (suc k)))))) < 7 → ⊥
          beyond k l = omega arith
