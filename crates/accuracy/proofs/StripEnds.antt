-- The strip from 0 to the span, divided by the scale: its ends differ and are in order, and its upper end is near the exact one. Assumes
-- nothing.
use mathlib.Core.Path.{◌≡◌, refl, sym, subst}
use mathlib.Core.Bool.{Bool, true, false}
use mathlib.Core.List.{List, [], ◌∷◌}
use Prim.Native.Nat.{ℕ, ◌+◌, ◌-◌, ◌*◌, ◌^◌, ◌≤◌, ◌<◌}
use native.Mathlib.Nat.{le_refl, mul-pos, le_of_mul-le-mul_right, mul-le-mul_right, one-mul, mul-one, zero-mul, mul-zero, zero-add}
use native.Mathlib.Nat.{add-zero, pow-zero}
use native.Mathlib.Omega.{arith}
use lib.Dec.{T}
use lib.Pow.{pow_pos}
use lib.Ieee.{Float, binary64, eq, of_bits, le}
use lib.Ieee.Fits.{div-fits}
use lib.Ieee.Scale.{finite}
use lib.Ieee.Positive.{num, den, den_pos, positive, positive-finite}
use Rattle.floats.specs.Operations.{◌⊘◌, bits}
use Rattle.floats.proofs.Bools.{of_true}
use Rattle.floats.proofs.Order.{lt_asym, le_of_not}
use Rattle.rounding.specs.Sizes.{InOrder}
use Rattle.rounding.proofs.Monotone.{div_mono, positive_num}
use Rattle.rounding.proofs.Ordered.{order→le}
use Rattle.rounding.proofs.Signed.{Leq, leq_same}
use Rattle.rounding.proofs.Signs.{minus as is_minus, finite_no_nan}
use Rattle.rounding.proofs.Sizes.{positive_of, div_below, weaker, zero_below}
use Rattle.limits.proofs.Lengths.{PositiveLength}
use Rattle.integrands.proofs.Scales.{Scale}
use Rattle.rounding_error.proofs.Numbers.{Number, number, Size, ◌per◌, ◌upto◌, ◌times◌, ◌roundoffs◌, Within, Near, Ranges, value_of, size_of}
use Rattle.rounding_error.proofs.Distances.{sorted, within_upto}
use Rattle.rounding_error.proofs.Polynomials.{given, ◌mul◌}
use Rattle.error_terms.proofs.Laws.{inverse_of}
use Rattle.error_terms.proofs.Monomials.{place, AllRanges}
use Rattle.error_terms.proofs.Terms.{shape, Given, entry, var, ◌over◌, AllKnown, unit_by}
use Rattle.error_terms.proofs.Sound.{unit_real}
use Rattle.error_terms.proofs.Judged.{near_within}
use Rattle.error_terms.proofs.Entries.{full, own_entry}
use Rattle.error_terms.proofs.Floors.{Signed, positive_from}
use Rattle.error_terms.proofs.Orders.{above_zero}
use Rattle.error_terms.proofs.Shares.{positive_value}
use Rattle.one_piece.proofs.Answers.{lower_none, not_equal}
use Rattle.one_piece.proofs.PlatePiece.{positive_above}
use Rattle.accuracy.proofs.Limits.{ranges_to}
use Rattle.accuracy.proofs.ToFractions.{first_power}

ruleset plain = (sorted, one-mul, mul-one, zero-mul, mul-zero, zero-add, add-zero)

-- ---- units of two sizes, by their own numbers
pub scaled_unit : (k N D A C : ℕ)
    → (k * 2 ^ 30) roundoffs unit_by ((N per D) ∷ (A per C) ∷ []) (place 0) (place 1) upto k roundoffs ((N * C) per (D * A))
scaled_unit k N D A C = rw (first_power N, first_power D, first_power A, first_power C, pow-zero N, pow-zero D) (go (2 ^ 30) (2 ^ 53))
  where
    go : (P Q : ℕ) → k * P * (N * 1 * (1 * (C * 1))) * (D * A * Q) ≤ k * (N * C) * (D * 1 * (1 * (A * 1)) * P * Q)
    go P Q = simp plain (le_refl _)

pub product_unit : (k N D A C : ℕ)
    → (k * 2 ^ 30) roundoffs unit_by ((N per D) ∷ (A per C) ∷ []) (1 ∷ 1 ∷ []) [] upto k roundoffs ((N * A) per (D * C))
product_unit k N D A C = rw (first_power N, first_power D, first_power A, first_power C) (go (2 ^ 30) (2 ^ 53))
  where
    go : (P Q : ℕ) → k * P * (N * (A * 1) * 1) * (D * C * Q) ≤ k * (N * A) * (D * (C * 1) * 1 * P * Q)
    go P Q = simp plain (le_refl _)

-- a piece in the strip up to an upper end
pub record InStrip (upper a b : Float) : Type 0 where
  pub in_order : InOrder 26 a b
  pub from_zero : T (le (bits 0) a)
  pub to_upper : T (le b upper)

-- nothing has no sign that counts
none_above : (s : Bool) (X Y : ℕ) → X ≡ 0 → Y ≡ 0 → Leq false X s Y
none_above true X Y e f = omega (arith, e, f)
none_above false X Y e f = omega (arith, e, f)

-- T / D is within 2 roundoffs of (P / F)·(E / S): so is P / F, within 3, of (T / D)·(S / E)
turned : (P F S E T D S' : ℕ) → 0 < F * S → S' ≡ S
    → Within (2 roundoffs ((P * E) per (F * S))) (number T 0 D) (number P 0 F times number E 0 S')
    → Within (3 roundoffs ((T * S) per (D * E))) (number P 0 F) (number T 0 D times number S 0 E)
turned P F S E T D S' R e w = all (subst (λ (z : ℕ). Within (2 roundoffs ((P * E) per (F * S))) (number T 0 D)
    (number P 0 F times number E 0 z)) e w)
  where
    one : (Q : ℕ) → (T * (F * S) + (P * 0 + 0 * E) * D) * (F * S * Q) ≤ ((P * E + 0 * 0) * D + 0 * (F * S)) * (F * S * Q) + 2 * (P * E) *
        (D * (F * S)) → T * (F * S) * Q ≤ P * E * D * Q + 2 * (P * E * D)
    one Q u = le_of_mul-le-mul_right (let x = simp plain at u in simp plain (omega (arith, x))) R

    two : (Q : ℕ) → ((P * E + 0 * 0) * D + 0 * (F * S)) * (F * S * Q) ≤ (T * (F * S) + (P * 0 + 0 * E) * D) * (F * S * Q) + 2 * (P * E) *
        (F * S * D) → P * E * D * Q ≤ T * (F * S) * Q + 2 * (P * E * D)
    two Q u = le_of_mul-le-mul_right (let x = simp plain at u in simp plain (omega (arith, x))) R

    three : (x y : ℕ) → x * 2 ^ 53 ≤ y * 2 ^ 53 + 2 * y → y * 2 ^ 53 ≤ x * 2 ^ 53 + 2 * y
        → (y * 2 ^ 53 ≤ x * 2 ^ 53 + 3 * x) × (x * 2 ^ 53 ≤ y * 2 ^ 53 + 3 * x)
    three x y a b = (omega (arith, a, b), omega (arith, a, b))

    low : (Q : ℕ) → P * E * D * Q ≤ T * (F * S) * Q + 3 * (T * (F * S)) → (P * (D * E) + (T * 0 + 0 * S) * F) * (D * E * Q) ≤
        ((T * S + 0 * 0) * F + 0 * (D * E)) * (D * E * Q) + 3 * (T * S) * (F * (D * E))
    low Q u = let x = simp plain at (mul-le-mul_right (D * E) u) in simp plain (omega (arith, x))

    high : (Q : ℕ) → T * (F * S) * Q ≤ P * E * D * Q + 3 * (T * (F * S)) → ((T * S + 0 * 0) * F + 0 * (D * E)) * (D * E * Q) ≤
        (P * (D * E) + (T * 0 + 0 * S) * F) * (D * E * Q) + 3 * (T * S) * (D * E * F)
    high Q u = let x = simp plain at (mul-le-mul_right (D * E) u) in simp plain (omega (arith, x))

    all : Within (2 roundoffs ((P * E) per (F * S))) (number T 0 D) (number P 0 F times number E 0 S)
        → Within (3 roundoffs ((T * S) per (D * E))) (number P 0 F) (number T 0 D times number S 0 E)
    all w = let b = three (T * (F * S)) (P * E * D) (one (2 ^ 53) w.below) (two (2 ^ 53) w.above) in
        record { below = low (2 ^ 53) b.0; above = high (2 ^ 53) b.1 }

module _ (span scale : Float) (s : PositiveLength span) (q : Scale scale) where
  abbrev low : Float
  low = bits 0 ⊘ scale

  abbrev pub high : Float
  high = span ⊘ scale

  abbrev bases : List Size
  bases = size_of span ∷ size_of scale ∷ []

  abbrev entries : List Given
  entries =
      entry span (value_of span) (shape 0 full (place 0) []) full ∷ entry scale (value_of scale) (shape 0 full (place 1) []) full ∷ []

  pub span_positive : T (positive span)
  span_positive = positive_of span 20 s.not_minus s.above

  ranges : AllRanges 32 bases
  ranges = (
    ranges_to 32 span 6 20 (omega arith) (omega arith) s.length.below s.above,
    (ranges_to 32 scale 7 20 (omega arith) (omega arith) q.below q.above, tt),
  )

  known : AllKnown bases entries
  known = (own_entry bases 0 span refl span_positive, (own_entry bases 1 scale refl q.is_positive, tt))

  signed : Signed entries
  signed = (positive_from span span_positive, (positive_from scale q.is_positive, tt))

  pub upper_positive : T (positive high)
  upper_positive = above_zero bases ranges entries known signed (var 0 over 1) tt

  pub ends_differ : eq low high ≡ false
  ends_differ = not_equal low high (lower_none scale q.is_positive) upper_positive

  -- the span is within 3 roundoffs of the upper end times the scale
  abbrev apart_by : Size
  apart_by = 3 roundoffs ((num high * num scale) per (den high * den scale))

  upper_within : Within apart_by (number (num span) 0 (den span)) (number (num high) 0 (den high) times number (num scale) 0 (den scale))
  upper_within =
      let n = near_within bases ranges entries known (var 0 over 1) (given 0 mul given 3) (2 * 2 ^ 30) (place 0) (place 1) tt in
      let U = 2 roundoffs ((num span * den scale) per (den span * num scale)) in
      let w = within_upto ((2 * 2 ^ 30) roundoffs unit_by bases (place 0) (place 1)) U (value_of high)
      (value_of span times inverse_of (value_of scale)) (mul-pos (unit_real bases ranges (place 0) (place 1)) (pow_pos 53))
      (scaled_unit 2 (num span) (den span) (num scale) (den scale)) n.within in
      turned (num span) (den span) (num scale) (den scale) (num high) (den high) (num scale - 0)
      (mul-pos (den_pos span) (positive_num scale q.is_positive)) (none (num scale))
      (subst (λ (x : Number). Within U (number (num high) 0 (den high)) (number (num span) 0 (den span) times inverse_of x))
      (positive_value scale q.is_positive)
      (subst (λ (x : Number). Within U (number (num high) 0 (den high)) (x times inverse_of (value_of scale)))
      (positive_value span span_positive)
      (subst (λ (x : Number). Within U x (value_of span times inverse_of (value_of scale))) (positive_value high upper_positive) w)))
    where
      none : (x : ℕ) → x - 0 ≡ x
      none x = omega arith

  pub upper_near : Near span (value_of high times value_of scale) apart_by
  upper_near = record {
    finite = positive-finite span span_positive;
    within =
        subst (λ (x : Number). Within apart_by x (value_of high times value_of scale)) (sym (positive_value span span_positive))
        (subst (λ (x : Number). Within apart_by (number (num span) 0 (den span)) (x times value_of scale))
        (sym (positive_value high upper_positive))
        (subst (λ (x : Number). Within apart_by (number (num span) 0 (den span)) (number (num high) 0 (den high) times x))
        (sym (positive_value scale q.is_positive)) upper_within));
  }

  pub upper_ranges : Ranges 32 (size_of high)
  upper_ranges = record {
    real = den_pos high;
    least = least (num span) (den span) (num scale) (den scale) (num high) (den high) (den_pos span) (den_pos scale) (den_pos high)
        s.above.size q.below.size upper_within.below;
    most = most (num high) (den high) (div_below span scale 6 20 (omega arith) s.length.below q.above).size;
  }
    where
      most : (N D : ℕ) → N * 1 ≤ 2 ^ 26 * D → N ≤ D * 2 ^ 32
      most N D h = omega arith

      least : (P F S E T D : ℕ) → 0 < F → 0 < E → 0 < D → 1 * F ≤ P * 2 ^ 20 → S * 1 ≤ 2 ^ 7 * E
          → (P * (D * E) + (T * 0 + 0 * S) * F) * (D * E * 2 ^ 53) ≤ ((T * S + 0 * 0) * F + 0 * (D * E)) * (D * E * 2 ^ 53) + 3 * (T * S) *
          (F * (D * E)) → D ≤ T * 2 ^ 32
      least P F S E T D FF EE DD h k u =
          le_of_mul-le-mul_right (last (mul-le-mul_right (D * E) h) (mul-le-mul_right (T * F) k)
          (le_of_mul-le-mul_right (one (2 ^ 53) u) (mul-pos DD EE))) (mul-pos EE FF)
        where
          one : (Q : ℕ) → (P * (D * E) + (T * 0 + 0 * S) * F) * (D * E * Q) ≤ ((T * S + 0 * 0) * F + 0 * (D * E)) * (D * E * Q) + 3 *
              (T * S)
              * (F * (D * E)) → P * D * E * Q * (D * E) ≤ (T * S * F * Q + 3 * (T * S * F)) * (D * E)
          one Q v = let x = simp plain at v in simp plain (omega (arith, x))

          last : 1 * F * (D * E) ≤ P * 2 ^ 20 * (D * E) → S * 1 * (T * F) ≤ 2 ^ 7 * E * (T * F)
              → P * D * E * 2 ^ 53 ≤ T * S * F * 2 ^ 53 + 3 * (T * S * F) → D * (E * F) ≤ T * 2 ^ 32 * (E * F)
          last a b c = back (go (F * (D * E)) (P * (D * E)) (T * S * F) (T * (E * F))
              (let x = simp plain at a in simp plain (omega (arith, x)))
              (let x = simp plain at b in simp plain (omega (arith, x))) (let x = simp plain at c in simp plain (omega (arith, x))))
            where
              go : (f p x y : ℕ) → f ≤ p * 2 ^ 20 → x ≤ y * 2 ^ 7 → p * 2 ^ 53 ≤ x * 2 ^ 53 + 3 * x → f ≤ y * 2 ^ 32
              go f p x y a b c = omega arith

              back : F * (D * E) ≤ T * (E * F) * 2 ^ 32 → D * (E * F) ≤ T * 2 ^ 32 * (E * F)
              back h = let x = simp sorted at h in simp sorted (omega (arith, x))

  pub low_none : num low ≡ 0
  low_none = none (num low) (den low) (lower_none scale q.is_positive).size
    where
      none : (N D : ℕ) → N * 1 ≤ 0 * D → N ≡ 0
      none N D h = omega arith

  pub low_finite : T (finite low)
  low_finite = (lower_none scale q.is_positive).finite

  low_from_zero : T (le (bits 0) low)
  unfolding of_bits
  low_from_zero = order→le (bits 0) low tt low_finite (none_above (is_minus low) (0 * den low) (num low * 1) (omega arith)
      (rw low_none (omega arith)))

  pub in_strip : InStrip high low high
  in_strip =
      let zero_below' = weaker (bits 0) 0 6 (omega arith) zero_below in
      let span_below = s.length.below in
      let high_below = div_below span scale 6 20 (omega arith) span_below q.above in
      record {
        in_order = record {
          lower_f64 = div-fits binary64 (bits 0) scale;
          upper_f64 = div-fits binary64 span scale;
          lower_below = div_below (bits 0) scale 6 20 (omega arith) zero_below' q.above;
          upper_below = high_below;
          ordered = div_mono binary64 (bits 0) span scale zero_below'.finite span_below.finite q.is_positive
              (of_true _ (le_of_not (bits 0) span (finite_no_nan (bits 0) zero_below'.finite) (finite_no_nan span span_below.finite)
              (lt_asym (bits 0) span (positive_above span span_positive))));
        };
        from_zero = low_from_zero;
        to_upper = order→le high high high_below.finite high_below.finite
            (leq_same (is_minus high) (num high * den high) (num high * den high) refl);
      }
