-- `sound`: each rounded expression is as near what it is exactly as its bound says. Assumes nothing.
use mathlib.Core.Path.{◌≡◌, refl, sym, ap, ◌∙◌, subst}
use mathlib.Core.Bool.{Bool, true, false, ◌&&◌, ◌||◌, cond}
use mathlib.Core.List.{List, [], ◌∷◌}
use Prim.Native.Nat.{ℕ, zero, suc, ◌+◌, ◌-◌, ◌*◌, ◌/◌, ◌^◌, ◌≤◌, ◌<◌}
use native.Mathlib.Nat.{le_refl, le_trans, le_of_eq, mul-pos, mul-le-mul, mul-le-mul_left, mul-le-mul_right, le_of_mul-le-mul_right}
use native.Mathlib.Nat.{mul_comm, one-mul, mul-one, zero-mul, mul-zero, zero-add, add-zero, zero-lt-suc, not-suc-le-zero, div-mul-le_self}
use native.Mathlib.Omega.{arith}
use lib.Dec.{T, leb, ltb, eqb, leb→le, ltb→lt, eqb→eq}
use lib.Pow.{pow-add, pow_pos, pow_mono}
use lib.ListN.{get_or}
use lib.Ieee.{Float, nan, inf, fin, up, down, of_bits}
use lib.Ieee.Fits.{and_l, and_r, down_pos, up_pos}
use lib.Ieee.Scale.{finite}
use lib.Ieee.Positive.{num, den, positive, positive-finite}
use Rattle.floats.specs.Operations.{◌⊕◌, ◌⊖◌, ◌⊗◌, ◌⊘◌, bits}
use Rattle.rounding_error.proofs.Numbers.{Number, number, Size, ◌per◌, ◌plus◌, minus, ◌less◌, ◌times◌, ◌by◌, ◌of◌, ◌roundoffs◌, ◌upto◌}
use Rattle.rounding_error.proofs.Numbers.{IsNumber, IsSize, Within, Under, zero_number, value_of, Ranges}
use Rattle.rounding_error.proofs.Distances.{sorted, within_sym, within_same, within_upto, within_plus}
use Rattle.rounding_error.proofs.Counts as Counts
use Rattle.rounding_error.proofs.Chains.{Valued, equalled, resized, zero_valued}
use Rattle.rounding_error.proofs.Polynomials as Poly
use Rattle.rounding_error.proofs.Polynomials.{Expression, given as at_place, ratio, Product, factor, normal, evaluate, product, sum_of}
use Rattle.rounding_error.proofs.Polynomials.{◌equals◌, symm}
use Rattle.error_terms.proofs.Monomials.{top, bottom, mono, place, unit, raised_upto, added, total, alike, AllRanges, size_by}
use Rattle.error_terms.proofs.Monomials.{alike_upto, top_by, bottom_by, top_pos, bottom_pos, ranges_of}
use Rattle.error_terms.proofs.Laws.{rounded_up, up_least, plus_law, less_law, times_law, over_law, coarser, inverse_of, inverse_is}
use Rattle.error_terms.proofs.Laws.{inverse_size_lem, Reaches, parts, Divides}
use Rattle.error_terms.proofs.Terms.{Shape, shape, Given, entry, larger, Term, var, const, nought, ◌add◌, ◌take◌, ◌mul◌, ◌over◌, divided}
use Rattle.error_terms.proofs.Terms.{tight, raised, Extent, extent, none, float_of, number_of, shape_of, low_of, inverse_by, value}
use Rattle.error_terms.proofs.Terms.{inverse_constant, inverse_number, exact, double, constant, plain_term, numbers_of, extent_of}
use Rattle.error_terms.proofs.Terms.{inverse_extent_by, extents, times_extent, product_extent, apart, factor_reach, reach_of, climb, climbs}
use Rattle.error_terms.proofs.Terms.{unit_test, units_test, pairs, push, cancelled_places, cancelled, normal_of, tight_size, lessened}
use Rattle.error_terms.proofs.Terms.{tight_test, sum_shape, product_shape, lowest, inverse_size, inverse_error, quotient_shape}
use Rattle.error_terms.proofs.Terms.{resized_shape, raised_by, const_shape, const_least, bound, fine, sum_test, divides, quotient_test}
use Rattle.error_terms.proofs.Terms.{divided_test, ok, unit_by, Known, Lowest, AllKnown}

ruleset plain = (sorted, one-mul, mul-one, zero-mul, mul-zero, zero-add, add-zero)

known_at : (B : List Size) (G : List Given) → AllKnown B G → (i : ℕ)
    → Known B (float_of (get_or G i none)) (number_of (get_or G i none)) (shape_of (get_or G i none))
known_at B [] h i = zero_valued (unit_by B [] [])
known_at B (entry x v s low ∷ G) h zero = h.0.0
known_at B (entry x v s low ∷ G) h (suc i) = known_at B G h.1 i
known_at B (larger a b ∷ G) h zero = zero_valued (unit_by B [] [])
known_at B (larger a b ∷ G) h (suc i) = known_at B G h.1 i

lowest_at : (B : List Size) (G : List Given) → AllKnown B G → (i : ℕ)
    → Lowest B (float_of (get_or G i none)) (number_of (get_or G i none)) (shape_of (get_or G i none)) (low_of (get_or G i none))
lowest_at B [] h i = tt
lowest_at B (entry x v s low ∷ G) h zero = h.0.1
lowest_at B (entry x v s low ∷ G) h (suc i) = lowest_at B G h.1 i
lowest_at B (larger a b ∷ G) h zero = tt
lowest_at B (larger a b ∷ G) h (suc i) = lowest_at B G h.1 i

module _ (B : List Size) (r : AllRanges 32 B) where
  abbrev UnderExtent : Extent → Number → Type 0
  UnderExtent (extent j p q) v = Under (j of unit_by B p q) v

  pub unit_real : (p q : List ℕ) → IsSize (unit_by B p q)
  unit_real p q = mul-pos (bottom_pos 32 B r p q) (pow_pos 30)

  parts_ranges : (n d k : ℕ) → Ranges k (n per d) → k ≤ 800 → Ranges 840 (parts n d)
  parts_ranges n d k h l =
      record {
        real = mul-pos h.real (pow_pos 30);
        least = le_trans (mul-le-mul h.least (le_refl (2 ^ 30)))
            (le_trans (le_of_eq (go n (2 ^ k) (2 ^ 30)))
            (mul-le-mul_left n (le_trans (le_of_eq (sym (pow-add 2 k 30))) (pow_mono {i = k + 30} {j = 840} (omega arith)))));
        most = le_trans h.most (mul-le-mul (le_trans (le_of_eq (sym (mul-one d))) (mul-le-mul_left d (pow_pos 30)))
            (pow_mono {i = k} {j = 840} (omega arith)));
      }
    where
      go : (n x y : ℕ) → n * x * y ≡ n * (x * y)
      go n x y = simp sorted

  pub unit_ranges : (p q : List ℕ) → T (leb (32 * total p + 32 * total q) 800) → Ranges 840 (unit_by B p q)
  unit_ranges p q t = parts_ranges (mono top B p * mono bottom B q) (mono bottom B p * mono top B q) (32 * total p + 32 * total q)
      (ranges_of 32 B r p q) (leb→le (32 * total p + 32 * total q) 800 t)

  wider : (S : Size) → Ranges 840 S → Ranges 900 S
  wider (a per c) h =
      record {
        real = h.real;
        least = le_trans h.least
            (mul-le-mul_left a (pow_mono {i = 840} {j = 900} (omega arith)));
        most =
            le_trans h.most (mul-le-mul_left c (pow_mono {i = 840} {j = 900} (omega arith)));
      }

  -- a finer part of a product's unit
  by_ranges : (a c b d : ℕ) → 0 < c → 0 < d → Ranges 840 (parts (a * b) (c * d)) → Ranges 900 (parts a c by parts b d)
  by_ranges a c b d C D h =
      record {
        real = mul-pos (mul-pos C (pow_pos 30)) (mul-pos D (pow_pos 30));
        least = le_trans (le_of_eq (one c d (2 ^ 30)))
            (le_trans (mul-le-mul h.least (le_refl (2 ^ 30))) (le_trans (le_of_eq (two (a * b) (2 ^ 840) (2 ^ 30)))
            (mul-le-mul_left (a * b) (le_trans (le_of_eq (sym (pow-add 2 840 30))) (pow_mono {i = 870} {j = 900} (omega arith))))));
        most = le_trans h.most (mul-le-mul (le_trans
            (le_trans (le_of_eq (sym (mul-one (c * d * 2 ^ 30)))) (mul-le-mul_left (c * d * 2 ^ 30) (pow_pos 30)))
            (le_of_eq (sym (one c d (2 ^ 30))))) (pow_mono {i = 840} {j = 900} (omega arith)));
      }
    where
      one : (c d P : ℕ) → c * P * (d * P) ≡ c * d * P * P
      one c d P = simp sorted

      two : (n x y : ℕ) → n * x * y ≡ n * (x * y)
      two n x y = simp sorted

  -- ---- each operation
  pub in_unit_lem : (p q p' q' : List ℕ) → T (alike (added p q') (added p' q)) → unit_by B p q upto unit_by B p' q'
  in_unit_lem p q p' q' t = go (mono top B p * mono bottom B q) (mono bottom B p * mono top B q) (mono top B p' * mono bottom B q')
      (mono bottom B p' * mono top B q') (2 ^ 30) (alike_upto B p q p' q' t)
    where
      go : (a c b d P : ℕ) → a * d ≤ b * c → a * (d * P) ≤ b * (c * P)
      go a c b d P h = let x = simp sorted at (mul-le-mul_right P h) in simp sorted (omega (arith, x))

  sum_few : (i j : ℕ) → suc i ≤ 2 ^ 49 → suc j ≤ 2 ^ 49 → suc i + suc j ≤ 2 ^ 100
  sum_few i j h k = omega arith

  product_few : (i j : ℕ) → i ≤ 2 ^ 49 → j ≤ 2 ^ 49 → i * j ≤ 2 ^ 100
  product_few i j h k = le_trans (mul-le-mul h k) (leb→le (2 ^ 49 * 2 ^ 49) (2 ^ 100) tt)

  record Fine (k i : ℕ) (p q : List ℕ) : Type 0 where
    errors : k ≤ 2 ^ 53
    sizes : suc i ≤ 2 ^ 49
    powers : T (leb (32 * total p + 32 * total q) 800)

  fine_is : (k i : ℕ) (p q : List ℕ) → T (fine (shape k i p q)) → Fine k i p q
  fine_is k i p q t =
      let a = and_l (leb k (2 ^ 53) && leb (suc i) (2 ^ 49)) (leb (32 * total p + 32 * total q) 800) t in
      record {
        errors = leb→le k (2 ^ 53) (and_l (leb k (2 ^ 53)) (leb (suc i) (2 ^ 49)) a);
        sizes = leb→le (suc i) (2 ^ 49) (and_r (leb k (2 ^ 53)) (leb (suc i) (2 ^ 49)) a);
        powers = and_r (leb k (2 ^ 53) && leb (suc i) (2 ^ 49)) (leb (32 * total p + 32 * total q) 800) t;
      }

  add_known : (x y : Float) (u v : Number) (s t : Shape) → T (fine s) → T (fine t) → T (sum_test s t) → Known B x u s → Known B y v t
      → Known B (x ⊕ y) (u plus v) (sum_shape s t)
  add_known x y u v (shape k i p q) (shape l j p' q') f g e h z =
      let a = fine_is k i p q f in
      let b = fine_is l j p' q' g in
      plus_law (unit_by B p' q') (wider (unit_by B p' q') (unit_ranges p' q' b.powers)) a.errors b.errors
      (sum_few i j a.sizes b.sizes)
      (resized (unit_by B p q) (unit_by B p' q') (unit_real p q) (in_unit_lem p q p' q' e) h) z

  take_known : (x y : Float) (u v : Number) (s t : Shape) → T (fine s) → T (fine t) → T (sum_test s t) → Known B x u s → Known B y v t
      → Known B (x ⊖ y) (u less v) (sum_shape s t)
  take_known x y u v (shape k i p q) (shape l j p' q') f g e h z =
      let a = fine_is k i p q f in
      let b = fine_is l j p' q' g in
      less_law (unit_by B p' q') (wider (unit_by B p' q') (unit_ranges p' q' b.powers)) a.errors b.errors
      (sum_few i j a.sizes b.sizes)
      (resized (unit_by B p q) (unit_by B p' q') (unit_real p q) (in_unit_lem p q p' q' e) h) z

  mul_known : (x y : Float) (u v : Number) (s t : Shape) → T (fine s) → T (fine t) → T (fine (product_shape s t)) → Known B x u s
      → Known B y v t → Known B (x ⊗ y) (u times v) (product_shape s t)
  mul_known x y u v (shape k i p q) (shape l j p' q') f g e h z =
      let a = fine_is k i p q f in
      let b = fine_is l j p' q' g in
      let c = fine_is (rounded_up (suc i * suc j + (suc i * l + j * k)) (2 ^ 30)) (rounded_up (i * j) (2 ^ 30)) (added p p')
      (added q q') e in
      let n1 = mono top B p * mono bottom B q in
      let d1 = mono bottom B p * mono top B q in
      let n2 = mono top B p' * mono bottom B q' in
      let d2 = mono bottom B p' * mono top B q' in
      let w : Ranges 840 (parts (n1 * n2) (d1 * d2)) =
      subst (λ (n : ℕ). Ranges 840 (parts n (d1 * d2))) (top_by B p q p' q')
      (subst (λ (d : ℕ). Ranges 840 (parts (mono top B (added p p') * mono bottom B (added q q')) d)) (bottom_by B p q p' q')
      (unit_ranges (added p p') (added q q') c.powers)) in
      subst (λ (n : ℕ). Valued (x ⊗ y) (u times v) (rounded_up (suc i * suc j + (suc i * l + j * k)) (2 ^ 30))
      (rounded_up (i * j) (2 ^ 30)) (parts n (mono bottom B (added p p') * mono top B (added q q')))) (sym (top_by B p q p' q'))
      (subst (λ (d : ℕ). Valued (x ⊗ y) (u times v) (rounded_up (suc i * suc j + (suc i * l + j * k)) (2 ^ 30))
      (rounded_up (i * j) (2 ^ 30)) (parts (n1 * n2) d)) (sym (bottom_by B p q p' q'))
      (coarser n1 d1 n2 d2 (bottom_pos 32 B r p q) (bottom_pos 32 B r p' q')
      (times_law (parts n1 d1) (parts n2 d2) (by_ranges n1 d1 n2 d2 (bottom_pos 32 B r p q) (bottom_pos 32 B r p' q') w) (unit_real p q)
      (unit_real p' q') a.errors b.errors (product_few (suc i) (suc j) a.sizes b.sizes) h z)))

  inverse_by_lem : (p q p' q' : List ℕ) → mono top B (added p q') * mono bottom B (added q p') ≡ mono top B p * mono bottom B q *
      (mono bottom B p' * mono top B q')
  inverse_by_lem p q p' q' = top_by B p q q' p' ∙ ap (λ (x : ℕ). mono top B p * mono bottom B q * x)
      (mul_comm (mono top B q') (mono bottom B p'))

  by_inverse : (p q p' q' : List ℕ) → mono bottom B (added p q') * mono top B (added q p') ≡ mono bottom B p * mono top B q *
      (mono top B p' * mono bottom B q')
  by_inverse p q p' q' = bottom_by B p q q' p' ∙ ap (λ (x : ℕ). mono bottom B p * mono top B q * x)
      (mul_comm (mono bottom B q') (mono top B p'))

  one_some : (n m : ℕ) → 1 ≤ suc n * (m + 1)
  one_some n m = omega arith

  over_known : (x y : Float) (u v : Number) (s t : Shape) (low : ℕ) → T (fine s) → T (fine (quotient_shape s t low))
      → T (quotient_test t low) → Known B x u s → Known B y v t → Lowest B y v t low
      → Known B (x ⊘ y) (u times inverse_by low v) (quotient_shape s t low)
  over_known x y u v (shape k i p q) (shape l j p' q') zero f g e h z o = absurd (no e)
    where
      no : T (quotient_test (shape l j p' q') 0) → ⊥
      no t = zero_low (and_l (ltb 0 (lowest l 0)) (leb (lowest l 0 * 2 ^ 53 + l) (0 * 2 ^ 53))
          (and_l (ltb 0 (lowest l 0) && leb (lowest l 0 * 2 ^ 53 + l) (0 * 2 ^ 53)) (leb (inverse_size l 0) (2 ^ 49))
          (and_l (divides l 0) (leb (32 * total p' + 32 * total q') 800) t)))
        where
          zero_low : T (ltb 0 (0 - rounded_up l (2 ^ 53))) → ⊥
          zero_low t = go (ltb→lt 0 (0 - rounded_up l (2 ^ 53)) t)
            where
              go : 0 < 0 - (l / 2 ^ 53 + 1) → ⊥
              go h = omega arith
  over_known x y u v (shape k i p q) (shape l j p' q') (suc low') f g e h z o =
      let low = suc low' in
      let R = lowest l low in
      let J = inverse_size l low in
      let L = inverse_error l low in
      let a = fine_is k i p q f in
      let c = fine_is (rounded_up (suc i * J + (suc i * L + J * k)) (2 ^ 30)) (rounded_up (i * J) (2 ^ 30)) (added p q') (added q p') g in
      let e1 = and_l (divides l low) (leb (32 * total p' + 32 * total q') 800) e in
      let e2 = and_l (ltb 0 R && leb (R * 2 ^ 53 + l) (low * 2 ^ 53)) (leb J (2 ^ 49)) e1 in
      let n1 = mono top B p * mono bottom B q in
      let d1 = mono bottom B p * mono top B q in
      let n2 = mono top B p' * mono bottom B q' in
      let d2 = mono bottom B p' * mono top B q' in
      let some : 0 < R = ltb→lt 0 R (and_l (ltb 0 R) (leb (R * 2 ^ 53 + l) (low * 2 ^ 53)) e2) in
      let w : Ranges 840 (parts (n1 * d2) (d1 * n2)) =
      subst (λ (n : ℕ). Ranges 840 (parts n (d1 * n2))) (inverse_by_lem p q p' q')
      (subst (λ (d : ℕ). Ranges 840 (parts (mono top B (added p q') * mono bottom B (added q p')) d)) (by_inverse p q p' q')
      (unit_ranges (added p q') (added q p') c.powers)) in
      let v' : Divides n2 d2 l low R J L =
      record {
        some = some;
        least = leb→le (R * 2 ^ 53 + l) (low * 2 ^ 53) (and_r (ltb 0 R) (leb (R * 2 ^ 53 + l) (low * 2 ^ 53)) e2);
        inverses = up_least (2 ^ 30 * 2 ^ 30) R some;
        apart = up_least (l * (J * J)) (2 ^ 30 * 2 ^ 30) (mul-pos (pow_pos 30) (pow_pos 30));
      } in
      subst (λ (n : ℕ). Valued (x ⊘ y) (u times inverse_of v) (rounded_up (suc i * J + (suc i * L + J * k)) (2 ^ 30))
      (rounded_up (i * J) (2 ^ 30)) (parts n (mono bottom B (added p q') * mono top B (added q p')))) (sym (inverse_by_lem p q p' q'))
      (subst (λ (d : ℕ). Valued (x ⊘ y) (u times inverse_of v) (rounded_up (suc i * J + (suc i * L + J * k)) (2 ^ 30))
      (rounded_up (i * J) (2 ^ 30)) (parts (n1 * d2) d)) (sym (by_inverse p q p' q'))
      (coarser n1 d1 d2 n2 (bottom_pos 32 B r p q) (top_pos 32 B r p' q')
      (over_law y v (parts n1 d1) n2 d2 l low R J L (top_pos 32 B r p' q') (bottom_pos 32 B r p' q')
      (by_ranges n1 d1 d2 n2 (bottom_pos 32 B r p q) (top_pos 32 B r p' q') w) (unit_real p q) a.errors
      (one_some i (2 ^ 30 * 2 ^ 30 / R)) (product_few (suc i) J a.sizes
      (leb→le J (2 ^ 49) (and_r (ltb 0 R && leb (R * 2 ^ 53 + l) (low * 2 ^ 53)) (leb J (2 ^ 49)) e1))) o.0 z.is v' o.1
      z.near.within h)))

  const_under : (K x y P N D : ℕ) → N * P ≤ K * D
      → Under ((K * (x * y)) per (y * x * P)) (number N 0 D) × Under ((K * (x * y)) per (y * x * P)) (number 0 N D)
  const_under K x y P N D h = (
    record { below = one (mul-le-mul_right (x * y) h); above = none_above },
    record { below = none_above'; above = one' (mul-le-mul_right (x * y) h) },
  )
    where
      one : N * P * (x * y) ≤ K * D * (x * y) → (N * 1 + 0 * D) * (y * x * P) ≤ (0 * D + 0 * 1) * (y * x * P) + K * (x * y) * (D * 1)
      one u = let z = simp plain at u in simp plain (omega (arith, z))

      one' : N * P * (x * y) ≤ K * D * (x * y) → (0 * D + N * 1) * (y * x * P) ≤ (0 * 1 + 0 * D) * (y * x * P) + K * (x * y) * (1 * D)
      one' u = let z = simp plain at u in simp plain (omega (arith, z))

      none_above : (0 * D + 0 * 1) * (y * x * P) ≤ (N * 1 + 0 * D) * (y * x * P) + K * (x * y) * (1 * D)
      none_above = simp plain (omega arith)

      none_above' : (0 * 1 + 0 * D) * (y * x * P) ≤ (0 * D + N * 1) * (y * x * P) + K * (x * y) * (D * 1)
      none_above' = simp plain (omega arith)

  const_size : (c : Float) → T (finite c) → Under (rounded_up (num c * 2 ^ 30) (den c) of unit_by B [] []) (value_of c)
  const_size nan f = absurd f
  const_size (inf s) f = absurd f
  const_size (fin true m e) f =
      (const_under (rounded_up (m * up e * 2 ^ 30) (down e)) (mono top B []) (mono bottom B []) (2 ^ 30) (m * up e) (down e)
      (up_least (m * up e * 2 ^ 30) (down e) (down_pos e))).1
  const_size (fin false m e) f =
      (const_under (rounded_up (m * up e * 2 ^ 30) (down e)) (mono top B []) (mono bottom B []) (2 ^ 30) (m * up e) (down e)
      (up_least (m * up e * 2 ^ 30) (down e) (down_pos e))).0

  pub const_known : (c : Float) → T (finite c) → Known B c (value_of c) (shape 0 (rounded_up (num c * 2 ^ 30) (den c)) [] [])
  const_known c f = record { near = Counts.itself c (unit_by B [] []) f; size = const_size c f; is = Counts.value_is c }

  pub const_lowest : (c : Float) (low : ℕ) → T (positive c) → low * den c ≤ num c * 2 ^ 30 → Lowest B c (value_of c) (const_shape c) low
  const_lowest c zero p h = tt
  const_lowest c (suc low) p h = (p, reaches c (mono top B []) (mono bottom B []) p h)
    where
      reaches : (c : Float) (x y : ℕ) → T (positive c) → suc low * den c ≤ num c * 2 ^ 30
          → Reaches (suc low) (x * y) (y * x * 2 ^ 30) (value_of c)
      reaches nan x y p h = absurd p
      reaches (inf s) x y p h = absurd p
      reaches (fin true m e) x y p h = absurd p
      reaches (fin false m e) x y p h = go (suc low) (m * up e) (down e) (2 ^ 30) (mul-le-mul_right (x * y) h)
        where
          go : (l N D P : ℕ) → l * D * (x * y) ≤ N * P * (x * y) → l * (x * y) * D + 0 * (y * x * P) ≤ N * (y * x * P)
          go l N D P u = let z = simp plain at u in simp plain (omega (arith, z))

  -- the inverse of a constant as a number
  inverse_const : (low : ℕ) (c : Float) → T (positive c) → 0 < low → inverse_by low (value_of c) ≡ inverse_number c
  inverse_const zero c p h = absurd (not-suc-le-zero h)
  inverse_const (suc low) nan p h = absurd p
  inverse_const (suc low) (inf s) p h = absurd p
  inverse_const (suc low) (fin true m e) p h = absurd p
  inverse_const (suc low) (fin false m e) p h =
      ap (λ (n : ℕ). number (down e) 0 n) (go (m * up e) (mul-pos (ltb→lt 0 m p) (up_pos e)))
    where
      go : (n : ℕ) → 0 < n → n - 0 ≡ suc (n - 1)
      go n h = omega arith

  zero_same : value_of (bits 0) equals zero_number
  unfolding of_bits
  zero_same = record { same = refl }

  nought_known : (p q : List ℕ) → Known B (bits 0) zero_number (shape 0 0 p q)
  nought_known p q = equalled (zero_valued (unit_by B p q)) zero_number (pow_pos 0) zero_same

  -- ---- the exact number as a polynomial
  inverse_number_lem : (x : Float) (v : Number) (s : Shape) (low : ℕ) → Known B x v s → Lowest B x v s low → IsNumber (inverse_by low v)
  inverse_number_lem x v (shape k i p q) zero h l = Counts.value_is (bits 0)
  inverse_number_lem x v (shape k i p q) (suc low) h l =
      inverse_is v (mono top B p * mono bottom B q) (mono bottom B p * mono top B q * 2 ^ 30) (suc low) (top_pos 32 B r p q)
      (mul-pos (bottom_pos 32 B r p q) (pow_pos 30)) (omega arith) h.is l.1

  is_number : (x : Float) (v : Number) (s : Shape) → Known B x v s → IsNumber v
  is_number x v (shape k i p q) h = h.is

  pub numbers_are : (G : List Given) → AllKnown B G → (i : ℕ) → IsNumber (numbers_of G i)
  numbers_are [] h i = Counts.value_is (bits 0)
  numbers_are (entry x v s low ∷ G) h zero = is_number x v s h.0.0
  numbers_are (entry x v s low ∷ G) h (suc zero) = inverse_number_lem x v s low h.0.0 h.0.1
  numbers_are (entry x v s low ∷ G) h (suc (suc k)) = numbers_are G h.1 k
  numbers_are (larger a b ∷ G) h zero = Counts.value_is (bits 0)
  numbers_are (larger a b ∷ G) h (suc zero) = Counts.value_is (bits 0)
  numbers_are (larger a b ∷ G) h (suc (suc k)) = numbers_are G h.1 k

  extent_is : (x : Float) (v : Number) (s : Shape) (low : ℕ) → Known B x v s → UnderExtent (extent_of (entry x v s low)) v
  extent_is x v (shape k i p q) low h = h.size

  inverse_extent_lem : (x : Float) (v : Number) (s : Shape) (low : ℕ) → Lowest B x v s low
      → UnderExtent (inverse_extent_by low s) (inverse_by low v)
  inverse_extent_lem x v (shape k i p q) zero l = (zero_valued (unit_by B [] [])).size
  inverse_extent_lem x v (shape k i p q) (suc low) l =
      let J = rounded_up (2 ^ 30 * 2 ^ 30) (suc low) in
      subst (λ (n : ℕ). Under (J of parts n (mono bottom B q * mono top B p)) (inverse_of v)) (mul_comm (mono bottom B p) (mono top B q))
      (subst (λ (d : ℕ). Under (J of parts (mono bottom B p * mono top B q) d) (inverse_of v)) (mul_comm (mono top B p) (mono bottom B q))
      (inverse_size_lem v (mono top B p * mono bottom B q) (mono bottom B p * mono top B q) (suc low) J (bottom_pos 32 B r p q)
      (omega arith)
      (up_least (2 ^ 30 * 2 ^ 30) (suc low) (omega arith)) l.1))

  extents_are : (G : List Given) → AllKnown B G → (i : ℕ) → UnderExtent (extents G i) (numbers_of G i)
  extents_are [] h i = (zero_valued (unit_by B [] [])).size
  extents_are (entry x v s low ∷ G) h zero = extent_is x v s low h.0.0
  extents_are (entry x v s low ∷ G) h (suc zero) = inverse_extent_lem x v s low h.0.1
  extents_are (entry x v s low ∷ G) h (suc (suc k)) = extents_are G h.1 k
  extents_are (larger a b ∷ G) h zero = (zero_valued (unit_by B [] [])).size
  extents_are (larger a b ∷ G) h (suc zero) = (zero_valued (unit_by B [] [])).size
  extents_are (larger a b ∷ G) h (suc (suc k)) = extents_are G h.1 k

  times_extent_lem : (e f : Extent) (x y : Number) → IsNumber x → UnderExtent e x → UnderExtent f y
      → UnderExtent (times_extent e f) (x times y)
  times_extent_lem (extent i p q) (extent j p' q') x y I h g =
      let n1 = mono top B p * mono bottom B q in
      let d1 = mono bottom B p * mono top B q in
      let n2 = mono top B p' * mono bottom B q' in
      let d2 = mono bottom B p' * mono top B q' in
      let K = rounded_up (i * j) (2 ^ 30) in
      subst (λ (n : ℕ). Under (K of parts n (mono bottom B (added p p') * mono top B (added q q'))) (x times y))
      (sym (top_by B p q p' q'))
      (subst (λ (d : ℕ). Under (K of parts (n1 * n2) d) (x times y)) (sym (bottom_by B p q p' q'))
      (within_upto ((i * j) of (parts n1 d1 by parts n2 d2)) (K of parts (n1 * n2) (d1 * d2)) (x times y) zero_number
      (mul-pos (unit_real p q) (unit_real p' q'))
      (go (i * j) K n1 n2 d1 d2 (2 ^ 30) (up_least (i * j) (2 ^ 30) (pow_pos 30)))
      (Counts.under_times i j (parts n1 d1) (parts n2 d2) x y (unit_real p q) (unit_real p' q') I h g)))
    where
      go : (m K a b c d P : ℕ) → m ≤ K * P → m * (a * b) * (c * d * P) ≤ K * (a * b) * (c * P * (d * P))
      go m K a b c d P u = let y = simp sorted at (mul-le-mul_right (a * b * (c * d * P)) u) in simp sorted (omega (arith, y))

  -- a factor and a product
  factor_under : (a b D K F : ℕ) → apart a b * F ≤ K * D → Under (K of (1 per F)) (number a b D)
  factor_under a b D K F h = record { below = one (mul-le-mul_right F (first a b)) h; above = two (mul-le-mul_right F (second a b)) h }
    where
      first : (a b : ℕ) → a ≤ b + apart a b
      first a b = omega arith

      second : (a b : ℕ) → b ≤ a + apart a b
      second a b = omega arith

      one : a * F ≤ (b + apart a b) * F → apart a b * F ≤ K * D → (a * 1 + 0 * D) * F ≤ (0 * D + b * 1) * F + K * 1 * (D * 1)
      one u v = go (apart a b) u v
        where
          go : (m : ℕ) → a * F ≤ (b + m) * F → m * F ≤ K * D → (a * 1 + 0 * D) * F ≤ (0 * D + b * 1) * F + K * 1 * (D * 1)
          go m u v = let x = simp plain at u in let y = simp plain at v in simp plain (omega (arith, x, y))

      two : b * F ≤ (a + apart a b) * F → apart a b * F ≤ K * D → (0 * D + b * 1) * F ≤ (a * 1 + 0 * D) * F + K * 1 * (1 * D)
      two u v = go (apart a b) u v
        where
          go : (m : ℕ) → b * F ≤ (a + m) * F → m * F ≤ K * D → (0 * D + b * 1) * F ≤ (a * 1 + 0 * D) * F + K * 1 * (1 * D)
          go m u v = let x = simp plain at u in let y = simp plain at v in simp plain (omega (arith, x, y))

  zero_under : (a D : ℕ) (e : Size) (M : Number) → Under e (number a a D times M)
  zero_under a D (k per c) (number p n d) = record { below = one (a * p) (a * n) (D * d); above = two (a * p) (a * n) (D * d) }
    where
      one : (s t e : ℕ) → ((s + t) * 1 + 0 * e) * c ≤ (0 * e + (t + s) * 1) * c + k * (e * 1)
      one s t e = simp plain (omega arith)

      two : (s t e : ℕ) → (0 * e + (t + s) * 1) * c ≤ ((s + t) * 1 + 0 * e) * c + k * (1 * e)
      two s t e = simp plain (omega arith)

  fine_one : 0 < 2 ^ 30 * 2 ^ 53
  fine_one = mul-pos (pow_pos 30) (pow_pos 53)

  or_by : (a b : Bool) {C : Type 0} → (T a → C) → (T b → C) → T (a || b) → C
  or_by true b f g t = f tt
  or_by false b f g t = g t

  upto_trans : (a c b d e f : ℕ) → 0 < d → a * d ≤ b * c → b * f ≤ e * d → a * f ≤ e * c
  upto_trans a c b d e f D h k = le_of_mul-le-mul_right (go (mul-le-mul_right f h) (mul-le-mul_right c k)) D
    where
      go : a * d * f ≤ b * c * f → b * f * c ≤ e * d * c → a * f * d ≤ e * c * d
      go u v = let x = simp sorted at u in let y = simp sorted at v in simp sorted (omega (arith, x, y))

  climb_upto : (n i j : ℕ) (p' q' p q : List ℕ) → get_or B i unit upto get_or B j unit → T (climb n i j p' q' p q)
      → size_by B p' q' upto size_by B p q
  climb_upto zero i j p' q' p q h t = alike_upto B p' q' p q t
  climb_upto (suc n) i j p' q' p q h t =
      or_by (alike (added p' q) (added p q')) (climb n i j (added p' (place j)) (added q' (place i)) p q) (λ u. alike_upto B p' q' p q u)
      (λ u. upto_trans (mono top B p' * mono bottom B q') (mono bottom B p' * mono top B q')
      (mono top B (added p' (place j)) * mono bottom B (added q' (place i)))
      (mono bottom B (added p' (place j)) * mono top B (added q' (place i)))
      (mono top B p * mono bottom B q) (mono bottom B p * mono top B q) (bottom_pos 32 B r (added p' (place j)) (added q' (place i)))
      (raised_upto B i j p' q' h)
      (climb_upto n i j (added p' (place j)) (added q' (place i)) p q h u)) t

  climbs_upto : (G : List Given) → AllKnown B G → (p' q' p q : List ℕ) → T (climbs G p' q' p q) → size_by B p' q' upto size_by B p q
  climbs_upto [] h p' q' p q t = alike_upto B p' q' p q t
  climbs_upto (entry x v s low ∷ G) h p' q' p q t = climbs_upto G h.1 p' q' p q t
  climbs_upto (larger i j ∷ G) h p' q' p q t =
      or_by (climb 6 i j p' q' p q) (climbs G p' q' p q) (λ u. climb_upto 6 i j p' q' p q h.0 u)
      (λ u. climbs_upto G h.1 p' q' p q u) t

  term_under : (G : List Given) → AllKnown B G → (a b d : ℕ) (e : Extent) (M : Number) (p q : List ℕ) → T (eqb a b || unit_test G e p q)
      → UnderExtent e M → Under (factor_reach a b d e roundoffs unit_by B p q) (number a b (suc d) times M)
  term_under G k a b d (extent j p' q') M p q t h = go (eqb a b) (eqb→eq a b) t
    where
      K : ℕ
      K = rounded_up (apart a b * (2 ^ 30 * 2 ^ 53)) (suc d)

      n' : ℕ
      n' = mono top B p' * mono bottom B q'

      d' : ℕ
      d' = mono bottom B p' * mono top B q'

      n'' : ℕ
      n'' = mono top B p * mono bottom B q

      d'' : ℕ
      d'' = mono bottom B p * mono top B q

      fits : (K' m n d n2 d2 P Q : ℕ) → m ≤ K' * P → n * d2 ≤ n2 * d → m * (1 * n) * (d2 * P * Q) ≤ K' * n2 * (P * Q * (d * P))
      fits K' m n d n2 d2 P Q u v = le_trans (one (mul-le-mul_right (n * d2 * P * Q) u)) (two (mul-le-mul_left (K' * P * P * Q) v))
        where
          one : m * (n * d2 * P * Q) ≤ K' * P * (n * d2 * P * Q) → m * (1 * n) * (d2 * P * Q) ≤ K' * P * P * Q * (n * d2)
          one s = let x = simp plain at s in simp plain (omega (arith, x))

          two : K' * P * P * Q * (n * d2) ≤ K' * P * P * Q * (n2 * d) → K' * P * P * Q * (n * d2) ≤ K' * n2 * (P * Q * (d * P))
          two s = let x = simp plain at s in simp plain (omega (arith, x))

      go : (c : Bool) → (T c → a ≡ b) → T (c || unit_test G (extent j p' q') p q)
          → Under (factor_reach a b d (extent j p' q') roundoffs unit_by B p q) (number a b (suc d) times M)
      go true z u = subst (λ (b' : ℕ). Under (factor_reach a b d (extent j p' q') roundoffs unit_by B p q) (number a b' (suc d) times M))
          (z tt) (zero_under a (suc d) (factor_reach a b d (extent j p' q') roundoffs unit_by B p q) M)
      go false z u =
          within_upto ((K * j) of ((1 per (2 ^ 30 * 2 ^ 53)) by parts n' d')) (rounded_up (K * j) (2 ^ 30) roundoffs parts n'' d'')
          (number a b (suc d) times M) zero_number
          (mul-pos fine_one (unit_real p' q')) (fits (rounded_up (K * j) (2 ^ 30)) (K * j) n' d' n'' d'' (2 ^ 30) (2 ^ 53)
          (up_least (K * j) (2 ^ 30) (pow_pos 30)) (climbs_upto G k p' q' p q u))
          (Counts.under_times K j (1 per (2 ^ 30 * 2 ^ 53)) (parts n' d') (number a b (suc d)) M fine_one (unit_real p' q')
          (zero-lt-suc d)
          (factor_under a b (suc d) K (2 ^ 30 * 2 ^ 53) (up_least (apart a b * (2 ^ 30 * 2 ^ 53)) (suc d) (zero-lt-suc d))) h)

  module _ (G : List Given) (h : AllKnown B G) where
    product_under : (l : List ℕ) → UnderExtent (product_extent G l) (product (numbers_of G) l)
    product_under [] = (const_under (2 ^ 30) (mono top B []) (mono bottom B []) (2 ^ 30) 1 1 (le_of_eq (mul_comm 1 (2 ^ 30)))).0
    product_under (i ∷ l) =
        times_extent_lem (extents G i) (product_extent G l) (numbers_of G i) (product (numbers_of G) l) (numbers_are G h i)
        (extents_are G h i) (product_under l)

    reach_under : (p q : List ℕ) (F : List Product) → T (units_test G p q F)
        → Under (reach_of G F roundoffs unit_by B p q) (sum_of (numbers_of G) F)
    reach_under p q [] t = Counts.itself_within zero_number (unit_by B p q)
    reach_under p q (factor a b d l ∷ F) t =
        Counts.within_roundoffs (factor_reach a b d (product_extent G l)) (reach_of G F) (unit_by B p q)
        (Poly.value_of (numbers_of G) (factor a b d l) plus sum_of (numbers_of G) F) zero_number (unit_real p q)
        (within_plus (factor_reach a b d (product_extent G l) roundoffs unit_by B p q) (reach_of G F roundoffs unit_by B p q)
        (Poly.value_of (numbers_of G) (factor a b d l)) zero_number (sum_of (numbers_of G) F) zero_number
        (term_under G h a b d (product_extent G l) (product (numbers_of G) l) p q
        (and_l (eqb a b || unit_test G (product_extent G l) p q) (units_test G p q F) t) (product_under l))
        (reach_under p q F (and_r (eqb a b || unit_test G (product_extent G l) p q) (units_test G p q F) t)))

    var_is : (i : ℕ) → numbers_of G (double i) ≡ number_of (get_or G i none)
    var_is i = go G i
      where
        go : (G : List Given) (i : ℕ) → numbers_of G (double i) ≡ number_of (get_or G i none)
        go [] i = refl
        go (g ∷ G) zero = refl
        go (g ∷ G) (suc i) = go G i

    inverse_at_lem : (i : ℕ) → numbers_of G (suc (double i)) ≡ inverse_by (low_of (get_or G i none)) (number_of (get_or G i none))
    inverse_at_lem i = go G i
      where
        go : (G : List Given) (i : ℕ) → numbers_of G (suc (double i)) ≡ inverse_by (low_of (get_or G i none)) (number_of (get_or G i none))
        go [] i = refl
        go (entry x v s low ∷ G) zero = refl
        go (larger a b ∷ G) zero = refl
        go (entry x v s low ∷ G) (suc i) = go G i
        go (larger a b ∷ G) (suc i) = go G i

    constant_is : (c : Float) → T (finite c) → evaluate (numbers_of G) (constant c) equals value_of c
    constant_is nan t = absurd t
    constant_is (inf s) t = absurd t
    constant_is (fin true m e) t = record { same = go (m * up e) (down e) (down e - 1) (one (down e) (down_pos e)) }
      where
        go : (M D E : ℕ) → suc E ≡ D → (0 * suc E + 0 * 1) * D + M * (1 * suc E) ≡ 0 * (1 * suc E) + (0 * suc E + M * 1) * D
        go M D E h = rw h (simp plain)

        one : (d : ℕ) → 0 < d → suc (d - 1) ≡ d
        one d h = omega arith
    constant_is (fin false m e) t = record { same = go (m * up e) (down e) (down e - 1) (one (down e) (down_pos e)) }
      where
        go : (M D E : ℕ) → suc E ≡ D → M * D + 0 * suc E ≡ M * suc E + 0 * D
        go M D E h = rw h refl

        one : (d : ℕ) → 0 < d → suc (d - 1) ≡ d
        one d h = omega arith

    -- ---- what cancels
    pair_one : (i j : ℕ) → T (pairs G i j) → numbers_of G i times numbers_of G j equals number 1 0 1
    pair_one i j t = go G h i j t
      where
        both : (v : Number) (n c low : ℕ) → 0 < c → IsNumber v → Reaches low n c v → v times inverse_of v equals number 1 0 1
        both (number q m e) n c low cc i r = record { same = rest (le_of_mul-le-mul_right (above r) cc) }
          where
            above : low * n * e + m * c ≤ q * c → m * c ≤ q * c
            above u = omega arith

            rest : m ≤ q → (q * e + m * 0) * 1 + 0 * (e * (q - m)) ≡ 1 * (e * (q - m)) + (q * 0 + m * e) * 1
            rest l = parted (q - m) (split l)
              where
                split : m ≤ q → q ≡ m + (q - m)
                split u = omega arith

                parted : (w : ℕ) → q ≡ m + w → (q * e + m * 0) * 1 + 0 * (e * w) ≡ 1 * (e * w) + (q * 0 + m * e) * 1
                parted w u = subst (λ (q : ℕ). (q * e + m * 0) * 1 + 0 * (e * w) ≡ 1 * (e * w) + (q * 0 + m * e) * 1) (sym u)
                    (simp plain (omega arith))

        at_low : (x : Float) (v : Number) (s : Shape) (low : ℕ) → T (ltb 0 low) → Known B x v s → Lowest B x v s low
            → v times inverse_by low v equals number 1 0 1
        at_low x v (shape k i p q) zero t k' l = absurd t
        at_low x v (shape k i p q) (suc low) t k' l =
            both v (mono top B p * mono bottom B q) (mono bottom B p * mono top B q * 2 ^ 30) (suc low)
            (mul-pos (bottom_pos 32 B r p q) (pow_pos 30)) k'.is l.1

        go : (G : List Given) → AllKnown B G → (i j : ℕ) → T (pairs G i j) → numbers_of G i times numbers_of G j equals number 1 0 1
        go [] h i j t = absurd t
        go (entry x v s low ∷ G) h zero j t =
            subst (λ (j : ℕ). v times numbers_of (entry x v s low ∷ G) j equals number 1 0 1)
            (sym (eqb→eq j 1 (and_l (eqb j 1) (ltb 0 low) t)))
            (at_low x v s low (and_r (eqb j 1) (ltb 0 low) t) h.0.0 h.0.1)
        go (entry x v s low ∷ G) h (suc zero) j t = absurd t
        go (entry x v s low ∷ G) h (suc (suc i)) zero t = absurd t
        go (entry x v s low ∷ G) h (suc (suc i)) (suc zero) t = absurd t
        go (entry x v s low ∷ G) h (suc (suc i)) (suc (suc j)) t = go G h.1 i j t
        go (larger a b ∷ G) h zero j t = absurd (and_r (eqb j 1) (ltb 0 0) t)
        go (larger a b ∷ G) h (suc zero) j t = absurd t
        go (larger a b ∷ G) h (suc (suc i)) zero t = absurd t
        go (larger a b ∷ G) h (suc (suc i)) (suc zero) t = absurd t
        go (larger a b ∷ G) h (suc (suc i)) (suc (suc j)) t = go G h.1 i j t

    abbrev x : ℕ → Number
    x = numbers_of G

    is : (i : ℕ) → IsNumber (x i)
    is i = numbers_are G h i

    one_first : (y : Number) → number 1 0 1 times y equals y
    one_first (number p n d) = record { same = simp plain }

    push_product : (i : ℕ) (l : List ℕ) → product x (push G i l) equals x i times product x l
    push_product i [] = Poly.itself
    push_product i (j ∷ l) = go (pairs G i j) (pair_one i j)
      where
        M : Number
        M = product x l

        go : (b : Bool) → (T b → x i times x j equals number 1 0 1) → product x (cond b l (i ∷ j ∷ l)) equals x i times (x j times M)
        go false k = Poly.itself
        go true k =
            symm (Poly.trans (Poly.times_is (x i times x j) M (Poly.times_is (x i) (x j) (is i) (is j)) (Poly.product_is x is l))
            (symm (Poly.assoc_times (x i) (x j) M))
            (Poly.trans (Poly.times_is (number 1 0 1) M (pow_pos 0) (Poly.product_is x is l))
            (Poly.times_equal (Poly.times_is (x i) (x j) (is i) (is j)) (pow_pos 0) (Poly.product_is x is l) (Poly.product_is x is l)
            (k tt) (Poly.itself {x = M})) (one_first M)))

    places_product : (l : List ℕ) → product x (cancelled_places G l) equals product x l
    places_product [] = Poly.itself
    places_product (i ∷ l) =
        Poly.trans (Poly.times_is (x i) (product x (cancelled_places G l)) (is i) (Poly.product_is x is (cancelled_places G l)))
        (push_product i (cancelled_places G l)) (Poly.by_left (x i) (places_product l))

    pub cancelled_sum : (F : List Product) → sum_of x (cancelled G F) equals sum_of x F
    cancelled_sum [] = Poly.itself
    cancelled_sum (factor a b d l ∷ F) =
        let t' = factor a b d (cancelled_places G l) in
        Poly.trans (Poly.plus_is (Poly.value_of x t') (sum_of x (cancelled G F)) (Poly.value_is x is t') (Poly.sum_is x is (cancelled G F)))
        (Poly.insert_sum x is t' (cancelled G F))
        (Poly.plus_equal (Poly.by_left (number a b (suc d)) (places_product l)) (cancelled_sum F))

    pub exact_is : (t : Term) → IsNumber (exact G t)
    exact_is (var i) = subst (λ (v : Number). IsNumber v) (var_is i) (is (double i))
    exact_is (const c) = Counts.value_is c
    exact_is (nought p q) = pow_pos 0
    exact_is (s add t) = Poly.plus_is (exact G s) (exact G t) (exact_is s) (exact_is t)
    exact_is (s take t) = Poly.less_is (exact G s) (exact G t) (exact_is s) (exact_is t)
    exact_is (s mul t) = Poly.times_is (exact G s) (exact G t) (exact_is s) (exact_is t)
    exact_is (s over i) = Poly.times_is (exact G s) (inverse_by (low_of (get_or G i none)) (number_of (get_or G i none))) (exact_is s)
        (subst (λ (v : Number). IsNumber v) (inverse_at_lem i) (is (suc (double i))))
    exact_is (divided c s) = Poly.times_is (exact G s) (inverse_number c) (exact_is s) (zero-lt-suc (num c - 1))
    exact_is (tight s) = exact_is s
    exact_is (raised k s) = exact_is s

    sums : (F : List Product) → IsNumber (sum_of x F)
    sums F = Poly.sum_is x is F

    minus_is : (y : Number) → IsNumber y → IsNumber (minus y)
    minus_is (number a b c) h = h

    by_place : (i : ℕ) (v : Number) → x i ≡ v → sum_of x (normal (at_place i)) equals v
    by_place i v e = subst (λ (v : Number). sum_of x (normal (at_place i)) equals v) e (symm (Poly.normal_sum x is (at_place i)))

    pub normal_is : (t : Term) → T (plain_term t) → sum_of x (normal_of G t) equals exact G t
    normal_is (var i) e = by_place (double i) (number_of (get_or G i none)) (var_is i)
    normal_is (const c) e = Poly.trans (Poly.evaluate_is x is (constant c)) (symm (Poly.normal_sum x is (constant c))) (constant_is c e)
    normal_is (nought p q) e = Poly.itself
    normal_is (s add t) e =
        Poly.trans (Poly.plus_is (sum_of x (normal_of G s)) (sum_of x (normal_of G t)) (sums (normal_of G s)) (sums (normal_of G t)))
        (Poly.added_sum x is (normal_of G s) (normal_of G t))
        (Poly.plus_equal (normal_is s (and_l (plain_term s) (plain_term t) e)) (normal_is t (and_r (plain_term s) (plain_term t) e)))
    normal_is (s take t) e =
        let A = normal_of G s in
        let C = normal_of G t in
        Poly.trans (Poly.plus_is (sum_of x A) (sum_of x (Poly.negated C)) (sums A) (sums (Poly.negated C)))
        (Poly.added_sum x is A (Poly.negated C))
        (Poly.plus_equal (normal_is s (and_l (plain_term s) (plain_term t) e))
        (Poly.trans (minus_is (sum_of x C) (sums C)) (Poly.negated_sum x is C)
        (Poly.minus_equal (normal_is t (and_r (plain_term s) (plain_term t) e)))))
    normal_is (s mul t) e =
        let A = normal_of G s in
        let C = normal_of G t in
        Poly.trans (Poly.times_is (sum_of x A) (sum_of x C) (sums A) (sums C)) (Poly.multiplied_sum x is A C)
        (Poly.times_equal (sums A) (exact_is s) (sums C) (exact_is t) (normal_is s (and_l (plain_term s) (plain_term t) e))
        (normal_is t (and_r (plain_term s) (plain_term t) e)))
    normal_is (s over i) e =
        let A = normal_of G s in
        let C = normal (at_place (suc (double i))) in
        let v = inverse_by (low_of (get_or G i none)) (number_of (get_or G i none)) in
        Poly.trans (Poly.times_is (sum_of x A) (sum_of x C) (sums A) (sums C)) (Poly.multiplied_sum x is A C)
        (Poly.times_equal (sums A) (exact_is s) (sums C) (subst (λ (v : Number). IsNumber v) (inverse_at_lem i) (is (suc (double i))))
        (normal_is s e) (by_place (suc (double i)) v (inverse_at_lem i)))
    normal_is (divided c s) e =
        let A = normal_of G s in
        let C = normal (inverse_constant c) in
        Poly.trans (Poly.times_is (sum_of x A) (sum_of x C) (sums A) (sums C)) (Poly.multiplied_sum x is A C)
        (Poly.times_equal (sums A) (exact_is s) (sums C) (zero-lt-suc (num c - 1)) (normal_is s (and_l (plain_term s) (positive c) e))
        (symm (Poly.normal_sum x is (inverse_constant c))))
    normal_is (tight s) e = Poly.trans (sums (normal_of G s)) (cancelled_sum (normal_of G s)) (normal_is s e)
    normal_is (raised k s) e = normal_is s e

    pub under_equal : (F : List Product) (v : Number) (p q : List ℕ) → T (units_test G p q F) → sum_of x F equals v
        → Under (reach_of G F roundoffs unit_by B p q) v
    under_equal F v p q t e =
        let K = reach_of G F roundoffs unit_by B p q in
        within_sym K zero_number v (within_same K zero_number (sum_of x F) v (sums F)
        (within_sym K (sum_of x F) zero_number (reach_under p q F t)) e.same)

    -- how far the exact number is from another polynomial of the variables
    abbrev pub difference_of : Term → Expression → List Product
    difference_of t target = cancelled G (Poly.added (normal_of G t) (Poly.negated (normal target)))

    difference_is : (t : Term) (target : Expression) → T (plain_term t)
        → sum_of x (difference_of t target) equals (exact G t less evaluate x target)
    difference_is t target e =
        let A = normal_of G t in
        let C = normal target in
        Poly.trans (sums (Poly.added A (Poly.negated C))) (cancelled_sum (Poly.added A (Poly.negated C)))
        (Poly.trans (Poly.plus_is (sum_of x A) (sum_of x (Poly.negated C)) (sums A) (sums (Poly.negated C)))
        (Poly.added_sum x is A (Poly.negated C))
        (Poly.plus_equal (normal_is t e) (Poly.trans (minus_is (sum_of x C) (sums C)) (Poly.negated_sum x is C)
        (Poly.minus_equal (symm (Poly.normal_sum x is target))))))

    pub exact_near : (t : Term) (target : Expression) (p q : List ℕ) → T (plain_term t && units_test G p q (difference_of t target))
        → Within (reach_of G (difference_of t target) roundoffs unit_by B p q) (exact G t) (evaluate x target)
    exact_near t target p q e =
        let D = difference_of t target in
        differ (reach_of G D roundoffs unit_by B p q) (exact G t) (evaluate x target)
        (under_equal D (exact G t less evaluate x target) p q (and_r (plain_term t) (units_test G p q D) e)
        (difference_is t target (and_l (plain_term t) (units_test G p q D) e)))
      where
        differ : (e : Size) (a b : Number) → Under e (a less b) → Within e a b
        differ (k per c) (number p n d) (number q m e) u = record { below = one u.below; above = two u.above }
          where
            one : ((p * e + m * d) * 1 + 0 * (d * e)) * c ≤ (0 * (d * e) + (n * e + q * d) * 1) * c + k * (d * e * 1)
                → (p * e + m * d) * c ≤ (q * d + n * e) * c + k * (d * e)
            one v = let x = simp plain at v in simp plain (omega (arith, x))

            two : (0 * (d * e) + (n * e + q * d) * 1) * c ≤ ((p * e + m * d) * 1 + 0 * (d * e)) * c + k * (1 * (d * e))
                → (q * d + n * e) * c ≤ (p * e + m * d) * c + k * (e * d)
            two v = let x = simp plain at v in simp plain (omega (arith, x))

    tight_known : (t : Term) (y : Float) (s : Shape) → T (plain_term t && tight_test G s (cancelled G (normal_of G t)))
        → Known B y (exact G t) s
        → Known B y (exact G t) (resized_shape s (tight_size G (cancelled G (normal_of G t))))
    tight_known t y (shape k i p q) e z =
        let N = cancelled G (normal_of G t) in
        let p' = lessened p q in
        let q' = lessened q p in
        let u = alike (added p q') (added p' q) in
        let f = and_l (plain_term t) (u && units_test G p' q' N) e in
        let g = and_r (plain_term t) (u && units_test G p' q' N) e in
        record {
          near =
              (resized (unit_by B p q) (unit_by B p' q') (unit_real p q) (in_unit_lem p q p' q' (and_l u (units_test G p' q' N) g)) z).near;
          size =
              within_upto (reach_of G N roundoffs unit_by B p' q') (tight_size G N of unit_by B p' q') (exact G t) zero_number
              (mul-pos (unit_real p' q') (pow_pos 53))
              (go (reach_of G N) (tight_size G N) (mono top B p' * mono bottom B q') (mono bottom B p' * mono top B q' * 2 ^ 30) (2 ^ 53)
              (up_least (reach_of G N) (2 ^ 53) (pow_pos 53)))
              (under_equal N (exact G t) p' q' (and_r u (units_test G p' q' N) g)
              (Poly.trans (sums (normal_of G t)) (cancelled_sum (normal_of G t)) (normal_is t f)));
          is = z.is;
        }
      where
        go : (K j n c Q : ℕ) → K ≤ j * Q → K * n * c ≤ j * n * (c * Q)
        go K j n c Q u = let x = simp sorted at (mul-le-mul_right (n * c) u) in simp sorted (omega (arith, x))

  raised_known : (G : List Given) → AllKnown B G → (k : ℕ) (x : Float) (v : Number) (s : Shape) → Known B x v s
      → Known B x v (raised_by (get_or G k none) s)
  raised_known [] h k x v s z = z
  raised_known (entry y w t low ∷ G) h zero x v s z = z
  raised_known (entry y w t low ∷ G) h (suc k) x v s z = raised_known G h.1 k x v s z
  raised_known (larger i j ∷ G) h (suc k) x v s z = raised_known G h.1 k x v s z
  raised_known (larger i j ∷ G) h zero x v (shape e l p q) z =
      resized (unit_by B p q) (unit_by B (added p (place j)) (added q (place i))) (unit_real p q)
      (go (mono top B p * mono bottom B q) (mono bottom B p * mono top B q)
      (mono top B (added p (place j)) * mono bottom B (added q (place i)))
      (mono bottom B (added p (place j)) * mono top B (added q (place i))) (2 ^ 30) (raised_upto B i j p q h.0)) z
    where
      go : (a c b d P : ℕ) → a * d ≤ b * c → a * (d * P) ≤ b * (c * P)
      go a c b d P h = let x = simp sorted at (mul-le-mul_right P h) in simp sorted (omega (arith, x))

  divisor_some : (c : Float) → T (quotient_test (const_shape c) (const_least c)) → 0 < const_least c
  divisor_some c t = go (const_least c) (ltb→lt 0 (lowest 0 (const_least c))
      (and_l (ltb 0 (lowest 0 (const_least c))) (leb (lowest 0 (const_least c) * 2 ^ 53 + 0) (const_least c * 2 ^ 53))
      (and_l (ltb 0 (lowest 0 (const_least c)) && leb (lowest 0 (const_least c) * 2 ^ 53 + 0) (const_least c * 2 ^ 53))
      (leb (inverse_size 0 (const_least c)) (2 ^ 49)) (and_l (divides 0 (const_least c)) (leb (32 * total [] + 32 * total []) 800) t))))
    where
      go : (low : ℕ) → 0 < low - (0 / 2 ^ 53 + 1) → 0 < low
      go low h = omega arith

  -- ---- the theorem
  pub sound : (G : List Given) → AllKnown B G → (t : Term) → T (ok G t) → Known B (value G t) (exact G t) (bound G t)
  sound G h (var i) e = known_at B G h i
  sound G h (const c) e = const_known c e
  sound G h (nought p q) e = nought_known p q
  sound G h (s add t) e =
      let a = and_l (ok G s && ok G t) ((fine (bound G s) && fine (bound G t)) && sum_test (bound G s) (bound G t)) e in
      let b = and_r (ok G s && ok G t) ((fine (bound G s) && fine (bound G t)) && sum_test (bound G s) (bound G t)) e in
      let c = and_l (fine (bound G s) && fine (bound G t)) (sum_test (bound G s) (bound G t)) b in
      add_known (value G s) (value G t) (exact G s) (exact G t) (bound G s) (bound G t) (and_l (fine (bound G s)) (fine (bound G t)) c)
      (and_r (fine (bound G s)) (fine (bound G t)) c)
      (and_r (fine (bound G s) && fine (bound G t)) (sum_test (bound G s) (bound G t)) b) (sound G h s (and_l (ok G s) (ok G t) a))
      (sound G h t (and_r (ok G s) (ok G t) a))
  sound G h (s take t) e =
      let a = and_l (ok G s && ok G t) ((fine (bound G s) && fine (bound G t)) && sum_test (bound G s) (bound G t)) e in
      let b = and_r (ok G s && ok G t) ((fine (bound G s) && fine (bound G t)) && sum_test (bound G s) (bound G t)) e in
      let c = and_l (fine (bound G s) && fine (bound G t)) (sum_test (bound G s) (bound G t)) b in
      take_known (value G s) (value G t) (exact G s) (exact G t) (bound G s) (bound G t) (and_l (fine (bound G s)) (fine (bound G t)) c)
      (and_r (fine (bound G s)) (fine (bound G t)) c)
      (and_r (fine (bound G s) && fine (bound G t)) (sum_test (bound G s) (bound G t)) b) (sound G h s (and_l (ok G s) (ok G t) a))
      (sound G h t (and_r (ok G s) (ok G t) a))
  sound G h (s mul t) e =
      let P = product_shape (bound G s) (bound G t) in
      let a = and_l (ok G s && ok G t) (fine (bound G s) && fine (bound G t) && fine P) e in
      let b = and_r (ok G s && ok G t) (fine (bound G s) && fine (bound G t) && fine P) e in
      let c = and_l (fine (bound G s) && fine (bound G t)) (fine P) b in
      mul_known (value G s) (value G t) (exact G s) (exact G t) (bound G s) (bound G t) (and_l (fine (bound G s)) (fine (bound G t)) c)
      (and_r (fine (bound G s)) (fine (bound G t)) c)
      (and_r (fine (bound G s) && fine (bound G t)) (fine P) b) (sound G h s (and_l (ok G s) (ok G t) a))
      (sound G h t (and_r (ok G s) (ok G t) a))
  sound G h (s over i) e =
      let y = get_or G i none in
      let P = quotient_shape (bound G s) (shape_of y) (low_of y) in
      let b = and_r (ok G s) ((fine (bound G s) && fine P) && quotient_test (shape_of y) (low_of y)) e in
      let c = and_l (fine (bound G s) && fine P) (quotient_test (shape_of y) (low_of y)) b in
      over_known (value G s) (float_of y) (exact G s) (number_of y) (bound G s) (shape_of y) (low_of y)
      (and_l (fine (bound G s)) (fine P) c)
      (and_r (fine (bound G s)) (fine P) c)
      (and_r (fine (bound G s) && fine P) (quotient_test (shape_of y) (low_of y)) b)
      (sound G h s (and_l (ok G s) ((fine (bound G s) && fine P) && quotient_test (shape_of y) (low_of y)) e))
      (known_at B G h i) (lowest_at B G h i)
  sound G h (divided c s) e =
      let low = const_least c in
      let P = quotient_shape (bound G s) (const_shape c) low in
      let a = and_r (ok G s) (divided_test c (bound G s)) e in
      let p = and_l (positive c) ((fine (bound G s) && fine P) && quotient_test (const_shape c) low) a in
      let b = and_r (positive c) ((fine (bound G s) && fine P) && quotient_test (const_shape c) low) a in
      let f = and_l (fine (bound G s) && fine P) (quotient_test (const_shape c) low) b in
      let q = and_r (fine (bound G s) && fine P) (quotient_test (const_shape c) low) b in
      subst (λ (v : Number). Known B (value G s ⊘ c) (exact G s times v) P) (inverse_const low c p (divisor_some c q))
      (over_known (value G s) c (exact G s) (value_of c) (bound G s) (const_shape c) low (and_l (fine (bound G s)) (fine P) f)
      (and_r (fine (bound G s)) (fine P) f) q (sound G h s (and_l (ok G s) (divided_test c (bound G s)) e))
      (const_known c (positive-finite c p)) (const_lowest c low p (div-mul-le_self (num c * 2 ^ 30) (den c))))
  sound G h (tight s) e =
      let t = plain_term s && tight_test G (bound G s) (cancelled G (normal_of G s)) in
      tight_known G h s (value G s) (bound G s) (and_r (ok G s) t e) (sound G h s (and_l (ok G s) t e))
  sound G h (raised k s) e = raised_known G h k (value G s) (exact G s) (bound G s) (sound G h s e)
