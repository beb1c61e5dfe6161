-- The program's test of a component, in general: an error is at most a share ε of a sum, by one test on the two terms. Assumes nothing.
use mathlib.Core.Path.{◌≡◌, refl, sym, subst}
use mathlib.Core.Bool.{Bool, true, false, ◌&&◌}
use mathlib.Core.List.{List, [], ◌∷◌}
use Prim.Native.Nat.{ℕ, suc, ◌+◌, ◌-◌, ◌*◌, ◌/◌, ◌^◌, ◌≤◌, zero-le}
use native.Mathlib.Nat.{le_refl, le_trans, le_of_eq, mul-le-mul_right, one-mul, mul-one, zero-mul, mul-zero, zero-add, add-zero}
use native.Mathlib.Nat.{div-mul-le_self}
use native.Mathlib.Omega.{arith}
use lib.Dec.{T, leb, leb→le}
use lib.Pow.{pow_pos}
use lib.Ieee.{Float, nan, inf, fin, le}
use lib.Ieee.Positive.{num, den, positive}
use lib.Ieee.Fits.{and_l, and_r}
use Rattle.floats.specs.Operations.{◌⊕◌, ◌⊗◌, bits}
use Rattle.floats.specs.Floats.{abs_of}
use Rattle.rounding_error.proofs.Numbers.{Number, number, Size, ◌plus◌, ◌less◌, ◌times◌, ◌roundoffs◌, Near, zero_number, value_of}
use Rattle.rounding_error.proofs.Distances.{sorted}
use Rattle.rounding_error.proofs.Chains.{Valued}
use Rattle.rounding_error.proofs.Polynomials.{Expression, ratio, ◌equals◌}
use Rattle.error_terms.proofs.Monomials.{top, bottom, mono, added, alike, AllRanges}
use Rattle.error_terms.proofs.Laws.{Reaches}
use Rattle.error_terms.proofs.Terms.{Shape, shape, Given, entry, extent, Term, var, const, nought, ◌add◌, ◌mul◌, value, exact, bound}
use Rattle.error_terms.proofs.Terms.{ok, cancelled, unit_by, units_test, reach_of, AllKnown}
use Rattle.error_terms.proofs.Sound.{unit_real, sound}
use Rattle.error_terms.proofs.Judged.{Judged, judged, judge, passes, error_of, unit_of, difference_by, near_target}
use Rattle.error_terms.proofs.Floors.{Signed, ReachesBy, floor_of, rising, equal_reaches, factor_reaches, not_below}
use Rattle.error_terms.proofs.Orders.{near_le, near_abs, finer, moved, Facts, facts}

ruleset plain = (sorted, one-mul, mul-one, zero-mul, mul-zero, zero-add, add-zero)

-- ---- a component: K roundoffs of error, sums to f parts or more
abbrev pub second : Float → Float → Number → ℕ → ℕ → ℕ → List ℕ → List ℕ → List Given
second x y v K l j p q = entry x zero_number (shape K 0 p q) 0 ∷ entry y v (shape l j p q) 0 ∷ []

abbrev error_t : List ℕ → List ℕ → Term
error_t p q = nought p q add var 0

abbrev bound_t : Float → Term
bound_t ε = const ε mul var 1

abbrev share : Float → ℕ → ℕ
share ε f = num ε * 2 ^ 53 * f / den ε

abbrev pub error_in : Shape → ℕ
error_in (shape k i p q) = k

abbrev pub enough : Float → ℕ → ℕ → ℕ → List ℕ → List ℕ → ℕ → Bool
enough ε K l j p q f =
    (ok (second (bits 0) (bits 0) zero_number K l j p q) (error_t p q) && ok (second (bits 0) (bits 0) zero_number K l j p q) (bound_t ε))
    && leb (suc 0 + suc 0 + (0 + K) + error_in (bound (second (bits 0) (bits 0) zero_number K l j p q) (bound_t ε))) (share ε f)

abbrev zero_e : Expression
zero_e = ratio 0 0

abbrev pub accepts : Float → List Given → Judged → Judged → Bool
accepts ε G (judged a b (shape k i p q) F) (judged a' b' (shape l j p' q') F') =
    (a && (b && units_test G p q (difference_by G F zero_e)))
    && ((a' && b') && (alike (added p q') (added p' q) &&
    (rising (cancelled G F') && enough ε (k + reach_of G (difference_by G F zero_e)) l j p' q' (floor_of G p' q' (cancelled G F')))))

pub weaker : (F K n c : ℕ) (v : Number) → K ≤ F → Reaches F n c v → Reaches K n c v
weaker F K n c (number q m e) u h = go (mul-le-mul_right (n * e) u) h
  where
    go : K * (n * e) ≤ F * (n * e) → F * n * e + m * c ≤ q * c → K * n * e + m * c ≤ q * c
    go s t = let y = simp sorted at t in simp sorted (omega (arith, s, y))

pub positive_value : (y : Float) → T (positive y) → value_of y ≡ number (num y) 0 (den y)
positive_value nan p = absurd p
positive_value (inf s) p = absurd p
positive_value (fin true m e) p = absurd p
positive_value (fin false m e) p = refl

less_nothing : (v : Number) → v equals (v less (zero_number plus zero_number))
less_nothing (number p n d) = record { same = simp plain }

module _ (ε : Float) (ε-positive : T (positive ε)) (B : List Size) (r : AllRanges 32 B) (G : List Given) (h : AllKnown B G)
    (s : Signed G) where
  near_bound : (x y : Float) (v : Number) (K l j : ℕ) (p q : List ℕ) (f : ℕ) → Near x zero_number (K roundoffs unit_by B p q)
      → Valued y v l j (unit_by B p q)
      → ReachesBy B (extent f p q) v → T (enough ε K l j p q f) → T (le (bits 0 ⊕ abs_of x) (ε ⊗ abs_of y))
  near_bound x y v K l j p q f n z w e =
      let G2 = second (abs_of x) (abs_of y) v K l j p q in
      let N = mono top B p * mono bottom B q in
      let c = mono bottom B p * mono top B q * 2 ^ 30 in
      let all : AllKnown B G2 = (
        (
          record {
            near = near_abs x zero_number (K roundoffs unit_by B p q) zero-le n;
            size = (sound B r [] tt
                (nought p q) tt).size;
            is = pow_pos 0;
          },
          tt,
        ),
        (
          (
            record {
              near = near_abs y v (l roundoffs unit_by B p q) (not_below f N c v (unit_real B r p q) w)
                  z.near;
              size = z.size;
              is = z.is;
            },
            tt,
          ),
          tt,
        ),
      ) in
      let oks = ok G2 (error_t p q) && ok G2 (bound_t ε) in
      let m = error_in (bound G2 (bound_t ε)) in
      let few = leb (suc 0 + suc 0 + (0 + K) + m) (share ε f) in
      let a = sound B r G2 all (error_t p q) (and_l (ok G2 (error_t p q)) (ok G2 (bound_t ε)) (and_l oks few e)) in
      let b = sound B r G2 all (bound_t ε) (and_r (ok G2 (error_t p q)) (ok G2 (bound_t ε)) (and_l oks few e)) in
      let W = value_of ε times v in
      near_le (bits 0 ⊕ abs_of x) (ε ⊗ abs_of y) (zero_number plus zero_number) W (suc 0 + suc 0 + (0 + K)) m N c (unit_real B r p q)
      a.is b.is a.near b.near
      (equal_reaches (suc 0 + suc 0 + (0 + K) + m) N (c * 2 ^ 53) b.is (less_nothing W)
      (weaker (share ε f) (suc 0 + suc 0 + (0 + K) + m) N (c * 2 ^ 53) W
      (leb→le (suc 0 + suc 0 + (0 + K) + m) (share ε f) (and_r oks few e))
      (subst (λ (y : Number). Reaches (share ε f) N (c * 2 ^ 53) (y times v)) (sym (positive_value ε ε-positive))
      (factor_reaches (num ε) 0 (den ε) (f * 2 ^ 53) (share ε f) N (c * 2 ^ 53) v zero-le (shared f)
      (finer f N c (f * 2 ^ 53) (2 ^ 53) v (le_refl _) w)))))
    where
      shared : (f : ℕ) → num ε * 2 ^ 53 * f / den ε * den ε ≤ (num ε - 0) * (f * 2 ^ 53)
      shared f = le_trans (div-mul-le_self (num ε * 2 ^ 53 * f) (den ε)) (le_of_eq (go (num ε) (2 ^ 53)))
        where
          go : (a Q : ℕ) → a * Q * f ≡ (a - 0) * (f * Q)
          go a Q = same a Q (zero_off a)
            where
              zero_off : (a : ℕ) → a - 0 ≡ a
              zero_off a = omega arith

              same : (a Q : ℕ) → a - 0 ≡ a → a * Q * f ≡ (a - 0) * (f * Q)
              same a Q e = rw e (simp sorted)

  -- the error is at most ε·|sum|, both summed over one piece
  pub accepted : (e t : Term) → T (accepts ε G (judge G e) (judge G t)) → T (le (bits 0 ⊕ abs_of (value G e)) (ε ⊗ abs_of (value G t)))
  accepted e t a = go (judge G e) (judge G t) (λ z. near_target B r G h e zero_e z) (facts B r G h s t) a
    where
      go : (x y : Judged) → (T (passes G zero_e x) → Near (value G e) zero_number (error_of G zero_e x roundoffs unit_of B x))
          → Facts B r G h s t y
          → T (accepts ε G x y)
          → T (le (bits 0 ⊕ abs_of (value G e)) (ε ⊗ abs_of (value G t)))
      go (judged a b (shape k i p q) F) (judged a' b' (shape l j p' q') F') n f z =
          let K = k + reach_of G (difference_by G F zero_e) in
          let D = cancelled G F' in
          let fl = floor_of G p' q' D in
          let u = alike (added p q') (added p' q) in
          let m = enough ε K l j p' q' fl in
          let z0 = and_l (a && (b && units_test G p q (difference_by G F zero_e))) ((a' && b') && (u && (rising D && m))) z in
          let z1 = and_r (a && (b && units_test G p q (difference_by G F zero_e))) ((a' && b') && (u && (rising D && m))) z in
          let z2 = and_l (a' && b') (u && (rising D && m)) z1 in
          let z3 = and_r (a' && b') (u && (rising D && m)) z1 in
          let z4 = and_r u (rising D && m) z3 in
          near_bound (value G e) (value G t) (exact G t) K l j p' q' fl
          (moved B r G h s (value G e) zero_number K p q p' q' (and_l u (rising D && m) z3) (n z0)) (f.0 (and_l a' b' z2))
          (f.1 (and_r a' b' z2) (and_l (rising D) m z4) p' q') (and_r (rising D) m z4)
