-- The bound, the tests and the polynomial of a term in one pass, so that a checker computes each part once. Assumes nothing.
use mathlib.Core.Path.{◌≡◌, refl, sym, ap, ap₂, subst}
use mathlib.Core.Bool.{Bool, true, ◌&&◌}
use mathlib.Core.List.{List, []}
use Prim.Native.Nat.{ℕ, suc, ◌+◌, ◌*◌, ◌^◌, ◌≤◌}
use native.Mathlib.Nat.{le_trans, mul-pos, mul-le-mul_right}
use native.Mathlib.Omega.{arith}
use lib.Dec.{T, leb, leb→le}
use lib.Pow.{pow_pos}
use lib.ListN.{get_or}
use lib.Ieee.{Float}
use lib.Ieee.Scale.{finite}
use lib.Ieee.Positive.{positive}
use lib.Ieee.Fits.{and_l, and_r}
use Rattle.rounding_error.proofs.Numbers.{Size, ◌of◌, ◌roundoffs◌, zero_number, value_of, Under, Near}
use Rattle.rounding_error.proofs.Distances.{sorted, within_trans, within_upto}
use Rattle.rounding_error.proofs.Counts as Counts
use Rattle.rounding_error.proofs.Chains.{reach}
use Rattle.rounding_error.proofs.Polynomials as Poly
use Rattle.rounding_error.proofs.Polynomials.{Expression, given as at_place, Product, normal, evaluate}
use Rattle.error_terms.proofs.Monomials.{top, bottom, mono, AllRanges, added, alike}
use Rattle.error_terms.proofs.Terms.{Shape, shape, Given, none, shape_of, low_of, Term, var, const, nought, divided, tight, const_shape}
use Rattle.error_terms.proofs.Terms.{const_least, divided_test, inverse_constant, raised, raised_by, ◌add◌, ◌take◌, ◌mul◌, ◌over◌, value}
use Rattle.error_terms.proofs.Terms.{exact, bound, ok, fine, sum_test, sum_shape, product_shape, quotient_shape, quotient_test, double}
use Rattle.error_terms.proofs.Terms.{constant, normal_of, plain_term, numbers_of, cancelled, tight_size, tight_test, resized_shape}
use Rattle.error_terms.proofs.Terms.{units_test, reach_of, unit_by, Known, AllKnown}
use Rattle.error_terms.proofs.Sound.{unit_real, in_unit_lem, sound, exact_near}

pub data Judged : Type 0 where
  judged : (okay plain : Bool) → Shape → List Product → Judged

abbrev pub add_judged : Judged → Judged → Judged
add_judged (judged a b s F) (judged c d t H) = judged ((a && c) && ((fine s && fine t) && sum_test s t)) (b && d) (sum_shape s t)
    (Poly.added F H)

abbrev pub take_judged : Judged → Judged → Judged
take_judged (judged a b s F) (judged c d t H) = judged ((a && c) && ((fine s && fine t) && sum_test s t)) (b && d) (sum_shape s t)
    (Poly.added F (Poly.negated H))

abbrev pub mul_judged : Judged → Judged → Judged
mul_judged (judged a b s F) (judged c d t H) = judged ((a && c) && (fine s && fine t && fine (product_shape s t))) (b && d)
    (product_shape s t) (Poly.multiplied F H)

abbrev pub over_judged : Judged → Shape → ℕ → ℕ → Judged
over_judged (judged a b s F) t low i =
    judged (a && ((fine s && fine (quotient_shape s t low)) && quotient_test t low)) b (quotient_shape s t low)
    (Poly.multiplied F (normal (at_place i)))

abbrev pub divided_judged : Float → Judged → Judged
divided_judged c (judged a b s F) = judged (a && divided_test c s) (b && positive c) (quotient_shape s (const_shape c) (const_least c))
    (Poly.multiplied F (normal (inverse_constant c)))

abbrev pub tight_judged : List Given → Judged → Judged
tight_judged G (judged a b s F) = judged (a && (b && tight_test G s (cancelled G F))) b (resized_shape s (tight_size G (cancelled G F)))
    (cancelled G F)

abbrev pub raised_judged : Given → Judged → Judged
raised_judged g (judged a b s F) = judged a b (raised_by g s) F

abbrev pub judge : List Given → Term → Judged
judge G (var i) = judged true true (shape_of (get_or G i none)) (normal (at_place (double i)))
judge G (const c) = judged (finite c) (finite c) (const_shape c) (normal (constant c))
judge G (nought p q) = judged true true (shape 0 0 p q) []
judge G (s add t) = add_judged (judge G s) (judge G t)
judge G (s take t) = take_judged (judge G s) (judge G t)
judge G (s mul t) = mul_judged (judge G s) (judge G t)
judge G (s over i) = over_judged (judge G s) (shape_of (get_or G i none)) (low_of (get_or G i none)) (suc (double i))
judge G (divided c s) = divided_judged c (judge G s)
judge G (tight s) = tight_judged G (judge G s)
judge G (raised k s) = raised_judged (get_or G k none) (judge G s)

pub judgement : (G : List Given) (t : Term) → judge G t ≡ judged (ok G t) (plain_term t) (bound G t) (normal_of G t)
judgement G (var i) = refl
judgement G (const c) = refl
judgement G (nought p q) = refl
judgement G (s add t) = ap₂ (λ (a b : Judged). add_judged a b) (judgement G s) (judgement G t)
judgement G (s take t) = ap₂ (λ (a b : Judged). take_judged a b) (judgement G s) (judgement G t)
judgement G (s mul t) = ap₂ (λ (a b : Judged). mul_judged a b) (judgement G s) (judgement G t)
judgement G (s over i) = ap (λ (a : Judged). over_judged a (shape_of (get_or G i none)) (low_of (get_or G i none)) (suc (double i)))
    (judgement G s)
judgement G (divided c s) = ap (λ (a : Judged). divided_judged c a) (judgement G s)
judgement G (tight s) = ap (λ (a : Judged). tight_judged G a) (judgement G s)
judgement G (raised k s) = ap (λ (a : Judged). raised_judged (get_or G k none) a) (judgement G s)

-- ---- what is asked of a term and of the polynomial that it is to be near; and how far it then is, in parts of a roundoff
abbrev pub difference_by : List Given → List Product → Expression → List Product
difference_by G F target = cancelled G (Poly.added F (Poly.negated (normal target)))

abbrev pub passes : List Given → Expression → Judged → Bool
passes G target (judged a b (shape k i p q) F) = a && (b && units_test G p q (difference_by G F target))

abbrev pub error_of : List Given → Expression → Judged → ℕ
error_of G target (judged a b (shape k i p q) F) = k + reach_of G (difference_by G F target)

abbrev pub unit_of : List Size → Judged → Size
unit_of B (judged a b (shape k i p q) F) = unit_by B p q

-- the theorem with a target: the f64 is near the target's exact value
pub near_target : (B : List Size) → AllRanges 32 B → (G : List Given) → AllKnown B G → (t : Term) (target : Expression)
    → T (passes G target (judge G t))
    → Near (value G t) (evaluate (numbers_of G) target) (error_of G target (judge G t) roundoffs unit_of B (judge G t))
near_target B r G h t target e =
    subst (λ (j : Judged). Near (value G t) (evaluate (numbers_of G) target) (error_of G target j roundoffs unit_of B j))
    (sym (judgement G t))
    (go (bound G t) (λ z. sound B r G h t z) (subst (λ (j : Judged). T (passes G target j)) (judgement G t) e))
  where
    go : (s : Shape) → (T (ok G t) → Known B (value G t) (exact G t) s)
        → T (passes G target (judged (ok G t) (plain_term t) s (normal_of G t)))
        → Near (value G t) (evaluate (numbers_of G) target)
        (error_of G target (judged (ok G t) (plain_term t) s (normal_of G t)) roundoffs unit_of B
        (judged (ok G t) (plain_term t) s (normal_of G t)))
    go (shape k i p q) s e =
        let D = difference_by G (normal_of G t) target in
        let K = reach_of G D in
        let z = s (and_l (ok G t) (plain_term t && units_test G p q D) e) in
        record {
          finite = z.near.finite;
          within =
              Counts.within_roundoffs k K (unit_by B p q) (value_of (value G t)) (evaluate (numbers_of G) target) (unit_real B r p q)
              (within_trans (k roundoffs unit_by B p q) (K roundoffs unit_by B p q) (value_of (value G t)) (exact G t)
              (evaluate (numbers_of G) target) z.is z.near.within
              (exact_near B r G h t target p q (and_r (ok G t) (plain_term t && units_test G p q D) e)));
        }

-- in a unit of one's choice, and a number of roundoffs
abbrev pub in_unit : List ℕ → List ℕ → Judged → Bool
in_unit p' q' (judged a b (shape k i p q) F) = alike (added p q') (added p' q)

-- all that is asked, in one test
abbrev pub nearer : List Given → Expression → ℕ → List ℕ → List ℕ → Judged → Bool
nearer G target K p q j = passes G target j && (leb (error_of G target j) K && in_unit p q j)

pub near_within : (B : List Size) → AllRanges 32 B → (G : List Given) → AllKnown B G
    → (t : Term) (target : Expression) (K : ℕ) (p q : List ℕ) → T (nearer G target K p q (judge G t))
    → Near (value G t) (evaluate (numbers_of G) target) (K roundoffs unit_by B p q)
near_within B r G h t target K p q e =
    let j = judge G t in
    let f = and_r (passes G target j) (leb (error_of G target j) K && in_unit p q j) e in
    go j (near_target B r G h t target (and_l (passes G target j) (leb (error_of G target j) K && in_unit p q j) e))
    (and_l (leb (error_of G target j) K) (in_unit p q j) f)
    (and_r (leb (error_of G target j) K) (in_unit p q j) f)
  where
    go : (j : Judged) → Near (value G t) (evaluate (numbers_of G) target) (error_of G target j roundoffs unit_of B j)
        → T (leb (error_of G target j) K) → T (in_unit p q j)
        → Near (value G t) (evaluate (numbers_of G) target) (K roundoffs unit_by B p q)
    go (judged a b (shape k i p' q') F) n l u =
        let N = error_of G target (judged a b (shape k i p' q') F) in
        record {
          finite = n.finite;
          within =
              within_upto (N roundoffs unit_by B p' q') (K roundoffs unit_by B p q) (value_of (value G t)) (evaluate (numbers_of G) target)
              (mul-pos (unit_real B r p' q') (pow_pos 53))
              (fits N (mono top B p' * mono bottom B q') (mono bottom B p' * mono top B q' * 2 ^ 30) (mono top B p * mono bottom B q)
              (mono bottom B p * mono top B q * 2 ^ 30) (2 ^ 53) (leb→le N K l) (in_unit_lem B r p' q' p q u)) n.within;
        }
      where
        fits : (N n d n2 d2 Q : ℕ) → N ≤ K → n * d2 ≤ n2 * d → N * n * (d2 * Q) ≤ K * n2 * (d * Q)
        fits N n d n2 d2 Q u v = le_trans (one (mul-le-mul_right (n * d2 * Q) u)) (two (mul-le-mul_right (K * Q) v))
          where
            one : N * (n * d2 * Q) ≤ K * (n * d2 * Q) → N * n * (d2 * Q) ≤ n * d2 * (K * Q)
            one s = let x = simp sorted at s in simp sorted (omega (arith, x))

            two : n * d2 * (K * Q) ≤ n2 * d * (K * Q) → n * d2 * (K * Q) ≤ K * n2 * (d * Q)
            two s = let x = simp sorted at s in simp sorted (omega (arith, x))

-- how large the f64 itself is, in a unit of one's choice
abbrev pub reaching : ℕ → List ℕ → List ℕ → Judged → Bool
reaching J p q (judged a b (shape k i p' q') F) = a && (leb k (2 ^ 53) && (leb (suc i) J && alike (added p' q) (added p q')))

pub reach_within : (B : List Size) → AllRanges 32 B → (G : List Given) → AllKnown B G → (t : Term) (J : ℕ) (p q : List ℕ)
    → T (reaching J p q (judge G t)) → Under (J of unit_by B p q) (value_of (value G t))
reach_within B r G h t J p q e =
    go (bound G t) (λ z. sound B r G h t z) (subst (λ (j : Judged). T (reaching J p q j)) (judgement G t) e)
  where
    go : (s : Shape) → (T (ok G t) → Known B (value G t) (exact G t) s)
        → T (reaching J p q (judged (ok G t) (plain_term t) s (normal_of G t))) → Under (J of unit_by B p q) (value_of (value G t))
    go (shape k i p' q') s e =
        let u = alike (added p' q) (added p q') in
        let m = leb (suc i) J && u in
        let a = and_r (ok G t) (leb k (2 ^ 53) && m) e in
        let b = and_r (leb k (2 ^ 53)) m a in
        within_upto (suc i of unit_by B p' q') (J of unit_by B p q) (value_of (value G t)) zero_number (unit_real B r p' q')
        (fits (suc i) (mono top B p' * mono bottom B q') (mono bottom B p' * mono top B q' * 2 ^ 30) (mono top B p * mono bottom B q)
        (mono bottom B p * mono top B q * 2 ^ 30) (leb→le (suc i) J (and_l (leb (suc i) J) u b))
        (in_unit_lem B r p' q' p q (and_r (leb (suc i) J) u b)))
        (reach (s (and_l (ok G t) (leb k (2 ^ 53) && m) e)) (unit_real B r p' q') (leb→le k (2 ^ 53) (and_l (leb k (2 ^ 53)) m a)))
      where
        fits : (j n d n2 d2 : ℕ) → j ≤ J → n * d2 ≤ n2 * d → j * n * d2 ≤ J * n2 * d
        fits j n d n2 d2 u v = le_trans (one (mul-le-mul_right (n * d2) u)) (two (mul-le-mul_right J v))
          where
            one : j * (n * d2) ≤ J * (n * d2) → j * n * d2 ≤ n * d2 * J
            one s = simp sorted (omega (arith, s))

            two : n * d2 * J ≤ n2 * d * J → n * d2 * J ≤ J * n2 * d
            two s = let x = simp sorted at s in simp sorted (omega (arith, x))
