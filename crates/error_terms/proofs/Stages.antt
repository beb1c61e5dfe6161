-- A computed f64 as an input of further terms: its target's size, and what the target is at least, are computed too. Assumes nothing.
use mathlib.Core.Bool.{Bool, ◌&&◌}
use mathlib.Core.List.{List}
use Prim.Native.Nat.{ℕ, suc, ◌*◌, ◌^◌, ◌≤◌}
use native.Mathlib.Nat.{mul-pos, mul-le-mul_right}
use native.Mathlib.Omega.{arith}
use lib.Dec.{T, leb, leb→le}
use lib.Pow.{pow_pos}
use lib.Ieee.{Float}
use lib.Ieee.Fits.{and_l, and_r}
use Rattle.rounding_error.proofs.Numbers.{Number, Size, ◌of◌, ◌roundoffs◌, IsNumber, Near, zero_number}
use Rattle.rounding_error.proofs.Distances.{sorted, within_upto}
use Rattle.rounding_error.proofs.Counts as Counts
use Rattle.rounding_error.proofs.Polynomials as Poly
use Rattle.rounding_error.proofs.Polynomials.{Expression, Product, normal, evaluate, sum_of, ◌equals◌, symm}
use Rattle.error_terms.proofs.Monomials.{top, bottom, mono, AllRanges, top_pos}
use Rattle.error_terms.proofs.Laws.{up_least}
use Rattle.error_terms.proofs.Terms.{shape, Given, extent, numbers_of, cancelled, unit_by, units_test, reach_of, tight_size}
use Rattle.error_terms.proofs.Terms.{Known, Lowest, AllKnown}
use Rattle.error_terms.proofs.Sound.{unit_real, numbers_are, cancelled_sum, under_equal}
use Rattle.error_terms.proofs.Floors.{Signed, ReachesBy, floor_of, rising, sum_low, equal_reaches}
use Rattle.error_terms.proofs.Orders.{near_above, finer}
use Rattle.error_terms.proofs.Shares.{weaker}

-- the target as a sum of products, less what cancels
abbrev pub target_of : List Given → Expression → List Product
target_of G target = cancelled G (normal target)

abbrev pub size_test : List Given → Expression → ℕ → List ℕ → List ℕ → Bool
size_test G target i p q = units_test G p q (target_of G target) && leb (tight_size G (target_of G target)) i

abbrev pub low_test : List Given → Expression → ℕ → ℕ → List ℕ → List ℕ → Bool
low_test G target K low p q =
    rising (target_of G target) && (leb (suc low) (floor_of G p q (target_of G target)) && leb (suc K)
    (floor_of G p q (target_of G target) * 2 ^ 53))

module _ (B : List Size) (r : AllRanges 32 B) (G : List Given) (h : AllKnown B G) where
  abbrev x : ℕ → Number
  x = numbers_of G

  is : (i : ℕ) → IsNumber (x i)
  is i = numbers_are B r G h i

  target_is : (target : Expression) → sum_of x (target_of G target) equals evaluate x target
  target_is target = Poly.trans (Poly.sum_is x is (normal target)) (cancelled_sum B r G h (normal target))
      (symm (Poly.normal_sum x is target))

  -- an f64 near its target, whose size passes the test
  pub target_known : (y : Float) (target : Expression) (K i : ℕ) (p q : List ℕ) → Near y (evaluate x target) (K roundoffs unit_by B p q)
      → T (size_test G target i p q) → Known B y (evaluate x target) (shape K i p q)
  target_known y target K i p q n t =
      let F = target_of G target in
      let u = and_l (units_test G p q F) (leb (tight_size G F) i) t in
      let l = leb→le (tight_size G F) i (and_r (units_test G p q F) (leb (tight_size G F) i) t) in
      record {
        near = n;
        size =
            Counts.more_of (tight_size G F) i (unit_by B p q) (evaluate x target) (unit_real B r p q) l
            (within_upto (reach_of G F roundoffs unit_by B p q) (tight_size G F of unit_by B p q) (evaluate x target) zero_number
            (mul-pos (unit_real B r p q) (pow_pos 53))
            (whole (reach_of G F) (tight_size G F) (mono top B p * mono bottom B q) (mono bottom B p * mono top B q * 2 ^ 30) (2 ^ 53)
            (up_least (reach_of G F) (2 ^ 53) (pow_pos 53)))
            (under_equal B r G h F (evaluate x target) p q u (target_is target)));
        is = Poly.evaluate_is x is target;
      }
    where
      whole : (K j n c Q : ℕ) → K ≤ j * Q → K * n * c ≤ j * n * (c * Q)
      whole K j n c Q u = let x = simp sorted at (mul-le-mul_right (n * c) u) in simp sorted (omega (arith, x))

  -- and that is at least so many parts, where no entry is below 0
  pub target_lowest : Signed G → (y : Float) (target : Expression) (K i low : ℕ) (p q : List ℕ)
      → Near y (evaluate x target) (K roundoffs unit_by B p q)
      → T (low_test G target K low p q) → Lowest B y (evaluate x target) (shape K i p q) (suc low)
  target_lowest s y target K i low p q n t =
      let F = target_of G target in
      let fl = floor_of G p q F in
      let m = leb (suc low) fl && leb (suc K) (fl * 2 ^ 53) in
      let N = mono top B p * mono bottom B q in
      let c = mono bottom B p * mono top B q * 2 ^ 30 in
      let a = and_r (rising F) m t in
      let v = evaluate x target in
      let reaches : ReachesBy B (extent fl p q) v =
      equal_reaches fl N c (Poly.sum_is x is F) (target_is target) (sum_low B r G h s p q F (and_l (rising F) m t)) in (
        near_above y v K N c (top_pos 32 B r p q) (unit_real B r p q) (Poly.evaluate_is x is target) n
            (finer fl N c (suc K) (2 ^ 53) v (leb→le (suc K) (fl * 2 ^ 53) (and_r (leb (suc low) fl) (leb (suc K) (fl * 2 ^ 53)) a))
            reaches),
        weaker fl (suc low) N c v (leb→le (suc low) fl (and_l (leb (suc low) fl) (leb (suc K) (fl * 2 ^ 53)) a)) reaches,
      )
