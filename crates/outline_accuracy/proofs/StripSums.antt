-- The strips' values added up, and multiplied by the scale twice. Assumes nothing.
use mathlib.Core.Path.{◌≡◌, sym, ap, subst}
use mathlib.Core.Bool.{Bool, true, cond}
use mathlib.Core.List.{List, [], ◌∷◌}
use Prim.Native.Nat.{ℕ, suc, ◌+◌, ◌*◌, ◌^◌, ◌≤◌}
use native.Mathlib.Nat.{le_refl, le_trans, le_of_eq, mul-le-mul, one-mul, mul-one, zero-mul, mul-zero, zero-add, add-zero}
use native.Mathlib.Omega.{arith}
use lib.Dec.{T}
use lib.Pow.{pow_pos}
use lib.Ieee.{Float}
use lib.Ieee.Positive.{den_pos, positive, positive-finite}
use Rattle.floats.specs.Operations.{◌⊕◌, ◌⊗◌, ◌⊘◌, bits}
use Rattle.halving.specs.Halving.{halving}
use Rattle.tolerance.specs.Bounds.{total_of}
use Rattle.strips.specs.Strips.{worked_of, strip_of, pieces_of, is_accepted, value_from}
use Rattle.rounding_error.proofs.Numbers.{Number, Size, ◌by◌, ◌plus◌, ◌times◌, ◌roundoffs◌, IsNumber, Near, Ranges, zero_number, value_of}
use Rattle.rounding_error.proofs.Numbers.{size_of}
use Rattle.rounding_error.proofs.Distances.{sorted}
use Rattle.rounding_error.proofs.Counts as Counts
use Rattle.rounding_error.proofs.Chains.{Valued, counted_by, equalled, exactly, zero_valued}
use Rattle.rounding_error.proofs.Polynomials.{given, ratio, ◌add◌, equal_by, evaluated_is, AllNumbers}
use Rattle.error_terms.proofs.Laws.{plus_law, times_law}

ruleset plain = (sorted, one-mul, mul-one, zero-mul, mul-zero, zero-add, add-zero)

module _ (f : Float → List Float) (limit : ℕ) (scale : Float) (U : Size) (r : Ranges 900 U) where
  abbrev strip_total : Float → Float → Float
  strip_total h k = total_of (pieces_of (strip_of 3 f limit (h ⊘ scale) (k ⊘ scale))) 0

  -- a strip that was accepted, whose value is near a number
  pub record Worth (h k : Float) : Type 0 where
    pub worth : Number
    pub accepted : is_accepted (halving 3 f (h ⊘ scale) (k ⊘ scale) limit).ending ≡ true
    pub valued : Valued (strip_total h k) worth 181 2 U

  abbrev pub Worths : List Float → Type 0
  Worths [] = Unit {0}
  Worths (h ∷ []) = Unit {0}
  Worths (h ∷ k ∷ l) = Worth h k × Worths (k ∷ l)

  abbrev pub numbers : (heights : List Float) → Worths heights → Number
  numbers [] w = zero_number
  numbers (h ∷ []) w = zero_number
  numbers (h ∷ k ∷ l) w = w.0.worth plus numbers (k ∷ l) w.1

  abbrev pub strips : List Float → ℕ
  strips [] = 0
  strips (h ∷ []) = 0
  strips (h ∷ k ∷ l) = suc (strips (k ∷ l))

  pub numbers_is : (heights : List Float) (w : Worths heights) → IsNumber (numbers heights w)
  numbers_is [] w = pow_pos 0
  numbers_is (h ∷ []) w = pow_pos 0
  numbers_is (h ∷ k ∷ l) w = Counts.plus_is w.0.worth (numbers (k ∷ l) w.1) w.0.valued.is (numbers_is (k ∷ l) w.1)

  worked_on_lem : (h k : Float) (l : List Float) → is_accepted (halving 3 f (h ⊘ scale) (k ⊘ scale) limit).ending ≡ true
      → worked_of 3 f limit scale (h ∷ k ∷ l) ≡ strip_of 3 f limit (h ⊘ scale) (k ⊘ scale) ∷ worked_of 3 f limit scale (k ∷ l)
  unfolding worked_of
  worked_on_lem h k l e = ap (λ (b : Bool). strip_of 3 f limit (h ⊘ scale) (k ⊘ scale) ∷ cond b (worked_of 3 f limit scale (k ∷ l)) []) e

  -- after n strips
  abbrev errors : ℕ → ℕ
  errors n = n * (184 + n)

  one_more : (n : ℕ) → suc (2 * n) + suc 2 + (n * (184 + n) + 181) ≤ suc n * (184 + suc n)
  one_more n = simp plain (omega arith)

  no_strip_lem : (heights : List Float) → (acc : Float) (A : Number) (n : ℕ) → Valued acc A (errors n) (2 * n) U → Valued acc
      (A plus zero_number) (errors (n + 0)) (2 * (n + 0)) U
  no_strip_lem heights acc A n v =
      subst (λ (m : ℕ). Valued acc (A plus zero_number) (errors m) (2 * m) U) (sym (add-zero n))
      (equalled v (A plus zero_number) (Counts.plus_is A zero_number v.is (pow_pos 0))
      (equal_by (A ∷ []) (v.is, tt) (given 0) (given 0 add ratio 0 0) tt))

  few_errors : (n : ℕ) → n ≤ 65 → errors n ≤ 2 ^ 53
  few_errors n l = le_trans (mul-le-mul l (more l)) (omega arith)
    where
      more : n ≤ 65 → 184 + n ≤ 249
      more h = omega (arith, h)

  pub summed : (heights : List Float) (w : Worths heights) (acc : Float) (A : Number) (n : ℕ) → n + strips heights ≤ 65 → Valued acc A
      (errors n) (2 * n) U
      → Valued (value_from acc 0 (worked_of 3 f limit scale heights)) (A plus numbers heights w) (errors (n + strips heights))
      (2 * (n + strips heights)) U
  unfolding worked_of
  summed [] w acc A n l v = no_strip_lem [] acc A n v
  summed (h ∷ []) w acc A n l v = no_strip_lem (h ∷ []) acc A n v
  summed (h ∷ k ∷ rest) w acc A n l v =
      let t = strip_total h k in
      let s = w.0.worth in
      let R = numbers (k ∷ rest) w.1 in
      let R_is = numbers_is (k ∷ rest) w.1 in
      let m = strips (k ∷ rest) in
      let next = plus_law U r (few_errors n (omega (arith, l))) (omega arith) (omega (arith, l)) v w.0.valued in
      let counted = counted_by next (errors (suc n)) (2 * suc n) r.real (one_more n) (omega arith) in
      let rec = summed (k ∷ rest) w.1 (acc ⊕ t) (A plus s) (suc n) (omega (arith, l)) counted in
      let list = A ∷ s ∷ R ∷ [] in
      let list_is : AllNumbers list = (v.is, (w.0.valued.is, (R_is, tt))) in
      subst (λ (x : Float). Valued x (A plus (s plus R)) (errors (n + suc m)) (2 * (n + suc m)) U)
      (sym (ap (value_from acc 0) (worked_on_lem h k rest w.0.accepted)))
      (subst (λ (i : ℕ). Valued (value_from (acc ⊕ t) 0 (worked_of 3 f limit scale (k ∷ rest))) (A plus (s plus R)) (errors i) (2 * i) U)
      (turn n m)
      (equalled rec (A plus (s plus R)) (evaluated_is list list_is (given 0 add (given 1 add given 2)))
      (equal_by list list_is (given 0 add given 1 add given 2) (given 0 add (given 1 add given 2)) tt)))
    where
      turn : (n m : ℕ) → suc n + m ≡ n + suc m
      turn n m = omega arith

  -- ---- times the scale, twice
  module _ (heights : List Float) (w : Worths heights) (some : 1 ≤ strips heights) (most : strips heights ≤ 65) (p : T (positive scale))
      (once : Ranges 900 (U by size_of scale)) (twice : Ranges 900 (U by size_of scale by size_of scale)) where
    abbrev n : ℕ
    n = strips heights

    abbrev T' : Float
    T' = value_from (bits 0) 0 (worked_of 3 f limit scale heights)

    abbrev E : Number
    E = value_of (bits 0) plus numbers heights w

    total : Valued T' E (errors n) (2 * n) U
    total =
        subst (λ (m : ℕ). Valued T' E (errors m) (2 * m) U) (zero-add n)
        (summed heights w (bits 0) (value_of (bits 0)) 0 (le_trans (le_of_eq (zero-add n)) most) (zero_valued U))

    scaled : Valued scale (value_of scale) 0 1 (size_of scale)
    scaled = exactly scale 1 (size_of scale) (positive-finite scale p) (Counts.own_size scale p)

    size_few : suc (2 * n) * suc 1 ≤ 2 ^ 100
    size_few = omega (arith, most)

    first : Valued (T' ⊗ scale) (E times value_of scale) (errors n + 4 * n + 2) (2 * n) (U by size_of scale)
    first =
        counted_by (times_law U (size_of scale) once r.real (den_pos scale) (few_errors n most) (omega arith) size_few total scaled)
        (errors n + 4 * n + 2) (2 * n) once.real (count (errors n)) (omega arith)
      where
        count : (k : ℕ) → suc (2 * n) * suc 1 + (suc (2 * n) * 0 + 1 * k) ≤ k + 4 * n + 2
        count k = omega arith

    first_few : errors n + 4 * n + 2 ≤ 2 ^ 53
    first_few = let k = few_more n most in omega (arith, k)
      where
        few_more : (n : ℕ) → n ≤ 65 → errors n + 4 * n + 2 ≤ 2 ^ 53
        few_more n l = let k = mul-le-mul l (more l) in omega (arith, k, l)
          where
            more : n ≤ 65 → 184 + n ≤ 249
            more h = omega (arith, h)

    pub area_near : Near (T' ⊗ scale ⊗ scale) (E times value_of scale times value_of scale)
        ((n * (n + 196)) roundoffs (U by size_of scale by size_of scale))
    area_near =
        (counted_by (times_law (U by size_of scale) (size_of scale) twice once.real (den_pos scale) first_few (omega arith) size_few first
        scaled)
        (n * (n + 196)) (2 * n * 1) twice.real (count n some) (le_refl _)).near
      where
        count : (n : ℕ) → 1 ≤ n → suc (2 * n) * suc 1 + (suc (2 * n) * 0 + 1 * (n * (184 + n) + 4 * n + 2)) ≤ n * (n + 196)
        count n h = simp plain (omega (arith, h))
