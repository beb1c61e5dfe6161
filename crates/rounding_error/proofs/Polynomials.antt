-- Equal polynomials of numbers by one computed test: `polynomials_equal`. A polynomial is brought to a sum of products
-- of variables, each product with one factor (p − n)/(d + 1). Assumes nothing.
use mathlib.Core.Path.{◌≡◌, refl, sym, ap, subst}
use mathlib.Core.Bool.{Bool, true, false, ◌&&◌, cond}
use mathlib.Core.List.{List, [], ◌∷◌}
use Prim.Native.Nat.{ℕ, zero, suc, ◌+◌, ◌*◌}
use native.Mathlib.Nat.{mul-pos, one-mul, mul-one, zero-mul, mul-zero, zero-add, add-zero, eq_of_mul-eq-mul_right, zero-lt-suc}
use native.Mathlib.Omega.{arith}
use lib.Dec.{T, eqb, leb, eqb→eq}
use lib.ListN.{get_or}
use lib.Ieee.Fits.{and_l, and_r}
use lib.Pow.{pow_pos}
use Rattle.rounding_error.proofs.Numbers.{Number, number, ◌plus◌, minus, ◌less◌, ◌times◌, IsNumber, Same, zero_number}
use Rattle.rounding_error.proofs.Distances.{sorted}

ruleset plain = (sorted, one-mul, mul-one, zero-mul, mul-zero, zero-add, add-zero)

-- ---- equal numbers, as a record, so that the two are found from a proof
infix 50 ◌equals◌
pub record ◌equals◌ (x y : Number) : Type 0 where
  pub same : Same x y

pub plus_is : (x y : Number) → IsNumber x → IsNumber y → IsNumber (x plus y)
plus_is (number p n d) (number q m e) h k = mul-pos h k

pub less_is : (x y : Number) → IsNumber x → IsNumber y → IsNumber (x less y)
less_is (number p n d) (number q m e) h k = mul-pos h k

pub times_is : (x y : Number) → IsNumber x → IsNumber y → IsNumber (x times y)
times_is (number p n d) (number q m e) h k = mul-pos h k

pub trans : {x y z : Number} → IsNumber y → x equals y → y equals z → x equals z
trans {x = number p n d} {y = number q m e} {z = number r k f} E h i =
    record {
      same = eq_of_mul-eq-mul_right e E (p * f + k * d) (r * d + n * f)
          (all (ap (λ (t : ℕ). t * f) h.same) (ap (λ (t : ℕ). t * d) i.same));
    }
  where
    all : (p * e + m * d) * f ≡ (q * d + n * e) * f → (q * f + k * e) * d ≡ (r * e + m * f) * d → (p * f + k * d) * e ≡ (r * d + n * f) * e
    all u v = let x = simp sorted at u in let y = simp sorted at v in simp sorted (omega (arith, x, y))

pub symm : {x y : Number} → x equals y → y equals x
symm {x = number p n d} {y = number q m e} h = record { same = sym h.same }

pub itself : {x : Number} → x equals x
itself {x = number p n d} = record { same = refl }

pub plus_equal : {x y z w : Number} → x equals y → z equals w → x plus z equals y plus w
plus_equal {x = number p n d} {y = number q m e} {z = number r k f} {w = number s j i} h l =
    record { same = all (ap (λ (t : ℕ). t * (f * i)) h.same) (ap (λ (t : ℕ). t * (d * e)) l.same) }
  where
    all : (p * e + m * d) * (f * i) ≡ (q * d + n * e) * (f * i) → (r * i + j * f) * (d * e) ≡ (s * f + k * i) * (d * e)
        → (p * f + r * d) * (e * i) + (m * i + j * e) * (d * f) ≡ (q * i + s * e) * (d * f) + (n * f + k * d) * (e * i)
    all u v = let x = simp sorted at u in let y = simp sorted at v in simp sorted (omega (arith, x, y))

pub minus_equal : {x y : Number} → x equals y → minus x equals minus y
minus_equal {x = number p n d} {y = number q m e} h = record { same = go h.same }
  where
    go : p * e + m * d ≡ q * d + n * e → n * e + q * d ≡ m * d + p * e
    go u = omega arith

pub by_left : (w : Number) {x y : Number} → x equals y → w times x equals w times y
by_left (number r k f) {x = number p n d} {y = number q m e} h = record
    { same = all (ap (λ (t : ℕ). r * f * t) h.same) (ap (λ (t : ℕ). k * f * t) (sym h.same)) }
  where
    all : r * f * (p * e + m * d) ≡ r * f * (q * d + n * e) → k * f * (q * d + n * e) ≡ k * f * (p * e + m * d)
        → (r * p + k * n) * (f * e) + (r * m + k * q) * (f * d) ≡ (r * q + k * m) * (f * d) + (r * n + k * p) * (f * e)
    all u v = let x = simp sorted at u in let y = simp sorted at v in simp sorted (omega (arith, x, y))

pub commute : (x y : Number) → x times y equals y times x
commute (number p n d) (number q m e) = record { same = simp sorted (omega arith) }

pub times_equal : {x y z w : Number} → IsNumber x → IsNumber y → IsNumber z → IsNumber w → x equals y → z equals w
    → x times z equals y times w
times_equal {x = x} {y = y} {z = z} {w = w} ix iy iz iw h k =
    trans (times_is (x) (w) ix iw) (by_left x k)
    (trans (times_is (w) (x) iw ix) (commute x w) (trans (times_is (w) (y) iw iy) (by_left w h) (commute w y)))

-- ---- laws of a ring
swap_plus : (a b c : Number) → a plus (b plus c) equals b plus (a plus c)
swap_plus (number p n d) (number q m e) (number r k f) = record { same = simp sorted (omega arith) }

assoc_plus : (a b c : Number) → (a plus b) plus c equals a plus (b plus c)
assoc_plus (number p n d) (number q m e) (number r k f) = record { same = simp sorted (omega arith) }

swap_times : (a b c : Number) → a times (b times c) equals b times (a times c)
swap_times (number p n d) (number q m e) (number r k f) = record { same = simp sorted (omega arith) }

pub assoc_times : (a b c : Number) → (a times b) times c equals a times (b times c)
assoc_times (number p n d) (number q m e) (number r k f) = record { same = simp sorted (omega arith) }

over_plus : (a b c : Number) → a times (b plus c) equals (a times b) plus (a times c)
over_plus (number p n d) (number q m e) (number r k f) = record { same = simp sorted (omega arith) }

plus_over : (a b c : Number) → (a plus b) times c equals (a times c) plus (b times c)
plus_over (number p n d) (number q m e) (number r k f) = record { same = simp sorted (omega arith) }

zero_first : (x : Number) → x equals zero_number plus x
zero_first (number p n d) = record { same = simp plain }

-- ---- a product of variables, by their places in rising order
abbrev pub product : (ℕ → Number) → List ℕ → Number
product x [] = number 1 0 1
product x (i ∷ l) = x i times product x l

abbrev pub insert_place : ℕ → List ℕ → List ℕ
insert_place i [] = i ∷ []
insert_place i (j ∷ l) = cond (leb i j) (i ∷ j ∷ l) (j ∷ insert_place i l)

abbrev pub merged : List ℕ → List ℕ → List ℕ
merged [] k = k
merged (i ∷ l) k = insert_place i (merged l k)

abbrev pub same_places : List ℕ → List ℕ → Bool
same_places [] [] = true
same_places [] (j ∷ k) = false
same_places (i ∷ l) [] = false
same_places (i ∷ l) (j ∷ k) = eqb i j && same_places l k

-- ---- a polynomial: products, each times (p − n)/(d + 1)
pub data Product : Type 0 where
  factor : ℕ → ℕ → ℕ → List ℕ → Product

-- (d + 1)·(e + 1) is one more than this
abbrev pub times' : ℕ → ℕ → ℕ
times' d e = d * e + d + e

abbrev pub value_of : (ℕ → Number) → Product → Number
value_of x (factor p n d l) = number p n (suc d) times product x l

abbrev pub sum_of : (ℕ → Number) → List Product → Number
sum_of x [] = zero_number
sum_of x (t ∷ P) = value_of x t plus sum_of x P

abbrev pub insert : Product → List Product → List Product
insert t [] = t ∷ []
insert (factor p n d l) (factor q m e k ∷ P) =
    cond (same_places l k) (factor (p * suc e + q * suc d) (n * suc e + m * suc d) (times' d e) k ∷ P)
    (factor q m e k ∷ insert (factor p n d l) P)

abbrev pub added : List Product → List Product → List Product
added [] Q = Q
added (t ∷ P) Q = insert t (added P Q)

abbrev pub negated : List Product → List Product
negated [] = []
negated (factor p n d l ∷ P) = factor n p d l ∷ negated P

abbrev pub times_each : Product → List Product → List Product
times_each t [] = []
times_each (factor p n d l) (factor q m e k ∷ P) = insert (factor (p * q + n * m) (p * m + n * q) (times' d e) (merged l k))
    (times_each (factor p n d l) P)

abbrev pub multiplied : List Product → List Product → List Product
multiplied [] Q = []
multiplied (t ∷ P) Q = added (times_each t Q) (multiplied P Q)

-- ---- expressions
infixl 65 ◌add◌
infixl 65 ◌take◌
infixl 70 ◌mul◌
pub data Expression : Type 0 where
  given : ℕ → Expression
  ratio : ℕ → ℕ → Expression
  ◌add◌ ◌take◌ ◌mul◌ : Expression → Expression → Expression

abbrev pub evaluate : (ℕ → Number) → Expression → Number
evaluate x (given i) = x i
evaluate x (ratio p d) = number p 0 (suc d)
evaluate x (s add t) = evaluate x s plus evaluate x t
evaluate x (s take t) = evaluate x s less evaluate x t
evaluate x (s mul t) = evaluate x s times evaluate x t

abbrev pub normal : Expression → List Product
normal (given i) = factor 1 0 0 (i ∷ []) ∷ []
normal (ratio p d) = factor p 0 d [] ∷ []
normal (s add t) = added (normal s) (normal t)
normal (s take t) = added (normal s) (negated (normal t))
normal (s mul t) = multiplied (normal s) (normal t)

abbrev pub vanishes : List Product → Bool
vanishes [] = true
vanishes (factor p n d l ∷ P) = eqb p n && vanishes P

places_same : (l k : List ℕ) → T (same_places l k) → l ≡ k
places_same [] [] t = refl
places_same [] (j ∷ k) t = absurd t
places_same (i ∷ l) [] t = absurd t
places_same (i ∷ l) (j ∷ k) t = cc (eqb→eq i j (and_l (eqb i j) (same_places l k) t), places_same l k (and_r (eqb i j) (same_places l k) t))

-- over the parts of the numbers
join_parts : (p n q m D E a b c r s f : ℕ)
    → Same ((number (p * E + q * D) (n * E + m * D) (D * E) times number a b c) plus number r s f)
    ((number p n D times number a b c) plus ((number q m E times number a b c) plus number r s f))
join_parts p n q m D E a b c r s f = simp plain (omega arith)

negate_parts : (p n D a b c r s f : ℕ)
    → Same ((number n p D times number a b c) plus minus (number r s f)) (minus ((number p n D times number a b c) plus number r s f))
negate_parts p n D a b c r s f = simp plain (omega arith)

product_parts : (p n q m D E a b c r s f : ℕ)
    → Same (number (p * q + n * m) (p * m + n * q) (D * E) times (number a b c times number r s f))
    ((number p n D times number a b c) times (number q m E times number r s f))
product_parts p n q m D E a b c r s f = simp plain (omega arith)

zero_parts : (a b c : ℕ) → Same zero_number (number a b c times zero_number)
zero_parts a b c = simp plain (omega arith)

vanish_parts : (n D a b c : ℕ) → Same (number n n D times number a b c) zero_number
vanish_parts n D a b c = simp plain (omega arith)

one_more : (d e : ℕ) → suc (times' d e) ≡ suc d * suc e
one_more d e = omega arith

module _ (x : ℕ → Number) (is : (i : ℕ) → IsNumber (x i)) where
  pub product_is : (l : List ℕ) → IsNumber (product x l)
  product_is [] = pow_pos 0
  product_is (i ∷ l) = times_is (x i) (product x l) (is i) (product_is l)

  pub value_is : (t : Product) → IsNumber (value_of x t)
  value_is (factor p n d l) = times_is (number p n (suc d)) (product x l) (zero-lt-suc d) (product_is l)

  pub sum_is : (P : List Product) → IsNumber (sum_of x P)
  sum_is [] = pow_pos 0
  sum_is (t ∷ P) = plus_is (value_of x t) (sum_of x P) (value_is t) (sum_is P)

  pub evaluate_is : (t : Expression) → IsNumber (evaluate x t)
  evaluate_is (given i) = is i
  evaluate_is (ratio p d) = zero-lt-suc d
  evaluate_is (s add t) = plus_is (evaluate x s) (evaluate x t) (evaluate_is s) (evaluate_is t)
  evaluate_is (s take t) = less_is (evaluate x s) (evaluate x t) (evaluate_is s) (evaluate_is t)
  evaluate_is (s mul t) = times_is (evaluate x s) (evaluate x t) (evaluate_is s) (evaluate_is t)

  insert_place_lem : (i : ℕ) (l : List ℕ) → product x (insert_place i l) equals x i times product x l
  insert_place_lem i [] = itself
  insert_place_lem i (j ∷ l) = go (insert_place_lem i l) (leb i j)
    where
      go : product x (insert_place i l) equals x i times product x l → (b : Bool)
          → product x (cond b (i ∷ j ∷ l) (j ∷ insert_place i l)) equals x i times (x j times product x l)
      go h true = itself
      go h false =
          trans (times_is (x j) (x i times product x l) (is j) (times_is (x i) (product x l) (is i) (product_is l))) (by_left (x j) h)
          (swap_times (x j) (x i) (product x l))

  merged_product : (l k : List ℕ) → product x (merged l k) equals product x l times product x k
  merged_product [] k = one_first (product x k)
    where
      one_first : (y : Number) → y equals number 1 0 1 times y
      one_first (number p n d) = record { same = simp plain }
  merged_product (i ∷ l) k =
      trans (times_is (x i) (product x (merged l k)) (is i) (product_is (merged l k))) (insert_place_lem i (merged l k))
      (trans (times_is (x i) (product x l times product x k) (is i) (times_is (product x l) (product x k) (product_is l) (product_is k)))
      (by_left (x i) (merged_product l k))
      (symm (assoc_times (x i) (product x l) (product x k))))

  pub insert_sum : (t : Product) (P : List Product) → sum_of x (insert t P) equals value_of x t plus sum_of x P
  insert_sum t [] = itself
  insert_sum (factor p n d l) (factor q m e k ∷ P) = go (insert_sum (factor p n d l) P) (same_places l k) (places_same l k)
    where
      both : (D E : ℕ) (M Y : Number)
          → (number (p * E + q * D) (n * E + m * D) (D * E) times M) plus Y equals (number p n D times M) plus
          ((number q m E times M) plus Y)
      both D E (number a b c) (number r s f) = record { same = join_parts p n q m D E a b c r s f }

      one : Product
      one = factor p n d l

      other : Product
      other = factor q m e k

      go : sum_of x (insert one P) equals value_of x one plus sum_of x P → (b : Bool) → (T b → l ≡ k)
          → sum_of x (cond b (factor (p * suc e + q * suc d) (n * suc e + m * suc d) (times' d e) k ∷ P) (other ∷ insert one P)) equals
          value_of x one plus (value_of x other plus sum_of x P)
      go h true s =
          subst (λ (l : List ℕ). sum_of x (factor (p * suc e + q * suc d) (n * suc e + m * suc d) (times' d e) k ∷ P) equals value_of x
          (factor p n d l) plus (value_of x other plus sum_of x P)) (sym (s tt))
          (subst (λ (c : ℕ). (number (p * suc e + q * suc d) (n * suc e + m * suc d) c times product x k) plus sum_of x P equals
          (number p n (suc d) times product x k) plus (value_of x other plus sum_of x P)) (sym (one_more d e))
          (both (suc d) (suc e) (product x k) (sum_of x P)))
      go h false s =
          trans (plus_is (value_of x other) (value_of x one plus sum_of x P) (value_is other)
          (plus_is (value_of x one) (sum_of x P) (value_is one) (sum_is P)))
          (plus_equal (itself {x = value_of x other}) h) (swap_plus (value_of x other) (value_of x one) (sum_of x P))

  pub added_sum : (P Q : List Product) → sum_of x (added P Q) equals sum_of x P plus sum_of x Q
  added_sum [] Q = zero_first (sum_of x Q)
  added_sum (t ∷ P) Q =
      trans (plus_is (value_of x t) (sum_of x (added P Q)) (value_is t) (sum_is (added P Q))) (insert_sum t (added P Q))
      (trans (plus_is (value_of x t) (sum_of x P plus sum_of x Q) (value_is t) (plus_is (sum_of x P) (sum_of x Q) (sum_is P) (sum_is Q)))
      (plus_equal (itself {x = value_of x t}) (added_sum P Q))
      (symm (assoc_plus (value_of x t) (sum_of x P) (sum_of x Q))))

  pub negated_sum : (P : List Product) → sum_of x (negated P) equals minus (sum_of x P)
  negated_sum [] = itself
  negated_sum (factor p n d l ∷ P) =
      trans (plus_is (value_of x (factor n p d l)) (minus (sum_of x P)) (value_is (factor n p d l)) (minus_is (sum_of x P) (sum_is P)))
      (plus_equal (itself {x = value_of x (factor n p d l)}) (negated_sum P)) (both (suc d) (product x l) (sum_of x P))
    where
      minus_is : (y : Number) → IsNumber y → IsNumber (minus y)
      minus_is (number a b c) h = h

      both : (D : ℕ) (M Y : Number) → (number n p D times M) plus minus Y equals minus ((number p n D times M) plus Y)
      both D (number a b c) (number r s f) = record { same = negate_parts p n D a b c r s f }

  times_each_lem : (t : Product) (P : List Product) → sum_of x (times_each t P) equals value_of x t times sum_of x P
  times_each_lem (factor p n d l) [] = none (value_of x (factor p n d l))
    where
      none : (M : Number) → zero_number equals M times zero_number
      none (number a b c) = record { same = zero_parts a b c }
  times_each_lem (factor p n d l) (factor q m e k ∷ P) =
      let one = factor p n d l in
      let c = factor (p * q + n * m) (p * m + n * q) (times' d e) (merged l k) in
      let L = product x l in
      let K = product x k in
      let A = value_of x one in
      let B = value_of x (factor q m e k) in
      let Y = sum_of x P in
      let i_a : IsNumber A = value_is one in
      let i_b : IsNumber B = value_is (factor q m e k) in
      let i_lk : IsNumber (L times K) = times_is L K (product_is l) (product_is k) in
      let C = number (p * q + n * m) (p * m + n * q) (suc (times' d e)) in
      let h : value_of x c equals A times B =
      trans (times_is C (L times K) (zero-lt-suc (times' d e)) i_lk) (by_left C (merged_product l k))
      (subst (λ (f : ℕ). number (p * q + n * m) (p * m + n * q) f times (L times K) equals A times B) (sym (one_more d e))
      (both (suc d) (suc e) L K)) in
      trans (plus_is (value_of x c) (sum_of x (times_each one P)) (value_is c) (sum_is (times_each one P)))
      (insert_sum c (times_each one P))
      (trans (plus_is (A times B) (A times Y) (times_is A B i_a i_b) (times_is A Y i_a (sum_is P))) (plus_equal h (times_each_lem one P))
      (symm (over_plus A B Y)))
    where
      both : (D E : ℕ) (L K : Number)
          → number (p * q + n * m) (p * m + n * q) (D * E) times (L times K) equals (number p n D times L) times (number q m E times K)
      both D E (number a b c) (number r s f) = record { same = product_parts p n q m D E a b c r s f }

  pub multiplied_sum : (P Q : List Product) → sum_of x (multiplied P Q) equals sum_of x P times sum_of x Q
  multiplied_sum [] Q = none (sum_of x Q)
    where
      none : (Y : Number) → zero_number equals zero_number times Y
      none (number a b c) = record { same = simp plain }
  multiplied_sum (t ∷ P) Q =
      let A = value_of x t in
      let B = sum_of x P in
      let C = sum_of x Q in
      trans (plus_is (sum_of x (times_each t Q)) (sum_of x (multiplied P Q)) (sum_is (times_each t Q)) (sum_is (multiplied P Q)))
      (added_sum (times_each t Q) (multiplied P Q))
      (trans (plus_is (A times C) (B times C) (times_is (A) (C) (value_is t) (sum_is Q)) (times_is (B) (C) (sum_is P) (sum_is Q)))
      (plus_equal (times_each_lem t Q) (multiplied_sum P Q)) (symm (plus_over A B C)))

  pub normal_sum : (t : Expression) → evaluate x t equals sum_of x (normal t)
  normal_sum (given i) = alone (x i)
    where
      alone : (y : Number) → y equals (number 1 0 1 times (y times number 1 0 1)) plus zero_number
      alone (number a b c) = record { same = simp plain }
  normal_sum (ratio p d) = record { same = simp plain }
  normal_sum (s add t) =
      trans (plus_is (sum_of x (normal s)) (sum_of x (normal t)) (sum_is (normal s)) (sum_is (normal t)))
      (plus_equal (normal_sum s) (normal_sum t)) (symm (added_sum (normal s) (normal t)))
  normal_sum (s take t) =
      trans (less_is (sum_of x (normal s)) (sum_of x (normal t)) (sum_is (normal s)) (sum_is (normal t)))
      (plus_equal (normal_sum s) (minus_equal (normal_sum t)))
      (trans (plus_is (sum_of x (normal s)) (sum_of x (negated (normal t))) (sum_is (normal s)) (sum_is (negated (normal t))))
      (plus_equal (itself {x = sum_of x (normal s)}) (symm (negated_sum (normal t)))) (symm (added_sum (normal s) (negated (normal t)))))
  normal_sum (s mul t) =
      trans (times_is (sum_of x (normal s)) (sum_of x (normal t)) (sum_is (normal s)) (sum_is (normal t)))
      (times_equal (evaluate_is s) (sum_is (normal s)) (evaluate_is t) (sum_is (normal t)) (normal_sum s) (normal_sum t))
      (symm (multiplied_sum (normal s) (normal t)))

  vanishing : (P : List Product) → T (vanishes P) → sum_of x P equals zero_number
  vanishing [] t = itself
  vanishing (factor p n d l ∷ P) t =
      trans (plus_is zero_number zero_number (pow_pos 0) (pow_pos 0))
      (plus_equal (none (suc d) (product x l) (eqb→eq p n (and_l (eqb p n) (vanishes P) t))) (vanishing P (and_r (eqb p n) (vanishes P) t)))
      (symm (zero_first zero_number))
    where
      none : (D : ℕ) (M : Number) → p ≡ n → number p n D times M equals zero_number
      none D (number a b c) e = subst (λ (p : ℕ). number p n D times number a b c equals zero_number) (sym e)
          (record { same = vanish_parts n D a b c })

  -- for concrete expressions the test is `tt`
  pub polynomials_equal : (s t : Expression) → T (vanishes (normal (s take t))) → evaluate x s equals evaluate x t
  polynomials_equal s t h =
      apart (evaluate x s) (evaluate x t) (trans (sum_is (normal (s take t))) (normal_sum (s take t)) (vanishing (normal (s take t)) h))
    where
      apart : (a b : Number) → a less b equals zero_number → a equals b
      apart (number p n d) (number q m e) k = record { same = go k.same }
        where
          go : (p * e + m * d) * 1 + 0 * (d * e) ≡ 0 * (d * e) + (n * e + q * d) * 1 → p * e + m * d ≡ q * d + n * e
          go u = omega arith

-- ---- with the variables' values in a list
abbrev pub among : List Number → ℕ → Number
among l i = get_or l i zero_number

abbrev pub AllNumbers : List Number → Type 0
AllNumbers [] = Unit {0}
AllNumbers (x ∷ l) = IsNumber x × AllNumbers l

among_is : (l : List Number) → AllNumbers l → (i : ℕ) → IsNumber (among l i)
among_is [] h i = pow_pos 0
among_is (x ∷ l) h zero = h.0
among_is (x ∷ l) h (suc i) = among_is l h.1 i

pub equal_by : (l : List Number) → AllNumbers l → (s t : Expression) → T (vanishes (normal (s take t)))
    → evaluate (among l) s equals evaluate (among l) t
equal_by l h s t v = polynomials_equal (among l) (among_is l h) s t v

pub evaluated_is : (l : List Number) → AllNumbers l → (t : Expression) → IsNumber (evaluate (among l) t)
evaluated_is l h t = evaluate_is (among l) (among_is l h) t

-- at equal numbers
abbrev pub AllEqual : List Number → List Number → Type 0
AllEqual [] [] = Unit {0}
AllEqual [] (y ∷ k) = ⊥
AllEqual (x ∷ l) [] = ⊥
AllEqual (x ∷ l) (y ∷ k) = (x equals y) × AllEqual l k

among_equal : (l k : List Number) → AllEqual l k → (i : ℕ) → among l i equals among k i
among_equal [] [] h i = itself
among_equal [] (y ∷ k) h i = absurd h
among_equal (x ∷ l) [] h i = absurd h
among_equal (x ∷ l) (y ∷ k) h zero = h.0
among_equal (x ∷ l) (y ∷ k) h (suc i) = among_equal l k h.1 i

pub evaluated_equal : (l k : List Number) → AllNumbers l → AllNumbers k → AllEqual l k → (t : Expression)
    → evaluate (among l) t equals evaluate (among k) t
evaluated_equal l k il ik h (given i) = among_equal l k h i
evaluated_equal l k il ik h (ratio p d) = itself
evaluated_equal l k il ik h (s add t) = plus_equal (evaluated_equal l k il ik h s) (evaluated_equal l k il ik h t)
evaluated_equal l k il ik h (s take t) = plus_equal (evaluated_equal l k il ik h s) (minus_equal (evaluated_equal l k il ik h t))
evaluated_equal l k il ik h (s mul t) =
    times_equal (evaluated_is l il s) (evaluated_is k ik s) (evaluated_is l il t) (evaluated_is k ik t) (evaluated_equal l k il ik h s)
    (evaluated_equal l k il ik h t)
