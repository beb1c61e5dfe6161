-- The four operations on f64s that are near exact numbers: errors and sizes in parts of a unit, 2^30 parts to one. Assumes nothing.
use mathlib.Core.Path.{◌≡◌, sym, subst}
use mathlib.Core.Bool.{true, false}
use Prim.Native.Nat.{ℕ, zero, suc, ◌+◌, ◌-◌, ◌*◌, ◌/◌, ◌%◌, ◌^◌, ◌≤◌, ◌<◌}
use native.Mathlib.Nat.{le_trans, le_of_eq, mul-pos, mul-le-mul, mul-le-mul_left, mul-le-mul_right, le_of_mul-le-mul_right, one-mul}
use native.Mathlib.Nat.{mul-one, zero-mul, mul-zero, zero-add, add-zero, div-add-mod', mod-lt}
use native.Mathlib.Omega.{arith}
use lib.Dec.{T}
use lib.Pow.{pow-add, pow_pos, pow_mono}
use lib.Ieee.{Float, nan, inf, fin, up, down}
use lib.Ieee.Positive.{num, den, positive}
use Rattle.floats.specs.Operations.{◌⊕◌, ◌⊖◌, ◌⊗◌, ◌⊘◌}
use Rattle.rounding.proofs.Monotone.{positive_num}
use Rattle.rounding_error.proofs.Numbers.{Number, number, Size, ◌per◌, ◌plus◌, minus, ◌less◌, ◌times◌, ◌over◌, ◌by◌, ◌of◌, ◌roundoffs◌}
use Rattle.rounding_error.proofs.Numbers.{IsNumber, IsSize, Within, Under, zero_number, value_of, Near, Normal, Ranges}
use Rattle.rounding_error.proofs.Distances.{sorted, within_sym, within_same, within_upto, within_trans, within_plus, within_minus}
use Rattle.rounding_error.proofs.Operations.{add_exact, sub_exact, mul_exact, div_exact}
use Rattle.rounding_error.proofs.Counts as Counts
use Rattle.rounding_error.proofs.Polynomials.{symm}
use Rattle.rounding_error.proofs.Chains.{Valued, reach, over_is_times}

ruleset plain = (sorted, one-mul, mul-one, zero-mul, mul-zero, zero-add, add-zero)

-- ---- the least whole number of parts
abbrev pub rounded_up : ℕ → ℕ → ℕ
rounded_up n d = n / d + 1

pub up_least : (n d : ℕ) → 0 < d → n ≤ rounded_up n d * d
up_least n d h = go (n / d) (n % d) (div-add-mod' n d) (mod-lt n h)
  where
    go : (q r : ℕ) → q * d + r ≡ n → r < d → n ≤ (q + 1) * d
    go q r e l = omega arith

-- ---- m parts of a unit from 2^-900 to 2^900 are a normal size
pub normal_size : (m : ℕ) (B : Size) → 1 ≤ m → m ≤ 2 ^ 100 → Ranges 900 B → Normal (m of B)
normal_size m (a per c) l h t =
    record {
      real = t.real;
      least = le_trans t.least (mul-le-mul (le_trans (le_of_eq (sym (one-mul a))) (mul-le-mul_right a l))
          (pow_mono {i = 900} {j = 1022} (omega arith)));
      most = le_trans (mul-le-mul h t.most)
          (le_trans (le_of_eq (go (2 ^ 100) c (2 ^ 900)))
          (mul-le-mul_left c (le_trans (le_of_eq (sym (pow-add 2 900 100))) (pow_mono {i = 1000} {j = 1022} (omega arith)))));
    }
  where
    go : (x c y : ℕ) → x * (c * y) ≡ c * (y * x)
    go x c y = simp sorted

combined : (z : Float) (w v : Number) (m r : ℕ) (B : Size) → IsSize B → IsNumber w → Near z w (m roundoffs B) → Within (r roundoffs B) w v
    → Near z v ((m + r) roundoffs B)
combined z w v m r B C I n h =
    record {
      finite = n.finite;
      within = Counts.within_roundoffs m r B (value_of z) v C
          (within_trans (m roundoffs B) (r roundoffs B) (value_of z) w v I n.within h);
    }

one_at_least : (i n : ℕ) → 1 ≤ suc i + n
one_at_least i n = omega arith

product_some : (i j : ℕ) → 1 ≤ suc i * suc j
product_some i j = omega arith

-- ---- sums and differences, in one unit
module _ {x y : Float} {u v : Number} {k l i j : ℕ} where
  pub plus_law : (B : Size) → Ranges 900 B → k ≤ 2 ^ 53 → l ≤ 2 ^ 53 → suc i + suc j ≤ 2 ^ 100 → Valued x u k i B → Valued y v l j B
      → Valued (x ⊕ y) (u plus v) (suc i + suc j + (k + l)) (i + j) B
  plus_law (a per c) t kk ll m h g =
      let B = a per c in
      record {
        near =
            combined (x ⊕ y) (value_of x plus value_of y) (u plus v) (suc i + suc j) (k + l) B t.real
            (Counts.plus_is (value_of x) (value_of y) (Counts.value_is x) (Counts.value_is y))
            (add_exact x y ((suc i + suc j) of B) h.near.finite g.near.finite
            (normal_size (suc i + suc j) B (one_at_least i (suc j)) m t)
            (Counts.under_plus (suc i) (suc j) B (value_of x) (value_of y) t.real (reach h t.real kk) (reach g t.real ll)))
            (Counts.within_roundoffs k l B (value_of x plus value_of y) (u plus v) t.real
            (within_plus (k roundoffs B) (l roundoffs B) (value_of x) u (value_of y) v h.near.within g.near.within));
        size = Counts.under_plus i j B u v t.real h.size g.size;
        is = Counts.plus_is u v h.is g.is;
      }

  pub less_law : (B : Size) → Ranges 900 B → k ≤ 2 ^ 53 → l ≤ 2 ^ 53 → suc i + suc j ≤ 2 ^ 100 → Valued x u k i B → Valued y v l j B
      → Valued (x ⊖ y) (u less v) (suc i + suc j + (k + l)) (i + j) B
  less_law (a per c) t kk ll m h g =
      let B = a per c in
      record {
        near =
            combined (x ⊖ y) (value_of x less value_of y) (u less v) (suc i + suc j) (k + l) B t.real
            (Counts.less_is (value_of x) (value_of y) (Counts.value_is x) (Counts.value_is y))
            (sub_exact x y ((suc i + suc j) of B) h.near.finite g.near.finite
            (normal_size (suc i + suc j) B (one_at_least i (suc j)) m t)
            (Counts.under_less (suc i) (suc j) B (value_of x) (value_of y) t.real (reach h t.real kk) (reach g t.real ll)))
            (Counts.within_roundoffs k l B (value_of x less value_of y) (u less v) t.real
            (within_plus (k roundoffs B) (l roundoffs B) (value_of x) u (minus (value_of y)) (minus v) h.near.within
            (within_minus (l roundoffs B) (value_of y) v g.near.within)));
        size = Counts.under_less i j B u v t.real h.size g.size;
        is = Counts.less_is u v h.is g.is;
      }

  -- ---- the product, in the product of the units
  pub times_law : (A B : Size) → Ranges 900 (A by B) → IsSize A → IsSize B → k ≤ 2 ^ 53 → l ≤ 2 ^ 53 → suc i * suc j ≤ 2 ^ 100
      → Valued x u k i A → Valued y v l j B
      → Valued (x ⊗ y) (u times v) (suc i * suc j + (suc i * l + j * k)) (i * j) (A by B)
  times_law (a per c) (b per d) t C D kk ll m h g =
      let A = a per c in
      let B = b per d in
      record {
        near =
            combined (x ⊗ y) (value_of x times value_of y) (u times v) (suc i * suc j) (suc i * l + j * k) (A by B) t.real
            (Counts.times_is (value_of x) (value_of y) (Counts.value_is x) (Counts.value_is y))
            (mul_exact x y ((suc i * suc j) of (A by B)) h.near.finite g.near.finite
            (normal_size (suc i * suc j) (A by B) (product_some i j) m t)
            (Counts.under_times (suc i) (suc j) A B (value_of x) (value_of y) C D (Counts.value_is x) (reach h C kk) (reach g D ll)))
            (Counts.within_product (value_of x) (value_of y) u v (suc i) j k l A B C D (Counts.value_is x) g.is h.near.within
            g.near.within (reach h C kk) g.size);
        size = Counts.under_times i j A B u v C D h.is h.size g.size;
        is = Counts.times_is u v h.is g.is;
      }

-- ---- the inverse of a number above 0, and of an f64 near it
abbrev pub inverse_of : Number → Number
inverse_of (number q m e) = number e 0 (q - m)

abbrev inverse : Float → Number
inverse y = number (den y) 0 (num y)

-- v >= r·(n/d) in parts
abbrev pub Reaches : ℕ → ℕ → ℕ → Number → Type 0
Reaches r n c (number q m e) = r * n * e + m * c ≤ q * c

-- (D/N) <= J·d/(n·P) from N/D >= r·n/(d·P)
inverse_under : (n d P r J D N : ℕ) → 0 < r → r * n * D ≤ N * (d * P) → P * P ≤ J * r → D * (n * P) ≤ J * d * N
inverse_under n d P r J D N R h k = le_of_mul-le-mul_right (go (mul-le-mul_right P h) (mul-le-mul_right (N * d) k)) R
  where
    go : r * n * D * P ≤ N * (d * P) * P → P * P * (N * d) ≤ J * r * (N * d) → D * (n * P) * r ≤ J * d * N * r
    go u v = let x = simp sorted at u in let y = simp sorted at v in simp sorted (omega (arith, x, y))

-- N/D is near w/e >= low: N/D >= r
reaches_near : (n c Q r l low w e N D : ℕ) → 0 < e → 0 < Q → r * Q + l ≤ low * Q → low * n * e ≤ w * c
    → w * D * (c * Q) ≤ N * e * (c * Q) + l * n * (e * D) → r * n * D ≤ N * c
reaches_near n c Q r l low w e N D E P h k a =
    le_of_mul-le-mul_right (go (mul-le-mul_right (n * e * D) h) (mul-le-mul_right (D * Q) k)) (mul-pos E P)
  where
    go : (r * Q + l) * (n * e * D) ≤ low * Q * (n * e * D) → low * n * e * (D * Q) ≤ w * c * (D * Q)
        → r * n * D * (e * Q) ≤ N * c * (e * Q)
    go u v = let x = simp sorted at u in let y = simp sorted at v in let z = simp sorted at a in simp sorted (omega (arith, x, y, z))

inverses_apart : (n d P Q l L J w e N D : ℕ) → 0 < d → 0 < P → l * (J * J) ≤ L * (P * P) → D * (n * P) ≤ J * d * N
    → e * (n * P) ≤ J * d * w
    → w * D * (d * P * Q) ≤ N * e * (d * P * Q) + l * n * (e * D)
    → (D * w) * (n * P * Q) ≤ (e * N) * (n * P * Q) + L * d * (N * w)
inverses_apart n d P Q l L J w e N D dd pp h a b k =
    le_of_mul-le-mul_right (end (errors (mul-le-mul_right (d * d * N * w) h) (mul-le-mul_left l (mul-le-mul a b)))
    (mul-le-mul_right n k)) dd
  where
    errors : l * (J * J) * (d * d * N * w) ≤ L * (P * P) * (d * d * N * w)
        → l * (D * (n * P) * (e * (n * P))) ≤ l * (J * d * N * (J * d * w)) → l * n * n * (e * D) ≤ L * (d * d * N * w)
    errors u v = le_of_mul-le-mul_right (let x = simp sorted at u in let y = simp sorted at v in simp sorted (omega (arith, x, y)))
        (mul-pos pp pp)

    end : l * n * n * (e * D) ≤ L * (d * d * N * w) → w * D * (d * P * Q) * n ≤ (N * e * (d * P * Q) + l * n * (e * D)) * n
        → (D * w) * (n * P * Q) * d ≤ ((e * N) * (n * P * Q) + L * d * (N * w)) * d
    end s t = let x = simp sorted at s in let y = simp sorted at t in simp sorted (omega (arith, x, y))

-- ---- the quotient by an f64 y that is near w, where w is at least low parts of its unit n/d. y is at least r parts, 1/y and 1/w are at
-- most
-- J parts of d/n, and L counts how far they are apart
pub record Divides (n d k low r J L : ℕ) : Type 0 where
  pub some : 0 < r
  pub least : r * 2 ^ 53 + k ≤ low * 2 ^ 53
  pub inverses : 2 ^ 30 * 2 ^ 30 ≤ J * r
  pub apart : k * (J * J) ≤ L * (2 ^ 30 * 2 ^ 30)

abbrev pub parts : ℕ → ℕ → Size
parts n d = n per (d * 2 ^ 30)

both_ways : (n d P Q l low r J L w e N D : ℕ) → 0 < n → 0 < d → 0 < P → 0 < Q → 0 < e → 0 < r → r * Q + l ≤ low * Q → P * P ≤ J * r
    → l * (J * J) ≤ L * (P * P)
    → low * n * e ≤ w * (d * P) → N * e * (d * P * Q) ≤ w * D * (d * P * Q) + l * n * (D * e)
    → w * D * (d * P * Q) ≤ N * e * (d * P * Q) + l * n * (e * D)
    → ((D * (n * P) ≤ J * d * N) × (e * (n * P) ≤ J * d * w)) ×
    ((D * w * (n * P * Q) ≤ e * N * (n * P * Q) + L * d * (N * w)) × (e * N * (n * P * Q) ≤ D * w * (n * P * Q) + L * d * (w * N)))
both_ways n d P Q l low r J L w e N D nn dd pp qq ee rr h i j k a b =
    let near : r * n * D ≤ N * (d * P) = reaches_near n (d * P) Q r l low w e N D ee qq h k b in
    let s : D * (n * P) ≤ J * d * N = inverse_under n d P r J D N rr near i in
    let t : e * (n * P) ≤ J * d * w = inverse_under n d P r J e w rr
    (le_trans (mul-le-mul_right e (mul-le-mul_right n (le_of_mul-le-mul_right (go (r * Q) (low * Q) h) qq))) k) i in
    ((s, t), (inverses_apart n d P Q l L J w e N D dd pp j s t b, inverses_apart n d P Q l L J N D w e dd pp j t s a))
  where
    go : (x y : ℕ) → x + l ≤ y → x ≤ y
    go x y u = omega arith

-- y is near w, and so are their inverses
record Inverses (y : Float) (w : Number) (J L : ℕ) (I : Size) : Type 0 where
  under : Under (J of I) (inverse y)
  exact_under : Under (J of I) (inverse_of w)
  near : Within (L roundoffs I) (inverse y) (inverse_of w)
  is : IsNumber (inverse_of w)

under_by : (J d n P D N : ℕ) → D * (n * P) ≤ J * d * N → Under (J of (d per (n * P))) (number D 0 N)
under_by J d n P D N h = record { below = one (n * P) h; above = omega arith }
  where
    one : (c : ℕ) → D * c ≤ J * d * N → (D * 1 + 0 * N) * c ≤ (0 * N + 0 * 1) * c + J * d * (N * 1)
    one c u = let x = simp plain at u in simp plain (omega (arith, x))

inverses_near : (L d c Q D N e w : ℕ) → D * w * (c * Q) ≤ e * N * (c * Q) + L * d * (N * w)
    → e * N * (c * Q) ≤ D * w * (c * Q) + L * d * (w * N)
    → Within ((L * d) per (c * Q)) (number D 0 N) (number e 0 w)
inverses_near L d c Q D N e w h k = record { below = one (c * Q) h; above = two (c * Q) k }
  where
    one : (c : ℕ) → D * w * c ≤ e * N * c + L * d * (N * w) → (D * w + 0 * N) * c ≤ (e * N + 0 * w) * c + L * d * (N * w)
    one c u = let x = simp plain at u in simp plain (omega (arith, x))

    two : (c : ℕ) → e * N * c ≤ D * w * c + L * d * (w * N) → (e * N + 0 * w) * c ≤ (D * w + 0 * N) * c + L * d * (w * N)
    two c u = let x = simp plain at u in simp plain (omega (arith, x))

positive_of : (low n e c w : ℕ) → 0 < low → 0 < n → 0 < e → low * n * e ≤ w * c → 0 < w
positive_of low n e c zero l i j h = no (mul-pos (mul-pos l i) j) h
  where
    no : 0 < low * n * e → low * n * e ≤ 0 * c → 0 < 0
    no u v = omega arith
positive_of low n e c (suc w) l i j h = omega arith

low_some : (r Q l low : ℕ) → 0 < r → 0 < Q → r * Q + l ≤ low * Q → 0 < low
low_some r Q l zero R P h = no (mul-pos R P) h
  where
    no : 0 < r * Q → r * Q + l ≤ 0 * Q → 0 < 0
    no u v = omega arith
low_some r Q l (suc low) R P h = omega arith

inverses : (y : Float) (w : Number) (n d l low r J L : ℕ) → 0 < n → 0 < d → T (positive y) → IsNumber w → Divides n d l low r J L
    → Reaches low n (d * 2 ^ 30) w
    → Within (l roundoffs parts n d) (value_of y) w → Inverses y w J L (parts d n)
inverses nan w n d l low r J L nn dd p i v h k = absurd p
inverses (inf s) w n d l low r J L nn dd p i v h k = absurd p
inverses (fin true m e) w n d l low r J L nn dd p i v h k = absurd p
inverses (fin false M E) (number q m e) n d l low r J L nn dd p i v h k =
    let z = both_ways n d (2 ^ 30) (2 ^ 53) l low r J L (q - m) e (M * up E) (down E) nn dd (pow_pos 30) (pow_pos 53) i v.some
    v.least v.inverses v.apart
    (low_of (d * 2 ^ 30) (mul-pos dd (pow_pos 30)) h) (below_of (d * 2 ^ 30 * 2 ^ 53) (M * up E) (down E) k.below)
    (above_of (d * 2 ^ 30 * 2 ^ 53) (M * up E) (down E) k.above) in
    record {
      under = under_by J d n (2 ^ 30) (down E) (M * up E) z.0.0;
      exact_under = under_by J d n (2 ^ 30) e (q - m) z.0.1;
      near = inverses_near L d (n * 2 ^ 30) (2 ^ 53) (down E) (M * up E) e (q - m) z.1.0 z.1.1;
      is = positive_of low n e (d * 2 ^ 30) (q - m) (low_some r (2 ^ 53) l low v.some (pow_pos 53) v.least) nn i
          (low_of (d * 2 ^ 30) (mul-pos dd (pow_pos 30)) h);
    }
  where
    above : m ≤ q
    above = le_of_mul-le-mul_right (go (d * 2 ^ 30) h) (mul-pos dd (pow_pos 30))
      where
        go : (c : ℕ) → low * n * e + m * c ≤ q * c → m * c ≤ q * c
        go c u = omega arith

    split : q ≡ m + (q - m)
    split = go above
      where
        go : m ≤ q → q ≡ m + (q - m)
        go u = omega arith

    low_of : (c : ℕ) → 0 < c → low * n * e + m * c ≤ q * c → low * n * e ≤ (q - m) * c
    low_of c C u = go (q - m) (subst (λ (x : ℕ). low * n * e + m * c ≤ x * c) split u)
      where
        go : (w : ℕ) → low * n * e + m * c ≤ (m + w) * c → low * n * e ≤ w * c
        go w t = omega arith

    below_of : (C N D : ℕ) → (N * e + m * D) * C ≤ (q * D + 0 * e) * C + l * n * (D * e) → N * e * C ≤ (q - m) * D * C + l * n * (D * e)
    below_of C N D u = go (q - m) (subst (λ (x : ℕ). (N * e + m * D) * C ≤ (x * D + 0 * e) * C + l * n * (D * e)) split u)
      where
        go : (w : ℕ) → (N * e + m * D) * C ≤ ((m + w) * D + 0 * e) * C + l * n * (D * e) → N * e * C ≤ w * D * C + l * n * (D * e)
        go w t = let x = simp plain at t in simp plain (omega (arith, x))

    above_of : (C N D : ℕ) → (q * D + 0 * e) * C ≤ (N * e + m * D) * C + l * n * (e * D) → (q - m) * D * C ≤ N * e * C + l * n * (e * D)
    above_of C N D u = go (q - m) (subst (λ (x : ℕ). (x * D + 0 * e) * C ≤ (N * e + m * D) * C + l * n * (e * D)) split u)
      where
        go : (w : ℕ) → ((m + w) * D + 0 * e) * C ≤ (N * e + m * D) * C + l * n * (e * D) → w * D * C ≤ N * e * C + l * n * (e * D)
        go w t = let x = simp plain at t in simp plain (omega (arith, x))

pub over_law : {x : Float} {u : Number} {k i : ℕ} (y : Float) (w : Number) (A : Size) (n d l low r J L : ℕ) → 0 < n → 0 < d
    → Ranges 900 (A by parts d n) → IsSize A → k ≤ 2 ^ 53
    → 1 ≤ suc i * J → suc i * J ≤ 2 ^ 100 → T (positive y) → IsNumber w → Divides n d l low r J L → Reaches low n (d * 2 ^ 30) w
    → Within (l roundoffs parts n d) (value_of y) w
    → Valued x u k i A → Valued (x ⊘ y) (u times inverse_of w) (suc i * J + (suc i * L + J * k)) (i * J) (A by parts d n)
over_law {x = x} {u = u} {k = k} {i = i} y w (a per c) n d l low r J L nn dd t C kk o m p iw v h g z =
    let A = a per c in
    let I = parts d n in
    let X = value_of x in
    let D : IsSize I = mul-pos nn (pow_pos 30) in
    let s = inverses y w n d l low r J L nn dd p iw v h g in
    let iy : IsNumber (inverse y) = positive_num y p in
    let ix : IsNumber X = Counts.value_is x in
    let xy : Under ((suc i * J) of (A by I)) (X times inverse y) =
    Counts.under_times (suc i) J A I X (inverse y) C D ix (reach z C kk) s.under in
    let e : Near (x ⊘ y) (X over y) ((suc i * J) roundoffs (A by I)) =
    div_exact x y ((suc i * J) of (A by I)) z.near.finite p (normal_size (suc i * J) (A by I) o m t)
    (within_sym ((suc i * J) of (A by I)) zero_number (X over y)
    (within_same ((suc i * J) of (A by I)) zero_number (X times inverse y) (X over y) (Counts.times_is X (inverse y) ix iy)
    (within_sym ((suc i * J) of (A by I)) (X times inverse y) zero_number xy) (symm (over_is_times X y)).same)) in
    let f : Near (x ⊘ y) (X times inverse y) ((suc i * J) roundoffs (A by I)) =
    record {
      finite = e.finite;
      within = within_same ((suc i * J) roundoffs (A by I)) (value_of (x ⊘ y)) (X over y) (X times inverse y)
          (Counts.over_is X y ix p) e.within (over_is_times X y).same;
    } in
    record {
      near =
          combined (x ⊘ y) (X times inverse y) (u times inverse_of w) (suc i * J) (suc i * L + J * k) (A by I) t.real
          (Counts.times_is X (inverse y) ix iy) f
          (Counts.within_product X (inverse y) u (inverse_of w) (suc i) J k L A I C D ix s.is z.near.within s.near (reach z C kk)
          s.exact_under);
      size = Counts.under_times i J A I u (inverse_of w) C D z.is z.size s.exact_under;
      is = Counts.times_is u (inverse_of w) z.is s.is;
    }

-- ---- parts of parts
pub coarser : {x : Float} {v : Number} {k j : ℕ} (a c b d : ℕ) → 0 < c → 0 < d → Valued x v k j (parts a c by parts b d)
    → Valued x v (rounded_up k (2 ^ 30)) (rounded_up j (2 ^ 30)) (parts (a * b) (c * d))
coarser {x = x} {v = v} {k = k} {j = j} a c b d C D h =
    let S : IsSize (parts a c by parts b d) = mul-pos (mul-pos C (pow_pos 30)) (mul-pos D (pow_pos 30)) in
    record {
      near = record {
        finite = h.near.finite;
        within =
            within_upto (k roundoffs (parts a c by parts b d)) (rounded_up k (2 ^ 30) roundoffs parts (a * b) (c * d)) (value_of x) v
            (mul-pos S (pow_pos 53))
            (errors (rounded_up k (2 ^ 30)) (2 ^ 30) (2 ^ 53) (up_least k (2 ^ 30) (pow_pos 30))) h.near.within;
      };
      size =
          within_upto (j of (parts a c by parts b d)) (rounded_up j (2 ^ 30) of parts (a * b) (c * d)) v zero_number S
          (sizes (rounded_up j (2 ^ 30)) (2 ^ 30) (up_least j (2 ^ 30) (pow_pos 30))) h.size;
      is = h.is;
    }
  where
    errors : (K P Q : ℕ) → k ≤ K * P → k * (a * b) * (c * d * P * Q) ≤ K * (a * b) * (c * P * (d * P) * Q)
    errors K P Q u = let y = simp sorted at (mul-le-mul_right (a * b * (c * d * P * Q)) u) in simp sorted (omega (arith, y))

    sizes : (K P : ℕ) → j ≤ K * P → j * (a * b) * (c * d * P) ≤ K * (a * b) * (c * P * (d * P))
    sizes K P u = let y = simp sorted at (mul-le-mul_right (a * b * (c * d * P)) u) in simp sorted (omega (arith, y))

-- ---- the inverse of a number of at least low parts of n/d
low_parts : (low n c q m e : ℕ) → 0 < c → low * n * e + m * c ≤ q * c → low * n * e ≤ (q - m) * c
low_parts low n c q m e cc h = go (q - m) (subst (λ (x : ℕ). low * n * e + m * c ≤ x * c) (split (le_of_mul-le-mul_right (above h) cc)) h)
  where
    above : low * n * e + m * c ≤ q * c → m * c ≤ q * c
    above u = omega arith

    split : m ≤ q → q ≡ m + (q - m)
    split u = omega arith

    go : (w : ℕ) → low * n * e + m * c ≤ (m + w) * c → low * n * e ≤ w * c
    go w t = omega arith

pub inverse_is : (w : Number) (n c low : ℕ) → 0 < n → 0 < c → 0 < low → IsNumber w → Reaches low n c w → IsNumber (inverse_of w)
inverse_is (number q m e) n c low nn cc ll i h = positive_of low n e c (q - m) ll nn i (low_parts low n c q m e cc h)

pub inverse_size_lem : (w : Number) (n d low J : ℕ) → 0 < d → 0 < low → 2 ^ 30 * 2 ^ 30 ≤ J * low → Reaches low n (d * 2 ^ 30) w
    → Under (J of parts d n) (inverse_of w)
inverse_size_lem (number q m e) n d low J dd ll j h =
    under_by J d n (2 ^ 30) e (q - m) (inverse_under n d (2 ^ 30) low J e (q - m) ll
    (low_parts low n (d * 2 ^ 30) q m e (mul-pos dd (pow_pos 30)) h) j)
