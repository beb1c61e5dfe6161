-- Errors counted in units: `k roundoffs B` is k·2^-53·B. Assumes nothing.
use mathlib.Core.Path.{◌≡◌, sym, subst}
use Prim.Native.Nat.{ℕ, suc, ◌+◌, ◌*◌, ◌^◌, ◌≤◌}
use native.Mathlib.Nat.{le_refl, le_trans, le_of_eq, mul-pos, mul-le-mul_right, mul-le-mul_left, mul-le-mul, one-mul, mul-one, zero-mul}
use native.Mathlib.Nat.{zero-add}
use native.Mathlib.Omega.{arith}
use lib.Dec.{T}
use lib.Pow.{pow-add, pow_pos}
use lib.Ieee.{Float, nan, inf, fin, up, down}
use lib.Ieee.Fits.{down_pos}
use mathlib.Core.Bool.{true, false}
use lib.Ieee.Scale.{finite}
use lib.Ieee.Positive.{positive}
use Rattle.rounding_error.proofs.Numbers.{Number, number, Size, ◌per◌, ◌plus◌, minus, ◌less◌, ◌times◌, ◌over◌, ◌and◌, ◌by◌, ◌of◌}
use Rattle.rounding_error.proofs.Numbers.{◌roundoffs◌, IsNumber, IsSize, Within, Same, zero_number, Under, value_of, Near, Normal}
use Rattle.rounding_error.proofs.Numbers.{InRange, size_of}
use Rattle.rounding_error.proofs.Distances.{sorted, within_refl, within_trans, within_upto, within_same, within_plus, within_minus}
use Rattle.rounding_error.proofs.Distances.{within_times, times_comm}
use Rattle.rounding.proofs.Monotone.{positive_num}

-- ---- j·B is of a normal-size size
least : (a c j R : ℕ) → 1 ≤ j → c ≤ a * R → c ≤ j * a * (R * 2 ^ 22)
least a c j R h k = le_trans k (le_trans (mul-le-mul (le_trans (le_of_eq (sym (one-mul a))) (mul-le-mul_right a h))
    (le_trans (le_of_eq (sym (mul-one R))) (mul-le-mul_left R (pow_pos 22)))) (le_refl (j * a * (R * 2 ^ 22))))

most : (a c j R : ℕ) → j ≤ 2 ^ 22 → a ≤ c * R → j * a ≤ c * (R * 2 ^ 22)
most a c j R h k = le_trans (mul-le-mul h k) (le_of_eq (turn (2 ^ 22) c R))
  where
    turn : (t c R : ℕ) → t * (c * R) ≡ c * (R * t)
    turn t c R = simp sorted

pub normal_size : (j : ℕ) (B : Size) → 1 ≤ j → j ≤ 2 ^ 22 → InRange B → Normal (j of B)
normal_size j (a per c) l h t =
    record {
      real = t.real;
      least = subst (λ (x : ℕ). c ≤ j * a * x) (sym (pow-add 2 1000 22)) (least a c j (2 ^ 1000) l t.least);
      most = subst (λ (x : ℕ). j * a ≤ c * x) (sym (pow-add 2 1000 22)) (most a c j (2 ^ 1000) h t.most);
    }

-- ---- errors and sizes of one unit are added
both : (k l a c : ℕ) → (k * a * c + l * a * c) * c ≤ (k + l) * a * (c * c)
both k l a c = simp sorted (le_refl _)

pub within_roundoffs : (k l : ℕ) (B : Size) (x y : Number) → IsSize B → Within ((k roundoffs B) and (l roundoffs B)) x y
    → Within ((k + l) roundoffs B) x y
within_roundoffs k l (a per c) x y C h =
    within_upto (((k * a) per (c * 2 ^ 53)) and ((l * a) per (c * 2 ^ 53))) (((k + l) * a) per (c * 2 ^ 53)) x y
    (mul-pos (mul-pos C (pow_pos 53)) (mul-pos C (pow_pos 53)))
    (both k l a (c * 2 ^ 53)) h

pub under_of : (k l : ℕ) (B : Size) (x y : Number) → IsSize B → Within ((k of B) and (l of B)) x y → Within ((k + l) of B) x y
under_of k l (a per c) x y C h = within_upto (((k * a) per c) and ((l * a) per c)) (((k + l) * a) per c) x y (mul-pos C C) (both k l a c) h

more : (k l a c : ℕ) → k ≤ l → k * a * c ≤ l * a * c
more k l a c h = mul-le-mul_right c (mul-le-mul_right a h)

pub more_roundoffs : (k l : ℕ) (B : Size) (x : Float) (v : Number) → IsSize B → k ≤ l → Near x v (k roundoffs B) → Near x v (l roundoffs B)
more_roundoffs k l (a per c) x v C h n =
    record {
      finite = n.finite;
      within = within_upto (k roundoffs (a per c)) (l roundoffs (a per c)) (value_of x) v (mul-pos C (pow_pos 53))
          (more k l a (c * 2 ^ 53) h) n.within;
    }

pub more_of : (k l : ℕ) (B : Size) (x : Number) → IsSize B → k ≤ l → Under (k of B) x → Under (l of B) x
more_of k l (a per c) x C h n = within_upto (k of (a per c)) (l of (a per c)) x zero_number C (more k l a c h) n

-- ---- what is a number
pub value_is : (x : Float) → IsNumber (value_of x)
value_is nan = pow_pos 0
value_is (inf s) = pow_pos 0
value_is (fin true m e) = down_pos e
value_is (fin false m e) = down_pos e

pub plus_is : (x y : Number) → IsNumber x → IsNumber y → IsNumber (x plus y)
plus_is (number p n d) (number q m e) h k = mul-pos h k

pub less_is : (x y : Number) → IsNumber x → IsNumber y → IsNumber (x less y)
less_is (number p n d) (number q m e) h k = mul-pos h k

pub times_is : (x y : Number) → IsNumber x → IsNumber y → IsNumber (x times y)
times_is (number p n d) (number q m e) h k = mul-pos h k

pub over_is : (x : Number) (y : Float) → IsNumber x → T (positive y) → IsNumber (x over y)
over_is (number p n d) y h k = mul-pos (positive_num y k) h

-- ---- sizes

pub roundoffs_is : (k : ℕ) (A : Size) → IsSize A → IsSize (k roundoffs A)
roundoffs_is k (a per c) h = mul-pos h (pow_pos 53)

pub under_plus : (j l : ℕ) (B : Size) (x y : Number) → IsSize B → Under (j of B) x → Under (l of B) y → Under ((j + l) of B) (x plus y)
under_plus j l B x y C h k = under_of j l B (x plus y) zero_number C (within_plus (j of B) (l of B) x zero_number y zero_number h k)

pub under_minus : (e : Size) (x : Number) → Under e x → Under e (minus x)
under_minus e x h = within_minus e x zero_number h

pub under_less : (j l : ℕ) (B : Size) (x y : Number) → IsSize B → Under (j of B) x → Under (l of B) y → Under ((j + l) of B) (x less y)
under_less j l B x y C h k = under_plus j l B x (minus y) C h (under_minus (l of B) y k)

times_zero : (x : Number) → Same (x times zero_number) zero_number
times_zero (number p n d) = omega arith

by_of : (i j a c b d : ℕ) → i * a * (j * b) * (c * d) ≤ i * j * (a * b) * (c * d)
by_of i j a c b d = simp sorted (le_refl _)

pub under_times : (i j : ℕ) (A B : Size) (x y : Number) → IsSize A → IsSize B → IsNumber x → Under (i of A) x → Under (j of B) y
    → Under ((i * j) of (A by B)) (x times y)
under_times i j (a per c) (b per d) x y C D I h k =
    within_upto (((i * a) per c) by ((j * b) per d)) ((i * j) of ((a per c) by (b per d))) (x times y) zero_number (mul-pos C D)
    (by_of i j a c b d)
    (within_same (((i * a) per c) by ((j * b) per d)) (x times y) (x times zero_number) zero_number (times_is x zero_number I (pow_pos 0))
    (within_times ((i * a) per c) ((j * b) per d) x y zero_number h k) (times_zero x))

-- the size of an f64 by that of the number that it is near
near_size : (k j a c P : ℕ) → k ≤ P → (k * a * c + j * a * (c * P)) * c ≤ suc j * a * (c * P * c)
near_size k j a c P h = go (mul-le-mul_right (a * c * c) h)
  where
    go : k * (a * c * c) ≤ P * (a * c * c) → (k * a * c + j * a * (c * P)) * c ≤ suc j * a * (c * P * c)
    go u = let x = simp sorted at u in simp sorted (omega (arith, x))

pub sized_number : (k j : ℕ) (B : Size) (x v : Number) → IsSize B → IsNumber v → k ≤ 2 ^ 53 → Within (k roundoffs B) x v → Under (j of B) v
    → Under ((suc j) of B) x
sized_number k j (a per c) x v C I h n u =
    within_upto ((k roundoffs (a per c)) and (j of (a per c))) ((suc j) of (a per c)) x zero_number (mul-pos (mul-pos C (pow_pos 53)) C)
    (near_size k j a c (2 ^ 53) h)
    (within_trans (k roundoffs (a per c)) (j of (a per c)) x v zero_number I n u)

pub sized : (k j : ℕ) (B : Size) (x : Float) (v : Number) → IsSize B → IsNumber v → k ≤ 2 ^ 53 → Near x v (k roundoffs B) → Under (j of B) v
    → Under ((suc j) of B) (value_of x)
sized k j B x v C I h n u = sized_number k j B (value_of x) v C I h n.within u

-- ---- an f64 above 0 is its own size
pub own_size : (y : Float) → T (positive y) → Under (1 of size_of y) (value_of y)
own_size nan p = absurd p
own_size (inf s) p = absurd p
own_size (fin true m e) p = absurd p
own_size (fin false m e) p = record { below = go (m * up e) (down e); above = go' (m * up e) (down e) }
  where
    go : (N D : ℕ) → (N * 1 + 0 * D) * D ≤ (0 * D + 0 * 1) * D + 1 * N * (D * 1)
    go N D = simp (sorted, one-mul, zero-mul, zero-add) (omega arith)

    go' : (N D : ℕ) → (0 * D + 0 * 1) * D ≤ (N * 1 + 0 * D) * D + 1 * N * (1 * D)
    go' N D = simp (sorted, one-mul, zero-mul, zero-add) (omega arith)

-- ---- an f64 is near itself
none : (a c : ℕ) → 0 * c ≤ 0 * a * 1
none a c = omega arith

pub itself_within : (x : Number) (B : Size) → Within (0 roundoffs B) x x
itself_within x (a per c) = within_upto (0 per 1) (0 roundoffs (a per c)) x x (pow_pos 0) (none a (c * 2 ^ 53)) (within_refl x)

pub itself : (x : Float) (B : Size) → T (finite x) → Near x (value_of x) (0 roundoffs B)
itself x (a per c) h = record { finite = h; within = itself_within (value_of x) (a per c) }

-- ---- the product
by_roundoffs : (i l a c b d P : ℕ) → i * a * (l * b) * (c * d * P) ≤ i * l * (a * b) * (c * (d * P))
by_roundoffs i l a c b d P = simp sorted (le_refl _)

by_roundoffs' : (j k a c b d P : ℕ) → j * b * (k * a) * (c * d * P) ≤ j * k * (a * b) * (d * (c * P))
by_roundoffs' j k a c b d P = simp sorted (le_refl _)

pub within_product : (x y v w : Number) (i j k l : ℕ) (A B : Size) → IsSize A → IsSize B → IsNumber x → IsNumber w
    → Within (k roundoffs A) x v → Within (l roundoffs B) y w → Under (i of A) x → Under (j of B) w
    → Within ((i * l + j * k) roundoffs (A by B)) (x times y) (v times w)
within_product x y v w i j k l (a per c) (b per d) C D I J h g u s =
    let A = a per c in
    let B = b per d in
    let e : Within ((i * l) roundoffs (A by B)) (x times y) (x times w) =
    within_upto (((i * a) per c) by ((l * b) per (d * 2 ^ 53))) ((i * l) roundoffs (A by B)) (x times y) (x times w)
    (mul-pos C (mul-pos D (pow_pos 53))) (by_roundoffs i l a c b d (2 ^ 53))
    (within_times (i of A) (l roundoffs B) x y w u g) in
    let f : Within ((j * k) roundoffs (A by B)) (w times x) (w times v) =
    within_upto (((j * b) per d) by ((k * a) per (c * 2 ^ 53))) ((j * k) roundoffs (A by B)) (w times x) (w times v)
    (mul-pos D (mul-pos C (pow_pos 53))) (by_roundoffs' j k a c b d (2 ^ 53))
    (within_times (j of B) (k roundoffs A) w x v s h) in
    let f' : Within ((j * k) roundoffs (A by B)) (x times w) (v times w) =
    subst (λ (r : Number). Within ((j * k) roundoffs (A by B)) r (v times w)) (times_comm w x)
    (subst (λ (r : Number). Within ((j * k) roundoffs (A by B)) (w times x) r) (times_comm w v) f) in
    within_roundoffs (i * l) (j * k) (A by B) (x times y) (v times w) (mul-pos C D)
    (within_trans ((i * l) roundoffs (A by B)) ((j * k) roundoffs (A by B)) (x times y) (x times w) (v times w) (times_is x w I J) e f')
