-- Sums, differences and products of numbers, each near another. Assumes nothing.
use mathlib.Core.Path.{◌≡◌, ap, subst}
use Prim.Native.Nat.{ℕ, ◌+◌, ◌-◌, ◌*◌, ◌≤◌}
use native.Mathlib.Nat.{mul-le-mul_right, mul-le-mul_left, le_of_mul-le-mul_right, add-sub_of_le, mul-add, add-mul, mul_comm, mul_assoc}
use native.Mathlib.Nat.{mul_left_comm}
use native.Mathlib.Omega.{arith}
use Rattle.rounding_error.proofs.Numbers.{Number, number, Size, ◌per◌, ◌plus◌, minus, ◌times◌, ◌and◌, ◌by◌, ◌upto◌, IsNumber, IsSize}
use Rattle.rounding_error.proofs.Numbers.{Over, Within, Same, Under}

-- a sum of products, each sorted
pub ruleset sorted = (mul-add, add-mul, mul_assoc, mul_comm, mul_left_comm)

-- ---- one after the other
trans_all : (p n d q m e r k f a c b g : ℕ)
    → ((p * e + m * d) * c) * (f * g) ≤ ((q * d + n * e) * c + a * (d * e)) * (f * g)
    → ((q * f + k * e) * g) * (d * c) ≤ ((r * e + m * f) * g + b * (e * f)) * (d * c)
    → ((p * f + k * d) * (c * g)) * e ≤ ((r * d + n * f) * (c * g) + (a * g + b * c) * (d * f)) * e
trans_all p n d q m e r k f a c b g u v = let x = simp sorted at u in let y = simp sorted at v in simp sorted (omega (arith, x, y))

pub over_trans : (e f : Size) (x y z : Number) → IsNumber y → Over e x y → Over f y z → Over (e and f) x z
over_trans (a per c) (b per g) (number p n d) (number q m e) (number r k f) E h i =
    le_of_mul-le-mul_right (trans_all p n d q m e r k f a c b g (mul-le-mul_right (f * g) h) (mul-le-mul_right (d * c) i)) E

pub within_trans : (e f : Size) (x y z : Number) → IsNumber y → Within e x y → Within f y z → Within (e and f) x z
within_trans (a per c) (b per g) (number p n d) (number q m e) (number r k f) E h i =
    record {
      below = over_trans (a per c) (b per g) (number p n d) (number q m e) (number r k f) E h.below i.below;
      above = turn a b c g (over_trans (b per g) (a per c) (number r k f) (number q m e) (number p n d) E i.above h.above);
    }
  where
    turn : (a b c g : ℕ) → (r * d + n * f) * (g * c) ≤ (p * f + k * d) * (g * c) + (b * c + a * g) * (f * d)
        → (r * d + n * f) * (c * g) ≤ (p * f + k * d) * (c * g) + (a * g + b * c) * (f * d)
    turn a b c g h = omega arith

pub within_sym : (e : Size) (x y : Number) → Within e x y → Within e y x
within_sym e x y h = record { below = h.above; above = h.below }

pub within_refl : (x : Number) → Within (0 per 1) x x
within_refl (number p n d) = record { below = omega arith; above = omega arith }

-- ---- a larger error
pub over_upto : (e f : Size) (x y : Number) → IsSize e → e upto f → Over e x y → Over f x y
over_upto (a per c) (b per g) (number p n d) (number q m e) C l h =
    le_of_mul-le-mul_right (go (mul-le-mul_right g h) (mul-le-mul_right (d * e) l)) C
  where
    go : ((p * e + m * d) * c) * g ≤ ((q * d + n * e) * c + a * (d * e)) * g → a * g * (d * e) ≤ b * c * (d * e)
        → ((p * e + m * d) * g) * c ≤ ((q * d + n * e) * g + b * (d * e)) * c
    go u v = omega arith

pub within_upto : (e f : Size) (x y : Number) → IsSize e → e upto f → Within e x y → Within f x y
within_upto e f x y C l h = record { below = over_upto e f x y C l h.below; above = over_upto e f y x C l h.above }

-- ---- the same number
same_all : (p n d q m e r k f a c : ℕ)
    → ((p * e + m * d) * c) * f ≤ ((q * d + n * e) * c + a * (d * e)) * f → (q * f + k * e) * (d * c) ≡ (r * e + m * f) * (d * c)
    → ((p * f + k * d) * c) * e ≤ ((r * d + n * f) * c + a * (d * f)) * e
same_all p n d q m e r k f a c u v = let x = simp sorted at u in let y = simp sorted at v in simp sorted (omega (arith, x, y))

over_same : (e : Size) (x y z : Number) → IsNumber y → Over e x y → Same y z → Over e x z
over_same (a per c) (number p n d) (number q m e) (number r k f) E h s =
    le_of_mul-le-mul_right (same_all p n d q m e r k f a c (mul-le-mul_right f h) (ap (λ (t : ℕ). t * (d * c)) s)) E

all_same : (p n d q m e r k f a c : ℕ)
    → ((q * d + n * e) * c) * f ≤ ((p * e + m * d) * c + a * (e * d)) * f → (q * f + k * e) * (d * c) ≡ (r * e + m * f) * (d * c)
    → ((r * d + n * f) * c) * e ≤ ((p * f + k * d) * c + a * (f * d)) * e
all_same p n d q m e r k f a c u v = let x = simp sorted at u in let y = simp sorted at v in simp sorted (omega (arith, x, y))

same_over : (e : Size) (x y z : Number) → IsNumber y → Over e y x → Same y z → Over e z x
same_over (a per c) (number p n d) (number q m e) (number r k f) E h s =
    le_of_mul-le-mul_right (all_same p n d q m e r k f a c (mul-le-mul_right f h) (ap (λ (t : ℕ). t * (d * c)) s)) E

pub within_same : (e : Size) (x y z : Number) → IsNumber y → Within e x y → Same y z → Within e x z
within_same e x y z E h s = record { below = over_same e x y z E h.below s; above = same_over e x y z E h.above s }

-- ---- sums
plus_all : (p n d q m e r k f s j i a c b g : ℕ)
    → ((p * e + m * d) * c) * (g * (f * i)) ≤ ((q * d + n * e) * c + a * (d * e)) * (g * (f * i))
    → ((r * i + j * f) * g) * (c * (d * e)) ≤ ((s * f + k * i) * g + b * (f * i)) * (c * (d * e))
    → ((p * f + r * d) * (e * i) + (m * i + j * e) * (d * f)) * (c * g) ≤ ((q * i + s * e) * (d * f) + (n * f + k * d) * (e * i)) *
    (c * g) + (a * g + b * c) * ((d * f) * (e * i))
plus_all p n d q m e r k f s j i a c b g u v = let x = simp sorted at u in let y = simp sorted at v in simp sorted (omega (arith, x, y))

over_plus : (e f : Size) (x y z w : Number) → Over e x y → Over f z w → Over (e and f) (x plus z) (y plus w)
over_plus (a per c) (b per g) (number p n d) (number q m e) (number r k f) (number s j i) h l =
    plus_all p n d q m e r k f s j i a c b g (mul-le-mul_right (g * (f * i)) h) (mul-le-mul_right (c * (d * e)) l)

pub within_plus : (e f : Size) (x y z w : Number) → Within e x y → Within f z w → Within (e and f) (x plus z) (y plus w)
within_plus e f x y z w h l = record {
  below = over_plus e f x y z w h.below l.below;
  above = over_plus e f y x w z h.above
      l.above;
}

pub within_minus : (e : Size) (x y : Number) → Within e x y → Within e (minus x) (minus y)
within_minus (a per c) (number p n d) (number q m e) h = record { below = go p n d q m e h.above; above = go q m e p n d h.below }
  where
    go : (p n d q m e : ℕ) → (q * d + n * e) * c ≤ (p * e + m * d) * c + a * (e * d)
        → (n * e + q * d) * c ≤ (m * d + p * e) * c + a * (d * e)
    go p n d q m e h = omega arith

-- ---- products
-- (b − a)·(d − c) is not negative
pub four : (a b c d : ℕ) → a ≤ b → c ≤ d → a * d + b * c ≤ b * d + a * c
four a b c d h k =
    subst (λ (b : ℕ). a * d + b * c ≤ b * d + a * c) (add-sub_of_le h)
    (subst (λ (d : ℕ). a * d + (a + (b - a)) * c ≤ (a + (b - a)) * d + a * c) (add-sub_of_le k) (go (b - a) (d - c)))
  where
    go : (s t : ℕ) → a * (c + t) + (a + s) * c ≤ (a + s) * (c + t) + a * c
    go s t = omega arith

-- |α − β| <= γ and |μ − ν| <= ρ: (α − β)·(μ − ν) <= γ·ρ
bounded : (α β γ μ ν ρ : ℕ) → α ≤ β + γ → β ≤ α + γ → μ ≤ ν + ρ → ν ≤ μ + ρ → α * μ + β * ν ≤ α * ν + β * μ + γ * ρ
bounded α β γ μ ν ρ h i j k = go (four α (β + γ) ν (μ + ρ) h k) (four β (α + γ) μ (ν + ρ) i j)
  where
    go : α * (μ + ρ) + (β + γ) * ν ≤ (β + γ) * (μ + ρ) + α * ν → β * (ν + ρ) + (α + γ) * μ ≤ (α + γ) * (ν + ρ) + β * μ
        → α * μ + β * ν ≤ α * ν + β * μ + γ * ρ
    go u v = omega arith

times_all : (p n d r k f s j i a c b g : ℕ)
    → d * (p * c * ((r * i + j * f) * g) + n * c * ((s * f + k * i) * g)) ≤ d *
    (p * c * ((s * f + k * i) * g) + n * c * ((r * i + j * f) * g) + a * d * (b * (f * i)))
    → ((p * r + n * k) * (d * i) + (p * j + n * s) * (d * f)) * (c * g) ≤ ((p * s + n * j) * (d * f) + (p * k + n * r) * (d * i)) *
    (c * g) + a * b * ((d * f) * (d * i))
times_all p n d r k f s j i a c b g u = let x = simp sorted at u in simp sorted (omega (arith, x))

over_times : (e f : Size) (x z w : Number) → Under e x → Within f z w → Over (e by f) (x times z) (x times w)
over_times (a per c) (b per g) (number p n d) (number r k f) (number s j i) h l =
    times_all p n d r k f s j i a c b g (mul-le-mul_left d (bounded (p * c) (n * c) (a * d) ((r * i + j * f) * g) ((s * f + k * i) * g)
    (b * (f * i)) (one p n d h.below) (other p n d h.above) l.below (flip l.above)))
  where
    one : (p n d : ℕ) → (p * 1 + 0 * d) * c ≤ (0 * d + n * 1) * c + a * (d * 1) → p * c ≤ n * c + a * d
    one p n d h = omega arith

    other : (p n d : ℕ) → (0 * d + n * 1) * c ≤ (p * 1 + 0 * d) * c + a * (1 * d) → n * c ≤ p * c + a * d
    other p n d h = omega arith

    flip : (s * f + k * i) * g ≤ (r * i + j * f) * g + b * (i * f) → (s * f + k * i) * g ≤ (r * i + j * f) * g + b * (f * i)
    flip h = omega arith

pub within_times : (e f : Size) (x z w : Number) → Under e x → Within f z w → Within (e by f) (x times z) (x times w)
within_times e f x z w h l = record { below = over_times e f x z w h l; above = over_times e f x w z h (within_sym f z w l) }

pub times_comm : (x y : Number) → x times y ≡ y times x
times_comm (number p n d) (number q m e) = triple (swap2 p q n m) (swap3 p q n m) (omega arith)
  where
    triple : {p p' n n' d d' : ℕ} → p ≡ p' → n ≡ n' → d ≡ d' → number p n d ≡ number p' n' d'
    triple u v w = cc

    swap2 : (p q n m : ℕ) → p * q + n * m ≡ q * p + m * n
    swap2 p q n m = omega arith

    swap3 : (p q n m : ℕ) → p * m + n * q ≡ q * n + m * p
    swap3 p q n m = omega arith
