-- The constants of both tails are the f64s nearest to their fractions: one argument over the fractions, each of which is n / d in lower
-- terms. And the closed tail ends in a point where the open one does not: P(1) is computed. Assumes nothing.
use mathlib.Core.Path.{◌≡◌, refl, sym, ap, ap₂, subst, ◌∙◌}
use mathlib.Core.Bool.{Bool, false}
use mathlib.Core.List.{List, [], ◌∷◌, map}
use Prim.Native.Nat.{ℕ, ◌+◌, ◌-◌, ◌*◌, ◌^◌, ◌≤◌, ◌<◌}
use native.Mathlib.Nat.{add-mul, mul_comm, mul-sub, mul_right_comm, mul-le-mul_right, le_of_mul-le-mul_right, eq_of_mul-eq-mul_right}
use lib.Dec.{lit≤}
use lib.IntN.{pos, negsuc}
use lib.Ieee.{Float, binary64, round}
use lib.Ieee.Scale.{round_same}
use Rattle.floats.specs.Fractions.{Fraction, ◌over◌, nearest}
use Rattle.floats.specs.Units.{units_of}
use Rattle.floats.specs.Nearest.{apart, distance, IsNearest}
use Rattle.floats.proofs.Nearest.{round_nearest}
use Rattle.sections.specs.Airfoil.{Coefficients, closed_tail, open_tail, exact_constants, airfoil_constants, at_trailing_edge}
use Rattle.sections.specs.Airfoil.{NearestTo, EachNearest, AreConstants}

-- ---- equal fractions have the same nearest f64s

apart_times : (a b c : ℕ) → apart a b * c ≡ apart (a * c) (b * c)
apart_times a b c = add-mul (a - b) (b - a) c ∙ ap₂ (λ (x y : ℕ). x + y) (times a b) (times b a)
  where
    times : (x y : ℕ) → (x - y) * c ≡ x * c - y * c
    times x y = mul_comm (x - y) c ∙ mul-sub c x y ∙ ap₂ (λ (u v : ℕ). u - v) (mul_comm c x) (mul_comm c y)

module _ (s : Bool) (a b n d : ℕ) (b_some : 0 < b) (d_some : 0 < d) (same : a * d ≡ n * b) where
  across : (y : Float) → distance a b y * d ≡ distance n d y * b
  across y =
      let z = 2 ^ 1074 in
      let u = units_of y in
      let e : a * z * d ≡ n * z * b = mul_right_comm a z d ∙ ap (λ (x : ℕ). x * z) same ∙ mul_right_comm n b z in
      apart_times (a * z) (u * b) d ∙ ap₂ apart e (mul_right_comm u b d) ∙ sym (apart_times (n * z) (u * d) b)

  same_nearest : (r : Float) → IsNearest s n d r → IsNearest s a b r
  same_nearest r p = record {
    held = p.held;
    sign = p.sign;
    least = λ y f g. le_of_mul-le-mul_right (rw (across r, across y) (mul-le-mul_right b (p.least y f g))) d_some;
    even = λ y f g t h.
        let e = sym (across r) ∙ ap (λ (x : ℕ). x * d) t ∙ across y in
        p.even y f g (eq_of_mul-eq-mul_right b b_some (distance n d r) (distance n d y) e) h;
  }

-- ---- one argument

-- a fraction is n / d, with n below 2^64
abbrev Same : Fraction → ℕ → ℕ → Type 0
Same (pos a over b) n d = (0 < b) × (a * d ≡ n * b)
Same (negsuc a over b) n d = ⊥

record Lower (x : Fraction) : Type 0 where
  n : ℕ
  d : ℕ
  small : n < 2 ^ 64
  some : 0 < d
  same : Same x n d

abbrev EachLower : List Fraction → Type 0
EachLower [] = Unit {0}
EachLower (x ∷ xs) = Lower x × EachLower xs

lower_nearest : (x : Fraction) → Lower x → NearestTo x (nearest x)
lower_nearest (pos a over b) l =
    let e = round_same binary64 false a b l.n l.d l.same.0 l.some l.same.1 in
    same_nearest false a b l.n l.d l.same.0 l.some l.same.1 (round binary64 false a b)
    (rw e (round_nearest false l.n l.d l.small l.some))
lower_nearest (negsuc a over b) l = absurd l.same

each_nearest : (xs : List Fraction) → EachLower xs → EachNearest xs (map nearest xs)
each_nearest [] l = tt
each_nearest (x ∷ xs) l = (lower_nearest x l.0, each_nearest xs l.1)

are_constants : (p : Coefficients) → EachLower (exact_constants p) → (r : List Float) → r ≡ airfoil_constants p → AreConstants p r
unfolding airfoil_constants
are_constants p l r e =
    record { rounded = e; nearest = subst (EachNearest (exact_constants p)) (sym e) (each_nearest (exact_constants p) l) }

-- ---- both tails

pub closed_constants : (r : List Float) → r ≡ airfoil_constants closed_tail → AreConstants closed_tail r
closed_constants = are_constants closed_tail (
  record { n = 40853; d = 60000; small = lit≤ tt; some = lit≤ tt; same = (lit≤ tt, refl) },
  (
    record { n = 1067; d = 3750; small = lit≤ tt; some = lit≤ tt; same = (lit≤ tt, refl) },
    (
      record { n = 32743; d = 210000; small = lit≤ tt; some = lit≤ tt; same = (lit≤ tt, refl) },
      (record { n = 152164422844893; d = 323323000000000; small = lit≤ tt; some = lit≤ tt; same = (lit≤ tt, refl) }, tt),
    ),
  ),
)

pub open_constants : (r : List Float) → r ≡ airfoil_constants open_tail → AreConstants open_tail r
open_constants = are_constants open_tail (
  record { n = 8221; d = 12000; small = lit≤ tt; some = lit≤ tt; same = (lit≤ tt, refl) },
  (
    record { n = 8641; d = 30000; small = lit≤ tt; some = lit≤ tt; same = (lit≤ tt, refl) },
    (
      record { n = 33373; d = 210000; small = lit≤ tt; some = lit≤ tt; same = (lit≤ tt, refl) },
      (record { n = 611584192871283; d = 1293292000000000; small = lit≤ tt; some = lit≤ tt; same = (lit≤ tt, refl) }, tt),
    ),
  ),
)

-- ---- at the trailing edge

pub closed_ends_in_a_point : at_trailing_edge closed_tail ≡ pos 0
closed_ends_in_a_point = refl

pub open_ends_blunt : at_trailing_edge open_tail ≡ pos 21
open_ends_blunt = refl
