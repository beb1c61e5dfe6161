-- Rounding keeps the order of fractions with a sign, so a bound that is a value of the format stays one. Assumes nothing.
use mathlib.Core.Path.{◌≡◌, refl, sym, subst}
use mathlib.Core.Logic.{inl, inr}
use mathlib.Core.Bool.{Bool, true, false, ◌&&◌, ◌||◌, true≢false}
use Prim.Native.Nat.{ℕ, ◌+◌, ◌*◌, ◌≤◌, ◌<◌}
use native.Mathlib.Nat.{le_of_eq, le_of_lt, zero-mul, zero-lt-suc, mul-pos, eq-zero-or-pos}
use native.Mathlib.Omega.{arith}
use mir.Facts.{or_yes}
use lib.Dec.{T, ltb, eqb, eqb→eq, ltb→lt}
use lib.Ieee.{Float, nan, inf, fin, Format, up, down, round, le}
use lib.Ieee.Fits.{down_pos, and_l}
use lib.Ieee.Exact.{HasValue}
use lib.Ieee.Order.{round_mono}
use lib.Ieee.Scale.{finite}
use lib.Ieee.Positive.{num, den, through}
use Rattle.rounding.specs.Sizes.{AtMost, AtLeast}
use Rattle.rounding.proofs.Signs.{minus, plus, sign, round_sign, round_plus, neg_num, neg_den, neg_finite}
use Rattle.rounding.proofs.Signed.{Leq, leq_through, leq_same}
use Rattle.rounding.proofs.Ordered.{le→order, neg_le, neg_le_plus, zeros}
use Rattle.rounding.proofs.Exact.{Exact, exact_value, zero_exact}

-- ---- sizes: x <= y or y <= x, where x has the sign plus and y is b / d
lt_or_eq : (a b : ℕ) → T (ltb a b || (eqb a b && true)) → a ≤ b
lt_or_eq a b t = elim (or_yes (ltb a b) (eqb a b && true) t)
    [ inl u ↦ le_of_lt (ltb→lt a b u) | inr u ↦ le_of_eq (eqb→eq a b (and_l (eqb a b) true u)) ]

most_of_value : (x y : Float) (b d : ℕ) → T (plus x) → HasValue y false b d → T (le x y) → AtMost b d x
unfolding le
most_of_value nan y b d p v h = absurd p
most_of_value (inf true) y b d p v h = absurd p
most_of_value (inf false) nan b d p v h = absurd v
most_of_value (inf false) (inf t) b d p v h = absurd v
most_of_value (inf false) (fin t n g) b d p v h = absurd h
most_of_value (fin true m e) y b d p v h = absurd p
most_of_value (fin false m e) nan b d p v h = absurd v
most_of_value (fin false m e) (inf t) b d p v h = absurd v
most_of_value (fin false m e) (fin true n g) b d p v h = absurd (true≢false v.0)
most_of_value (fin false m e) (fin false n g) b d p v h =
    record {
      finite = tt;
      size = through (m * up e) (n * up g) b (down e) (down g) d (down_pos g) (lt_or_eq (m * up e * down g) (n * up g * down e) h)
          (le_of_eq v.1);
    }

least_of_value : (x y : Float) (b d : ℕ) → T (plus x) → T (finite x) → HasValue y false b d → T (le y x) → AtLeast b d x
unfolding le
least_of_value nan y b d p i v h = absurd p
least_of_value (inf t) y b d p i v h = absurd i
least_of_value (fin true m e) y b d p i v h = absurd p
least_of_value (fin false m e) nan b d p i v h = absurd v
least_of_value (fin false m e) (inf t) b d p i v h = absurd v
least_of_value (fin false m e) (fin true n g) b d p i v h = absurd (true≢false v.0)
least_of_value (fin false m e) (fin false n g) b d p i v h =
    record {
      finite = tt;
      size = through b (n * up g) (m * up e) d (down g) (down e) (down_pos g) (le_of_eq (sym v.1))
          (lt_or_eq (n * up g * down e) (m * up e * down g) h);
    }

sign_most : (s : Bool) (x : Float) (b d : ℕ) → AtMost b d x → AtMost b d (sign s x)
unfolding sign
sign_most false x b d h = h
sign_most true x b d h = record { finite = rw (neg_finite x) h.finite; size = rw (neg_num x, neg_den x) h.size }

sign_least : (s : Bool) (x : Float) (b d : ℕ) → AtLeast b d x → AtLeast b d (sign s x)
unfolding sign
sign_least false x b d h = h
sign_least true x b d h = record { finite = rw (neg_finite x) h.finite; size = rw (neg_num x, neg_den x) h.size }

sign_finite : (s : Bool) (x : Float) → finite (sign s x) ≡ finite x
unfolding sign
sign_finite false x = refl
sign_finite true x = neg_finite x

-- a / c <= b / d
pub round_most : (f : Format) (s : Bool) (a c b d : ℕ) → 0 < c → 0 < d → Exact f b d → a * d ≤ b * c → AtMost b d (round f s a c)
round_most f s a c b d C D v h =
    rw (round_sign f s a c)
    (sign_most s (round f false a c) b d
    (most_of_value (round f false a c) (round f false b d) b d (round_plus f a c) v (round_mono f a c b d C D h)))

-- a / c >= b / d
pub round_least : (f : Format) (s : Bool) (a c b d : ℕ) → 0 < c → 0 < d → Exact f b d → T (finite (round f s a c)) → b * c ≤ a * d
    → AtLeast b d (round f s a c)
round_least f s a c b d C D v i h =
    rw (round_sign f s a c)
    (sign_least s (round f false a c) b d
    (least_of_value (round f false a c) (round f false b d) b d (round_plus f a c)
    (rw (sign_finite s (round f false a c)) at (rw (round_sign f s a c) at i)) v (round_mono f b d a c D C h)))

-- ---- order, whatever the signs
zero_factor : (a d k : ℕ) → 0 < d → a * d + k ≤ 0 → a ≡ 0
zero_factor a d k D h = elim (eq-zero-or-pos a) [ inl z ↦ z | inr p ↦ absurd (let q = mul-pos p D in let n : ⊥ = omega arith in n) ]

zero_most : (f : Format) (a c : ℕ) → 0 < c → a ≡ 0 → AtMost 0 1 (round f false a c)
zero_most f a c C e = round_most f false a c 0 1 C (zero-lt-suc 0) (zero_exact f) (rw e (le_of_eq (sym (zero-mul c))))

pub round_order : (f : Format) (s : Bool) (a c : ℕ) (t : Bool) (b d : ℕ) → 0 < c → 0 < d → Leq s (a * d) t (b * c)
    → T (le (round f s a c) (round f t b d))
round_order f false a c false b d C D h = round_mono f a c b d C D (omega arith)
round_order f true a c false b d C D h =
    rw (round_sign f true a c) (unfold sign in neg_le_plus (round f false a c) (round f false b d) (round_plus f a c) (round_plus f b d))
round_order f true a c true b d C D h =
    rw (round_sign f true a c, round_sign f true b d)
    (unfold sign in neg_le (round f false a c) (round f false b d) (round_plus f a c) (round_plus f b d)
    (round_mono f b d a c D C (omega arith)))
round_order f false a c true b d C D h =
    rw (round_sign f true b d)
    (unfold sign in zeros (round f false a c) (round f false b d) (round_plus f a c) (round_plus f b d)
    (zero_most f a c C (zero_factor a d (b * c) D (omega arith)))
    (zero_most f b d D (zero_factor b c (a * d) C (omega arith))))

-- ---- an exact bound ±b / d stays one, from below and from above
from_value : (x y : Float) (s : Bool) (b d : ℕ) → T (finite y) → HasValue x s b d → T (le x y) → 0 < d
    → Leq s (b * den y) (minus y) (num y * d)
from_value nan y s b d i v h D = absurd v
from_value (inf t) y s b d i v h D = absurd v
from_value (fin t m e) y s b d i v h D =
    rw (← v.0)
    (leq_through t t (minus y) b (m * up e) (num y) d (down e) (den y) (down_pos e)
    (leq_same t (b * down e) (m * up e * d) (sym v.1))
    (le→order (fin t m e) y tt i h))

to_value : (x y : Float) (s : Bool) (b d : ℕ) → T (finite y) → HasValue x s b d → T (le y x) → 0 < d
    → Leq (minus y) (num y * d) s (b * den y)
to_value nan y s b d i v h D = absurd v
to_value (inf t) y s b d i v h D = absurd v
to_value (fin t m e) y s b d i v h D =
    rw (← v.0)
    (leq_through (minus y) t t (num y) (m * up e) b (den y) (down e) d (down_pos e)
    (le→order y (fin t m e) i tt h)
    (leq_same t (m * up e * d) (b * down e) v.1))

pub round_over : (f : Format) (s : Bool) (b d : ℕ) (t : Bool) (a c : ℕ) (r : Float) → r ≡ round f t a c → T (finite r) → 0 < c → 0 < d
    → Exact f b d
    → Leq s (b * c) t (a * d) → Leq s (b * den r) (minus r) (num r * d)
round_over f s b d t a c r e i C D v h =
    from_value (round f s b d) r s b d i (exact_value f s b d v)
    (subst (λ (z : Float). T (le (round f s b d) z)) (sym e) (round_order f s b d t a c D C h)) D

pub round_under : (f : Format) (s : Bool) (b d : ℕ) (t : Bool) (a c : ℕ) (r : Float) → r ≡ round f t a c → T (finite r) → 0 < c → 0 < d
    → Exact f b d
    → Leq t (a * d) s (b * c) → Leq (minus r) (num r * d) s (b * den r)
round_under f s b d t a c r e i C D v h =
    to_value (round f s b d) r s b d i (exact_value f s b d v)
    (subst (λ (z : Float). T (le z (round f s b d))) (sym e) (round_order f t a c s b d C D h)) D
