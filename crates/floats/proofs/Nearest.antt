-- The program logic's rounding meets the statement, and the statement determines its result. Assumes nothing.
use mathlib.Core.Path.{◌≡◌, refl, sym, ap, subst, ◌∙◌}
use mathlib.Core.Logic.{⊎_elim}
use mathlib.Core.Bool.{Bool, not}
use Prim.Native.Nat.{ℕ, zero, suc, ◌+◌, ◌-◌, ◌*◌, ◌/◌, ◌%◌, ◌^◌, ◌≤◌, ◌<◌, compare, Ordering}
use native.Mathlib.Nat.{le_trans, le_of_eq, lt_of_lt_of_le, lt_of_le_of_lt, lt_of_not-le, add-mul, mul_assoc, mul_comm, mul-pos}
use native.Mathlib.Nat.{mul-le-mul_left, mul-le-mul_right, mul-lt-mul_of_pos_right, mod-lt, div-add-mod', eq-or-lt_of_le}
use native.Mathlib.Nat.{eq_of_mul-eq-mul_right, le-div_iff_mul-le, div-le_self, div-div-eq-div-mul}
use native.Mathlib.Decide.{dec_le}
use native.Mathlib.Omega.{arith}
use lib.Dec.{T, eqb, is_le, compare_is_eq, leb→le, nleb→lt, eqb→eq, eqb_refl}
use lib.Pow.{pow-add, pow_pos, pow_mono, pow-lt, shl_lt}
use lib.Ieee.{Float, nan, inf, fin, binary64, size, nearest, fits, to_bits, round}
use lib.Ieee.Digits.{size-le, size_reaches}
use lib.Ieee.Fits.{round_is, round-fits, nearest-le, kept-lt}
use lib.Ieee.Exact.{HasValue, units_val}
use lib.Ieee.Nearest.{closest, nearest-ge}
use Rattle.floats.specs.Floats.{is_finite}
use Rattle.floats.specs.Units.{units_of, Signed}
use Rattle.floats.specs.Nearest.{apart, IsNearest}
use Rattle.floats.proofs.Units.{grid, units_are}
use Rattle.floats.proofs.Canon.{Canon, canon}

-- ---- a / u to the nearest whole number q

record Half (a u q : ℕ) : Type 0 where
  low : 2 * (q * u) ≤ 2 * a + u
  high : 2 * a ≤ 2 * (q * u) + u
  tie_low : 2 * (q * u) ≡ 2 * a + u → q % 2 ≡ 0
  tie_high : 2 * a ≡ 2 * (q * u) + u → q % 2 ≡ 0

abbrev pub Cmp : Ordering → ℕ → ℕ → Type 0
Cmp Ordering.lt a b = a < b
Cmp Ordering.eq a b = a ≡ b
Cmp Ordering.gt a b = b < a

pub cmp : (a b : ℕ) → Cmp (compare a b) a b
cmp a b = go (compare a b) (leb→le a b) (nleb→lt a b) (eqb→eq a b) (λ (e : a ≡ b). subst (λ (x : ℕ). T (eqb a x)) e (eqb_refl a))
  where
    go : (o : Ordering) → (T (is_le o) → a ≤ b) → (T (not (is_le o)) → b < a) → (T (compare_is_eq o) → a ≡ b)
        → (a ≡ b → T (compare_is_eq o)) → Cmp o a b
    go Ordering.lt l g e n = ⊎_elim (λ (z : a ≡ b). absurd (n z)) (λ (z : a < b). z) (eq-or-lt_of_le (l tt))
    go Ordering.eq l g e n = e tt
    go Ordering.gt l g e n = g tt

-- with a = w * u + r
half_of : (a u w r : ℕ) → w * u + r ≡ a → r < u → (o : Ordering) → Cmp o (r * 2) u → Half a u (nearest w o)
half_of a u w r e h Ordering.lt c = record {
  low = omega arith;
  high = omega arith;
  tie_low = λ z. absurd (let y : ⊥ = omega arith in y);
  tie_high = λ z. absurd
      (let y : ⊥ = omega arith in y);
}
half_of a u w r e h Ordering.gt c =
    let s : suc w * u ≡ w * u + u = ap (λ (x : ℕ). x * u) (let z : suc w ≡ w + 1 = omega arith in z) ∙ add-mul w 1 u
    ∙ (let y : w * u + 1 * u ≡ w * u + u = omega arith in y) in
    record {
      low = omega arith;
      high = omega arith;
      tie_low = λ z. absurd (let y : ⊥ = omega arith in y);
      tie_high = λ z. absurd
          (let y : ⊥ = omega arith in y);
    }
half_of a u w r e h Ordering.eq c = by (w % 2) refl (let z : w % 2 < 2 = mod-lt w (let y : 0 < 2 = omega arith in y) in z)
  where
    by : (p : ℕ) → w % 2 ≡ p → p < 2 → Half a u (w + p)
    by zero o l = let s : (w + 0) * u ≡ w * u = ap (λ (x : ℕ). x * u) (let z : w + 0 ≡ w = omega arith in z) in
        record { low = omega arith; high = omega arith; tie_low = λ z. omega arith; tie_high = λ z. omega arith }
    by (suc zero) o l = let s = add-mul w 1 u in
        record { low = omega arith; high = omega arith; tie_low = λ z. omega arith; tie_high = λ z. omega arith }
    by (suc (suc p)) o l = absurd (let y : ⊥ = omega arith in y)

closest_half : (a u : ℕ) → 0 < u → Half a u (closest a u)
closest_half a u h = half_of a u (a / u) (a % u) (div-add-mod' a u) (mod-lt a h) (compare (a % u * 2) u) (cmp (a % u * 2) u)

-- ---- A is nearer to N than B is, or as near and even

record Beats (N A B : ℕ) (Even : Type 0) : Type 0 where
  near : apart N A ≤ apart N B
  tie : apart N A ≡ apart N B → (A ≡ B → ⊥) → Even

module _ (N A B u : ℕ) (Even : Type 0) (o : 0 < u) where
  beats_over : A + u ≤ B → 2 * N ≤ 2 * A + u → (2 * N ≡ 2 * A + u → Even) → Beats N A B Even
  beats_over h l e = record { near = omega arith; tie = λ t n. e (omega arith) }

  beats_under : B + u ≤ A → 2 * A ≤ 2 * N + u → (2 * A ≡ 2 * N + u → Even) → Beats N A B Even
  beats_under h l e = record { near = omega arith; tie = λ t n. e (omega arith) }

  beats_strict : B < A → A ≤ N → Beats N A B Even
  beats_strict h l = record { near = omega arith; tie = λ t n. absurd (let y : ⊥ = omega arith in y) }

beats_self : (N A : ℕ) (Even : Type 0) → Beats N A A Even
beats_self N A Even = record { near = le_of_eq refl; tie = λ t n. absurd (n refl) }

-- ---- q * 2 ^ k units, with a q of 53 digits where k is not 0, against every other f64

record Rounded (N d q k : ℕ) : Type 0 where
  half : Half N (d * 2 ^ k) q
  full : 0 < k → 2 ^ 52 ≤ q
  reach : 0 < k → 2 ^ 52 * (d * 2 ^ k) ≤ N

-- two multiples of u that differ are u apart
a_place : (a b u : ℕ) → a < b → a * u + u ≤ b * u
a_place a b u h = omega (arith, mul-le-mul_right u h, add-mul a 1 u)

pub by_order : {P : Type 0} (a b : ℕ) → (a < b → P) → (a ≡ b → P) → (b < a → P) → P
by_order {P} a b f g h = go (dec_le a b)
  where
    go : Dec (a ≤ b) → P
    go (yes l) = ⊎_elim g f (eq-or-lt_of_le l)
    go (no l) = h (lt_of_not-le l)

module _ (N d q k : ℕ) (D : 0 < d) (r : Rounded N d q k) where
  abbrev u : ℕ
  u = d * 2 ^ k

  u_pos : 0 < u
  u_pos = mul-pos D (pow_pos k)

  abbrev Even : Type 0
  Even = q % 2 ≡ 0

  -- on the grid of 2 ^ k units
  on : (t : ℕ) → Beats N (q * u) (t * u) Even
  on t = by_order q t
      (λ h. beats_over N (q * u) (t * u) u Even u_pos (a_place q t u h) r.half.high r.half.tie_high)
      (λ h. subst (λ (x : ℕ). Beats N (q * u) (x * u) Even) h (beats_self N (q * u) Even))
      (λ h. beats_under N (q * u) (t * u) u Even u_pos (a_place t q u h) r.half.low r.half.tie_low)

  -- below 2 ^ 52 * 2 ^ k units, where f64s lie closer
  beneath : (B : ℕ) → 0 < k → B < 2 ^ 52 * u → Beats N (q * u) B Even
  beneath B o h = ⊎_elim
      (λ (e : 2 ^ 52 ≡ q). let f : 2 ^ 52 * u
      ≡ q * u = ap (λ (x : ℕ). x * u) e in let g = r.reach o in beats_strict N (q * u) B u Even u_pos (omega arith) (omega arith))
      (λ (e : 2 ^ 52 < q). let f = a_place (2 ^ 52) q u e in beats_under N (q * u) B u Even u_pos (omega arith) r.half.low
      r.half.tie_low)
      (eq-or-lt_of_le (r.full o))

  against : (m j : ℕ) → m < 2 ^ 53 → Dec (k ≤ j) → Beats N (q * u) (m * 2 ^ j * d) Even
  against m j f (yes h) =
      let e : m * 2 ^ (j - k) * u ≡ m * 2 ^ j * d =
      ap (λ (x : ℕ). m * 2 ^ (j - k) * x) (mul_comm d (2 ^ k)) ∙ sym (mul_assoc (m * 2 ^ (j - k)) (2 ^ k) d)
      ∙ ap (λ (x : ℕ). x * d)
      (mul_assoc m (2 ^ (j - k)) (2 ^ k)
      ∙ ap (λ (x : ℕ). m * x) (sym (pow-add 2 (j - k) k) ∙ ap (λ (x : ℕ). 2 ^ x) (let z : j - k + k ≡ j = omega arith in z))) in
      subst (λ (x : ℕ). Beats N (q * u) x Even) e (on (m * 2 ^ (j - k)))
  against m j f (no h) =
      let l = lt_of_not-le h in
      let g : 53 + j ≤ 52 + k = omega arith in
      let a : m * 2 ^ j < 2 ^ 52 * 2 ^ k = lt_of_lt_of_le (shl_lt 53 j f) (le_trans (pow_mono g) (le_of_eq (pow-add 2 52 k))) in
      let e : 2 ^ 52 * 2 ^ k * d ≡ 2 ^ 52 * u = mul_assoc (2 ^ 52) (2 ^ k) d ∙ ap (λ (x : ℕ). 2 ^ 52 * x) (mul_comm (2 ^ k) d) in
      beneath (m * 2 ^ j * d) (omega arith) (lt_of_lt_of_le (mul-lt-mul_of_pos_right a D) (le_of_eq e))

  all : (y : Float) → T (fits binary64 y) → Beats N (q * u) (units_of y * d) Even
  all y f = let g = grid y f in subst (λ (x : ℕ). Beats N (q * u) (x * d) Even) (sym g.is)
      (against g.m g.j g.few (dec_le k g.j))

-- ---- the last bit

pub even_mul : (q p : ℕ) → q % 2 ≡ 0 → q * p % 2 ≡ 0
even_mul q p h =
    let e : q * p ≡ 2 * (q / 2 * p) = ap (λ (x : ℕ). x * p) (let z : q ≡ 2 * (q / 2) = omega arith in z) ∙ mul_assoc 2 (q / 2) p in
    omega arith

cancel : (q q' k k' : ℕ) → k ≤ k' → q' * 2 ^ k' ≡ q * 2 ^ k → q' * 2 ^ (k' - k) ≡ q
cancel q q' k k' l e =
    eq_of_mul-eq-mul_right (2 ^ k) (pow_pos k) (q' * 2 ^ (k' - k)) q
    (mul_assoc q' (2 ^ (k' - k)) (2 ^ k)
    ∙ ap (λ (x : ℕ). q' * x) (sym (pow-add 2 (k' - k) k) ∙ ap (λ (x : ℕ). 2 ^ x) (let z : k' - k + k ≡ k' = omega arith in z)) ∙ e)

even_same : (q q' k k' : ℕ) → q' * 2 ^ k' ≡ q * 2 ^ k → q ≤ 2 ^ 53 → (0 < k' → 2 ^ 52 ≤ q') → q % 2 ≡ 0 → Dec (k' ≤ k) → q' % 2 ≡ 0
even_same q q' k k' e l f h (yes g) = subst (λ (x : ℕ). x % 2 ≡ 0) (cancel q' q k' k g (sym e)) (even_mul q (2 ^ (k - k')) h)
even_same q q' k k' e l f h (no g) =
    let a = lt_of_not-le g in
    let b = f (omega arith) in
    let c : q' * 2 ^ (k' - k) ≡ q = cancel q q' k k' (omega arith) e in
    let d : 2 ^ 1 ≤ 2 ^ (k' - k) = pow_mono (let z : 1 ≤ k' - k = omega arith in z) in
    let i = mul-le-mul_left q' d in
    omega arith

even_bits : (x : Float) → Canon x → (q k : ℕ) → units_of x ≡ q * 2 ^ k → q ≤ 2 ^ 53 → q % 2 ≡ 0 → to_bits binary64 x % 2 ≡ 0
even_bits x c q k e l h = c.last ∙ even_same q c.q k c.k (sym c.is ∙ e) l c.full h (dec_le c.k k)

-- ---- `round`

pub has_units : (x : Float) (s : Bool) (n : ℕ) → HasValue x s n (2 ^ 1074) → (units_of x ≡ n) × Signed s x × T (is_finite x)
has_units nan s n h = absurd h
has_units (inf t) s n h = absurd h
has_units (fin t m e) s n h = (units_are (fin t m e) n h.1, h.0, tt)

module _ (s : Bool) (n d : ℕ) (small : n < 2 ^ 64) (D : 0 < d) where
  abbrev N : ℕ
  N = n * 2 ^ 1074

  abbrev k : ℕ
  k = size (N / d) - 53

  abbrev q : ℕ
  q = closest N (d * 2 ^ k)

  q_most : q ≤ 2 ^ 53
  q_most = le_trans (nearest-le (N / (d * 2 ^ k)) (compare (N % (d * 2 ^ k) * 2) (d * 2 ^ k)))
      (subst (λ (x : ℕ). x < 2 ^ 53) (div-div-eq-div-mul N d (2 ^ k)) (kept-lt 53 (N / d)))

  reaches : 0 < k → 2 ^ 52 * (d * 2 ^ k) ≤ N
  reaches h =
      let a : 2 ^ 52 * 2 ^ k ≤ N / d = le_trans (le_of_eq (sym (pow-add 2 52 k))) (size_reaches (N / d) (52 + k) (omega arith)) in
      le_trans (le_of_eq (ap (λ (x : ℕ). 2 ^ 52 * x) (mul_comm d (2 ^ k)) ∙ sym (mul_assoc (2 ^ 52) (2 ^ k) d))) ((le-div_iff_mul-le D).0 a)

  rounded : Rounded N d q k
  rounded = record {
    half = closest_half N (d * 2 ^ k) (mul-pos D (pow_pos k));
    full = λ h. le_trans ((le-div_iff_mul-le (mul-pos D (pow_pos k))).1 (reaches h))
        (nearest-ge (N / (d * 2 ^ k)) (compare (N % (d * 2 ^ k) * 2) (d * 2 ^ k)));
    reach = reaches;
  }

  k_most : k ≤ 1085
  k_most = let h : size (N / d) ≤ 64 + 1074 = size-le (N / d) (64 + 1074) (lt_of_le_of_lt (div-le_self N d) (shl_lt 64 1074 small)) in
      omega arith

  in_range : q * 2 ^ k < 2 ^ (1074 + 1024)
  in_range = lt_of_le_of_lt (mul-le-mul_right (2 ^ k) q_most)
      (lt_of_le_of_lt (le_of_eq (sym (pow-add 2 53 k))) (pow-lt (let z : 53 + k < 1074 + 1024 = omega (arith, k_most) in z)))

  value : HasValue (round binary64 s n d) s (q * 2 ^ k) (2 ^ 1074)
  value = subst (λ (z : Float). HasValue z s (q * 2 ^ k) (2 ^ 1074)) (sym (round_is binary64 s n d)) (units_val binary64 s q k in_range)

  pub round_nearest : IsNearest s n d (round binary64 s n d)
  round_nearest =
      let r = round binary64 s n d in
      let v = has_units r s (q * 2 ^ k) value in
      let e : units_of r * d ≡ q * (d * 2 ^ k) = ap (λ (x : ℕ). x * d) v.0 ∙ mul_assoc q (2 ^ k) d
      ∙ ap (λ (x : ℕ). q * x) (mul_comm (2 ^ k) d) in
      let b : (y : Float) → T (fits binary64 y) → Beats N (units_of r * d) (units_of y * d) (q % 2 ≡ 0) = λ y f.
      subst (λ (x : ℕ). Beats N x (units_of y * d) (q % 2 ≡ 0)) (sym e) (all N d q k D rounded y f) in
      record {
        held = round-fits binary64 s n d;
        sign = v.1;
        least = λ y f g. (b y f).near;
        even = λ y f g t h. even_bits r (canon r (round-fits binary64 s n d) v.2) q k v.0 q_most
            ((b y f).tie t (λ i. h (eq_of_mul-eq-mul_right d D (units_of r) (units_of y) i)));
      }
