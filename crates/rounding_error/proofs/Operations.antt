-- Each operation of f64 gives what is near the exact result: at most 2^-53 of a size that the result does not pass. Assumes nothing.
use mathlib.Core.Path.{◌≡◌, refl, sym, ap, subst}
use mathlib.Core.Bool.{Bool, true, false, not, cond}
use Prim.Native.Nat.{ℕ, ◌+◌, ◌-◌, ◌*◌, ◌≤◌, ◌<◌}
use native.Mathlib.Nat.{mul-pos, lt_irrefl}
use native.Mathlib.Omega.{arith}
use lib.Dec.{T, ltb, eqb, eqb→eq, ltb→lt, nltb→le}
use lib.Ieee.{Float, nan, inf, fin, binary64, up, down, round, neg, sum, add, sub, mul, div}
use lib.Ieee.Fits.{down_pos}
use lib.Ieee.Scale.{finite}
use lib.Ieee.Positive.{positive}
use Rattle.floats.specs.Operations.{◌⊕◌, ◌⊖◌, ◌⊗◌, ◌⊘◌}
use Rattle.rounding_error.proofs.Numbers.{Number, number, Size, ◌per◌, ◌plus◌, minus, ◌less◌, ◌times◌, ◌over◌, roundoff, IsNumber}
use Rattle.rounding_error.proofs.Numbers.{Same, Under, value_of, Near, Normal}
use Rattle.rounding.proofs.Monotone.{positive_num}
use Rattle.rounding_error.proofs.Roundoff.{round_near, signed, AtMost}
use Rattle.rounding_error.proofs.Distances.{within_same}

pub near_same : (x : Float) (v w : Number) (e : Size) → IsNumber v → Near x v e → Same v w → Near x w e
near_same x v w e i h s = record { finite = h.finite; within = within_same e (value_of x) v w i h.within s }

-- ---- A / D with the sign s is (P − N) / D
abbrev Signed : Bool → ℕ → ℕ → ℕ → Type 0
Signed false A P N = P ≡ A + N
Signed true A P N = N ≡ A + P

at_most_lem : (s : Bool) (A P N D : ℕ) (M : Size) → Signed s A P N → Under M (number P N D) → AtMost A D M
at_most_lem false A P N D (b per d) e h = go h.below (ap (λ (x : ℕ). x * d) e)
  where
    go : (P * 1 + 0 * D) * d ≤ (0 * D + N * 1) * d + b * (D * 1) → P * d ≡ (A + N) * d → A * d ≤ b * D
    go u v = omega arith
at_most_lem true A P N D (b per d) e h = go h.above (ap (λ (x : ℕ). x * d) e)
  where
    go : (0 * D + N * 1) * d ≤ (P * 1 + 0 * D) * d + b * (1 * D) → N * d ≡ (A + P) * d → A * d ≤ b * D
    go u v = omega arith

signed_same : (s : Bool) (A P N D : ℕ) → Signed s A P N → Same (signed s A D) (number P N D)
signed_same false A P N D e = go (ap (λ (x : ℕ). x * D) e)
  where
    go : P * D ≡ (A + N) * D → A * D + N * D ≡ P * D + 0 * D
    go u = omega arith
signed_same true A P N D e = go (ap (λ (x : ℕ). x * D) e)
  where
    go : N * D ≡ (A + P) * D → 0 * D + N * D ≡ P * D + A * D
    go u = omega arith

signed_is : (s : Bool) (A D : ℕ) → 0 < D → IsNumber (signed s A D)
signed_is false A D h = h
signed_is true A D h = h

rounded : (s : Bool) (A P N D : ℕ) (M : Size) → 0 < D → Normal M → Under M (number P N D) → Signed s A P N
    → Near (round binary64 s A D) (number P N D) (roundoff M)
rounded s A P N D M i U h e =
    near_same (round binary64 s A D) (signed s A D) (number P N D) (roundoff M) (signed_is s A D i)
    (round_near s A D M i U (at_most_lem s A P N D M e h)) (signed_same s A P N D e)

-- ---- the product
product : (X Y : ℕ) → X * Y + 0 * 0 ≡ X * Y + (X * 0 + 0 * Y)
product X Y = omega arith

product' : (X Y : ℕ) → 0 * 0 + X * Y ≡ X * Y + (0 * Y + X * 0)
product' X Y = omega arith

pub mul_exact : (x y : Float) (M : Size) → T (finite x) → T (finite y) → Normal M → Under M (value_of x times value_of y)
    → Near (x ⊗ y) (value_of x times value_of y) (roundoff M)
unfolding mul
mul_exact nan y M i j U h = absurd i
mul_exact (inf s) y M i j U h = absurd i
mul_exact (fin true m e) nan M i j U h = absurd j
mul_exact (fin false m e) nan M i j U h = absurd j
mul_exact (fin true m e) (inf t) M i j U h = absurd j
mul_exact (fin false m e) (inf t) M i j U h = absurd j
mul_exact (fin false m e) (fin false n g) M i j U h =
    rounded false (m * up e * (n * up g)) (m * up e * (n * up g) + 0 * 0) (m * up e * 0 + 0 * (n * up g)) (down e * down g) M
    (mul-pos (down_pos e) (down_pos g)) U h (product (m * up e) (n * up g))
mul_exact (fin false m e) (fin true n g) M i j U h =
    rounded true (m * up e * (n * up g)) (m * up e * 0 + 0 * (n * up g)) (m * up e * (n * up g) + 0 * 0) (down e * down g) M
    (mul-pos (down_pos e) (down_pos g)) U h (product (m * up e) (n * up g))
mul_exact (fin true m e) (fin false n g) M i j U h =
    rounded true (m * up e * (n * up g)) (0 * (n * up g) + m * up e * 0) (0 * 0 + m * up e * (n * up g)) (down e * down g) M
    (mul-pos (down_pos e) (down_pos g)) U h (product' (m * up e) (n * up g))
mul_exact (fin true m e) (fin true n g) M i j U h =
    rounded false (m * up e * (n * up g)) (0 * 0 + m * up e * (n * up g)) (0 * (n * up g) + m * up e * 0) (down e * down g) M
    (mul-pos (down_pos e) (down_pos g)) U h (product' (m * up e) (n * up g))

-- ---- the sum
alike : (a b u v : ℕ) → a + b ≡ a + b + (0 * u + 0 * v)
alike a b u v = omega arith

-- a − b over c, as a sum of one above and one below 0
pick : (a b c P N : ℕ) (M : Size) → 0 < c → Normal M → P ≡ a → N ≡ b → Under M (number P N c)
    → Near (sum binary64 false a true b c) (number P N c) (roundoff M)
unfolding sum
pick a b c P N M i U p n h = go (ltb a b) (ltb→lt a b) (nltb→le a b)
  where
    go : (x : Bool) → (T x → a < b) → (T (not x) → b ≤ a)
        → Near (cond x (round binary64 true (b - a) c) (round binary64 false (a - b) c)) (number P N c) (roundoff M)
    go true k l = rounded true (b - a) P N c M i U h (rest (k tt))
      where
        rest : a < b → N ≡ b - a + P
        rest k = omega arith
    go false k l = rounded false (a - b) P N c M i U h (rest (l tt))
      where
        rest : b ≤ a → P ≡ a - b + N
        rest k = omega arith

pick' : (a b c P N : ℕ) (M : Size) → 0 < c → Normal M → P ≡ b → N ≡ a → Under M (number P N c)
    → Near (sum binary64 true a false b c) (number P N c) (roundoff M)
unfolding sum
pick' a b c P N M i U p n h = go (ltb a b) (ltb→lt a b) (nltb→le a b) (ltb b a) (ltb→lt b a) (nltb→le b a)
  where
    go : (x : Bool) → (T x → a < b) → (T (not x) → b ≤ a) → (y : Bool) → (T y → b < a) → (T (not y) → a ≤ b)
        → Near (cond x (round binary64 false (b - a) c) (round binary64 y (a - b) c)) (number P N c) (roundoff M)
    go true k l y r t = rounded false (b - a) P N c M i U h (rest (k tt))
      where
        rest : a < b → P ≡ b - a + N
        rest k = omega arith
    go false k l true r t = rounded true (a - b) P N c M i U h (rest (r tt))
      where
        rest : b < a → N ≡ a - b + P
        rest k = omega arith
    go false k l false r t = rounded false (a - b) P N c M i U h (rest (l tt) (t tt))
      where
        rest : b ≤ a → a ≤ b → P ≡ a - b + N
        rest k l = omega arith

first : (a u : ℕ) → a + 0 * u ≡ a
first a u = omega arith

second : (a u : ℕ) → 0 * u + a ≡ a
second a u = omega arith

pub add_exact : (x y : Float) (M : Size) → T (finite x) → T (finite y) → Normal M → Under M (value_of x plus value_of y)
    → Near (x ⊕ y) (value_of x plus value_of y) (roundoff M)
unfolding add sum
add_exact nan y M i j U h = absurd i
add_exact (inf s) y M i j U h = absurd i
add_exact (fin true m e) nan M i j U h = absurd j
add_exact (fin false m e) nan M i j U h = absurd j
add_exact (fin true m e) (inf t) M i j U h = absurd j
add_exact (fin false m e) (inf t) M i j U h = absurd j
add_exact (fin false m e) (fin false n g) M i j U h =
    rounded false (m * up e * down g + n * up g * down e) (m * up e * down g + n * up g * down e) (0 * down g + 0 * down e)
    (down e * down g) M (mul-pos (down_pos e) (down_pos g)) U h
    (alike (m * up e * down g) (n * up g * down e) (down g) (down e))
add_exact (fin true m e) (fin true n g) M i j U h =
    rounded true (m * up e * down g + n * up g * down e) (0 * down g + 0 * down e) (m * up e * down g + n * up g * down e)
    (down e * down g) M (mul-pos (down_pos e) (down_pos g)) U h
    (alike (m * up e * down g) (n * up g * down e) (down g) (down e))
add_exact (fin false m e) (fin true n g) M i j U h =
    pick (m * up e * down g) (n * up g * down e) (down e * down g) (m * up e * down g + 0 * down e) (0 * down g + n * up g * down e) M
    (mul-pos (down_pos e) (down_pos g)) U
    (first (m * up e * down g) (down e)) (second (n * up g * down e) (down g)) h
add_exact (fin true m e) (fin false n g) M i j U h =
    pick' (m * up e * down g) (n * up g * down e) (down e * down g) (0 * down g + n * up g * down e) (m * up e * down g + 0 * down e) M
    (mul-pos (down_pos e) (down_pos g)) U
    (second (n * up g * down e) (down g)) (first (m * up e * down g) (down e)) h

-- ---- the difference
pub neg_value : (x : Float) → value_of (neg x) ≡ minus (value_of x)
unfolding neg
neg_value nan = refl
neg_value (inf s) = refl
neg_value (fin true m e) = refl
neg_value (fin false m e) = refl

neg_finite : (x : Float) → T (finite x) → T (finite (neg x))
unfolding neg
neg_finite nan i = absurd i
neg_finite (inf s) i = absurd i
neg_finite (fin s m e) i = tt

pub sub_exact : (x y : Float) (M : Size) → T (finite x) → T (finite y) → Normal M → Under M (value_of x less value_of y)
    → Near (x ⊖ y) (value_of x less value_of y) (roundoff M)
unfolding sub
sub_exact x y M i j U h =
    subst (λ (v : Number). Near (add binary64 x (neg y)) (value_of x plus v) (roundoff M)) (neg_value y)
    (add_exact x (neg y) M i (neg_finite y j) U (subst (λ (v : Number). Under M (value_of x plus v)) (sym (neg_value y)) h))

-- ---- the quotient by an f64 above 0
quotient : (a u : ℕ) → a ≡ a + 0 * u
quotient a u = omega arith

pub div_exact : (x y : Float) (M : Size) → T (finite x) → T (positive y) → Normal M → Under M (value_of x over y)
    → Near (x ⊘ y) (value_of x over y) (roundoff M)
unfolding div
div_exact nan y M i j U h = absurd i
div_exact (inf s) y M i j U h = absurd i
div_exact (fin true m e) nan M i j U h = absurd j
div_exact (fin false m e) nan M i j U h = absurd j
div_exact (fin true m e) (inf t) M i j U h = absurd j
div_exact (fin false m e) (inf t) M i j U h = absurd j
div_exact (fin true m e) (fin true n g) M i j U h = absurd j
div_exact (fin false m e) (fin true n g) M i j U h = absurd j
div_exact (fin true m e) (fin false n g) M i j U h = go (eqb n 0) (eqb→eq n 0)
  where
    go : (x : Bool) → (T x → n ≡ 0)
        → Near (cond x (cond (eqb m 0) nan (inf true)) (round binary64 true (m * up e * down g) (n * up g * down e)))
        (number (0 * down g) (m * up e * down g) (n * up g * down e)) (roundoff M)
    go true z = absurd (lt_irrefl 0 (rw (z tt) at (ltb→lt 0 n j)))
    go false z = rounded true (m * up e * down g) (0 * down g) (m * up e * down g) (n * up g * down e) M
        (mul-pos (positive_num (fin false n g) j) (down_pos e)) U h (quotient (m * up e * down g) (down g))
div_exact (fin false m e) (fin false n g) M i j U h = go (eqb n 0) (eqb→eq n 0)
  where
    go : (x : Bool) → (T x → n ≡ 0)
        → Near (cond x (cond (eqb m 0) nan (inf false)) (round binary64 false (m * up e * down g) (n * up g * down e)))
        (number (m * up e * down g) (0 * down g) (n * up g * down e)) (roundoff M)
    go true z = absurd (lt_irrefl 0 (rw (z tt) at (ltb→lt 0 n j)))
    go false z = rounded false (m * up e * down g) (m * up e * down g) (0 * down g) (n * up g * down e) M
        (mul-pos (positive_num (fin false n g) j) (down_pos e)) U h (quotient (m * up e * down g) (down g))
