-- The root of an f64 is no smaller than an f64 whose square is no larger. Assumes nothing.
use mathlib.Core.Path.{◌≡◌, sym, ap, ◌∙◌}
use mathlib.Core.Bool.{Bool, true, false, not}
use Prim.Native.Nat.{ℕ, suc, ◌+◌, ◌*◌, ◌^◌, ◌≤◌, ◌<◌, zero-le}
use native.Mathlib.Nat.{le_trans, le_of_eq, mul_comm, mul_assoc, mul_left_comm, mul_right_comm, mul-le-mul, mul-le-mul_right}
use native.Mathlib.Nat.{le_of_mul-le-mul_right, mul-pos, zero-lt-suc, div-mul-le_self}
use native.Mathlib.Omega.{arith}
use lib.Dec.{T, leb, leb→le, nleb→lt, lt→ltb}
use lib.IntN.{ℤ}
use lib.Pow.{pow_pos}
use lib.Ieee.{Float, nan, inf, fin, binary64, up, down, fits}
use lib.Ieee.Fits.{down_pos}
use lib.Ieee.Positive.{positive, positive-finite, num, den}
use Rattle.floats.specs.Units.{units_of}
use Rattle.floats.proofs.Units.{for_positive, units_are, exponent, few_digits}
use Rattle.root.specs.Root.{radicand, root_of}
use Rattle.root.proofs.Nearest.{is_root, root_positive}
use Rattle.root.proofs.Squares.{even_square}
use Rattle.rounding.specs.Sizes.{AtLeast}

-- ---- a root below b of a number of at least b * b would be nearer to b
too_small : (a b n : ℕ) → a < b → b * b ≤ n → 4 * n < (a + b) * (a + b) → ⊥
too_small a b n l h k =
    let s : (a + b) * (a + b) ≤ (b + b) * (b + b) = mul-le-mul (more a b l) (more a b l) in
    let e : (b + b) * (b + b) ≡ 4 * (b * b) = ap (λ (z : ℕ). z * z) (twice b) ∙ even_square b in
    let z : ⊥ = omega arith in z
  where
    more : (a b : ℕ) → a < b → a + b ≤ b + b
    more a b h = omega arith

    twice : (b : ℕ) → b + b ≡ 2 * b
    twice b = omega arith

not_below : (a b n : ℕ) → b * b ≤ n → (a < b → 4 * n < (a + b) * (a + b)) → b ≤ a
not_below a b n h k = go (leb b a) (leb→le b a) (nleb→lt b a)
  where
    go : (t : Bool) → (T t → b ≤ a) → (T (not t) → a < b) → b ≤ a
    go true p q = p tt
    go false p q = absurd (too_small a b n (q tt) h (k (q tt)))

-- ---- in units of 1 / u
module _ (nx dx ux ny dy uy u : ℕ) (is_x : nx * u ≡ ux * dx) (is_y : ny * u ≡ uy * dy) where
  square_under : 0 < dx → 0 < dy → ny * ny * dx ≤ nx * (dy * dy) → uy * uy ≤ ux * u
  square_under X Y h =
      let left : uy * uy * (dx * (dy * dy)) ≡ ny * ny * dx * (u * u) =
      first uy dx dy ∙ ap (λ (z : ℕ). z * z * dx) (sym is_y) ∙ second ny u dx in
      let right : nx * (dy * dy) * (u * u) ≡ ux * u * (dx * (dy * dy)) =
      third nx dy u ∙ ap (λ (z : ℕ). z * u * (dy * dy)) is_x ∙ fourth ux dx u dy in
      le_of_mul-le-mul_right (le_trans (le_of_eq left) (le_trans (mul-le-mul_right (u * u) h) (le_of_eq right))) (mul-pos X (mul-pos Y Y))
    where
      first : (a d e : ℕ) → a * a * (d * (e * e)) ≡ a * e * (a * e) * d
      first a d e = simp (mul_assoc, mul_comm, mul_left_comm)

      second : (n v d : ℕ) → n * v * (n * v) * d ≡ n * n * d * (v * v)
      second n v d = simp (mul_assoc, mul_comm, mul_left_comm)

      third : (n e v : ℕ) → n * (e * e) * (v * v) ≡ n * v * v * (e * e)
      third n e v = simp (mul_assoc, mul_comm, mul_left_comm)

      fourth : (a d v e : ℕ) → a * d * v * (e * e) ≡ a * v * (d * (e * e))
      fourth a d v e = simp (mul_assoc, mul_left_comm)

least_in_units : (ny dy uy nr dr ur u : ℕ) → 0 < u → ny * u ≡ uy * dy → ur * dr ≤ nr * u → uy ≤ ur → ny * dr ≤ nr * dy
least_in_units ny dy uy nr dr ur u U e f h =
    let left : ny * dr * u ≤ ur * dy * dr = le_trans (le_of_eq (mul_right_comm ny dr u ∙ ap (λ (z : ℕ). z * dr) e))
    (mul-le-mul_right dr (mul-le-mul_right dy h)) in
    let right : ur * dy * dr ≤ nr * dy * u = le_trans (le_of_eq (mul_right_comm ur dy dr))
    (le_trans (mul-le-mul_right dy f) (le_of_eq (mul_right_comm nr u dy))) in
    le_of_mul-le-mul_right (le_trans left right) U

-- every f64 is a whole number of units, and nothing is more than its own units
units_exact : (m : ℕ) (e : ℤ) → T (fits binary64 (fin false (suc m) e)) → suc m * up e * 2 ^ 1074 ≡ units_of (fin false (suc m) e) * down e
units_exact m e f =
    let x = exponent (suc m) e (few_digits false m e f).1 in
    x.1 ∙ ap (λ (n : ℕ). n * down e) (sym (units_are (fin false (suc m) e) (suc m * 2 ^ x.0) x.1))

no_more : (r : Float) → units_of r * den r ≤ num r * 2 ^ 1074
no_more nan = zero-le
no_more (inf s) = zero-le
no_more (fin s m e) = div-mul-le_self (m * up e * 2 ^ 1074) (down e)

least_root : (m : ℕ) (e : ℤ) (n : ℕ) (d : ℤ) → T (fits binary64 (fin false (suc m) e)) → T (fits binary64 (fin false (suc n) d))
    → suc n * up d * (suc n * up d) * down e ≤ suc m * up e * (down d * down d)
    → units_of (fin false (suc n) d) ≤ units_of (root_of (fin false (suc m) e))
least_root m e n d f g h =
    let x = fin false (suc m) e in
    let y = fin false (suc n) d in
    not_below (units_of (root_of x)) (units_of y) (radicand x)
    (square_under (suc m * up e) (down e) (units_of x) (suc n * up d) (down d) (units_of y) (2 ^ 1074) (units_exact m e f)
    (units_exact n d g)
    (down_pos e) (down_pos d) h)
    ((is_root x f).nearest y g).below

at_least : (m : ℕ) (e : ℤ) (n : ℕ) (d : ℤ) → T (fits binary64 (fin false (suc m) e)) → T (fits binary64 (fin false (suc n) d))
    → suc n * up d * (suc n * up d) * down e ≤ suc m * up e * (down d * down d)
    → AtLeast (suc n * up d) (down d) (root_of (fin false (suc m) e))
at_least m e n d f g h =
    let r = root_of (fin false (suc m) e) in
    record {
      finite = positive-finite r (root_positive (fin false (suc m) e) (lt→ltb 0 (suc m) (zero-lt-suc m)) f);
      size =
          least_in_units (suc n * up d) (down d) (units_of (fin false (suc n) d)) (num r) (den r) (units_of r) (2 ^ 1074) (pow_pos 1074)
          (units_exact n d g)
          (no_more r) (least_root m e n d f g h);
    }

pub root_least : (x y : Float) → T (positive x) → T (fits binary64 x) → T (positive y) → T (fits binary64 y)
    → num y * num y * den x ≤ num x * (den y * den y) → AtLeast (num y) (den y) (root_of x)
root_least x y p f q g h =
    for_positive
    (λ (x : Float). T (fits binary64 x) → num y * num y * den x ≤ num x * (den y * den y) → AtLeast (num y) (den y) (root_of x))
    (λ m e f h.
    for_positive (λ (y : Float). T (fits binary64 y) → num y * num y * down e ≤ suc m * up e * (den y * den y)
    → AtLeast (num y) (den y) (root_of (fin false (suc m) e)))
    (λ n d g h. at_least m e n d f g h) y q g h)
    x p f h
