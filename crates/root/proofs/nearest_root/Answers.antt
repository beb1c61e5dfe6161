-- `root::nearest_root` meets its contract: n * 2 ^ 52 - q * q is u - v exactly, above -q and at most 3 * q + 2, so the
-- last test says which of q and q + 1 is nearest. Assumes nothing.
use Prim.Native.Nat.{ℕ, zero, suc, ◌+◌, ◌-◌, ◌*◌, ◌/◌, ◌%◌, ◌^◌, ◌≤◌, ◌<◌}
use mathlib.Core.Path.{◌≡◌, ap, ◌∙◌}
use mathlib.Core.Bool.{Bool, true, false, not}
use native.Mathlib.Nat.{mul_comm, mul_right_comm, mul-mul-mul_comm, mul-le-mul, mul-le-mul_left, mul-le-mul_right, add-mul, mul-add}
use native.Mathlib.Nat.{div-add-mod, div-le_of_le-mul, mod-lt}
use native.Mathlib.Decide.{dec_le}
use native.Mathlib.Omega.{arith}
use borrow.Author.Tests.{leb-true}
use lib.Dec.{T, ltb, ltb→lt, nltb→le}
use mir.Syntax.{w64}
use mir.Val.{Fits, bool_byte}
use Rattle.root.specs.Root.{near_root}
use Rattle.root.proofs.Squares.{next_square, near_of}
use Rattle.root.proofs.nearest_root.Goals as goal

-- ---- the division: a guess h = p + 1, at most one off, and the quotient l

record Split (n p l c : ℕ) : Type 0 where
  least : 2 ^ 52 ≤ n
  most : n < 2 ^ 54
  long : 2 ^ 26 ≤ p + 1
  short : p + 1 < 2 ^ 28
  near : p * p ≤ n + 1
  whole : (p + 1) * l + c ≡ (n + 1 - p * p) * 2 ^ 25
  few : l ≤ 2 ^ 27
  less : c ≤ p

-- what is divided by h
abbrev over : ℕ → ℕ → ℕ
over n h = (n + 2 * h - h * h) * 2 ^ 25

split : (n h : ℕ) → (2 ^ 52 ≤ n) × (n < 2 ^ 54) × (2 ^ 26 ≤ h) × (h < 2 ^ 28) → h * h ≤ n + 2 * h → n + 2 * h - h * h ≤ 4 * h
    → Split n (h - 1) (over n h / h) (over n h % h)
split n h b f g =
    let p = h - 1 in
    let t = over n h in
    let e : p + 1 ≡ h = omega arith in
    let r = next_square p in
    let x = ap (λ (y : ℕ). y * y) e in
    let w = ap (λ (y : ℕ). y * (t / h) + t % h) e ∙ div-add-mod t h in
    record {
      least = b.0;
      most = b.1;
      long = omega arith;
      short = omega arith;
      near = omega (arith, r, x);
      whole = omega (arith, r, x, w);
      few = div-le_of_le-mul h (let z : t ≤ h * 2 ^ 27 = omega arith in z);
      less = omega (arith, mod-lt t (let z : 0 < h = omega arith in z));
    }

-- ---- q = p * 2 ^ 26 + l: the difference u - v of n * 2 ^ 52 and its square, and how large it can be

square_of : (p l : ℕ) → (p * 2 ^ 26 + l) * (p * 2 ^ 26 + l) ≡ p * p * 2 ^ 52 + p * l * 2 ^ 27 + l * l
square_of p l =
    let x = p * 2 ^ 26 in
    omega (
      arith,
      add-mul x l (x + l),
      mul-add x x l,
      mul-add l x l,
      mul_comm l x,
      mul_right_comm p (2 ^ 26) l,
      mul-mul-mul_comm p (2 ^ 26)
          p (2 ^ 26),
    )

-- (l - 1) * (2 ^ 27 - l) is not negative
between : (l : ℕ) → 1 ≤ l → l ≤ 2 ^ 27 → l * l + 2 ^ 27 ≤ 2 ^ 27 * l + l
between zero o g = absurd (let z : ⊥ = omega arith in z)
between (suc k) o g = omega (arith, next_square k, mul-le-mul_left k (let z : k ≤ 2 ^ 27 - 1 = omega arith in z))

-- the last test
abbrev test : ℕ → ℕ → ℕ → Bool
test p l c = ltb (l * l + 2 ^ 52 + (p * 2 ^ 26 + l)) ((l + c) * 2 ^ 27)

module _ {n p l c : ℕ} (s : Split n p l c) where
  difference : n * 2 ^ 52 + (l * l + 2 ^ 52) ≡ (p * 2 ^ 26 + l) * (p * 2 ^ 26 + l) + (l + c) * 2 ^ 27
  difference = omega (arith, s, square_of p l, add-mul p 1 l)

  above : Dec (1 ≤ l) → Dec (p ≤ 2 ^ 26) → l * l + 2 ^ 52 < (l + c) * 2 ^ 27 + (p * 2 ^ 26 + l)
  above (yes i) j = omega (arith, s, between l i s.few)
  above (no i) (yes j) = let z : l ≤ 0 = omega arith in omega (arith, s, mul-le-mul z z, mul-le-mul_left (p + 1) z, mul-le-mul j j)
  above (no i) (no j) = let z : l ≤ 0 = omega arith in omega (arith, s, mul-le-mul z z)

  below : Dec (2 ^ 26 ≤ l) → (l + c) * 2 ^ 27 ≤ l * l + 2 ^ 52 + 3 * (p * 2 ^ 26 + l) + 2
  below (yes i) = omega (arith, s, mul-le-mul_right l i)
  below (no i) = omega (arith, s)

  -- q where the test fails, and else q + 1
  nearest : (q u v : ℕ) → n * 2 ^ 52 + v ≡ q * q + u → v < u + q → u ≤ v + 3 * q + 2 → (b : Bool) → (T b → v + q < u)
      → (T (not b) → u ≤ v + q) → q + bool_byte b ≡ near_root (n * 2 ^ 52)
  nearest q u v d f g true t e = near_of (q + 1) (n * 2 ^ 52) (omega (arith, s)) (omega (arith, s))
      (record { low = omega (arith, next_square q, t tt); high = omega (arith, next_square q) })
  nearest q u v d f g false t e =
      (let z : q + 0 ≡ q = omega arith in z)
      ∙ near_of q (n * 2 ^ 52) (omega (arith, s)) (omega (arith, s)) (record { low = omega arith; high = omega (arith, e tt) })

  decided : p * 2 ^ 26 + l + bool_byte (test p l c) ≡ near_root (n * 2 ^ 52)
  decided =
      let q = p * 2 ^ 26 + l in
      let u = (l + c) * 2 ^ 27 in
      let v = l * l + 2 ^ 52 in
      nearest q u v difference (above (dec_le 1 l) (dec_le p (2 ^ 26))) (below (dec_le (2 ^ 26) l)) (test p l c) (ltb→lt (v + q) u)
      (nltb→le (v + q) u)

  low_square : l * l ≤ 2 ^ 54
  low_square = omega (arith, mul-le-mul s.few s.few)

  fits : (b : Bool) → Fits w64 (p * 2 ^ 26 + l + bool_byte b)
  fits true = omega (arith, s)
  fits false = omega (arith, s)

-- ---- the function's needs

abbrev start : goal.Then-top-square → goal.Start
start c = c.before.before

split_at : (c : goal.Then-top-square) → let n =
    (start c).args.n in let h = (start c).args.h in Split n (h - 1) (over n h / h) (over n h % h)
split_at c = split (start c).args.n (start c).args.h (start c).requires c.if-square-top.true (omega (arith, leb-true))

pub overflow_mul-square : goal.overflow_mul-square
overflow_mul-square c = let f : c.args.h ≤ 2 ^ 28 = omega arith in omega (arith, mul-le-mul f f)

pub overflow_mul-t : goal.overflow_mul-t
overflow_mul-t c = omega (arith, leb-true)

pub overflow_add-q : goal.overflow_add-q
overflow_add-q c = omega (arith, split_at c)

pub overflow_add-u : goal.overflow_add-u
overflow_add-u c = omega (arith, split_at c)

pub overflow_mul-u : goal.overflow_mul-u
overflow_mul-u c = omega (arith, split_at c)

pub overflow_mul-v : goal.overflow_mul-v
overflow_mul-v c = omega (arith, low_square (split_at c))

pub overflow_add-v : goal.overflow_add-v
overflow_add-v c = omega (arith, low_square (split_at c))

pub overflow_add-result : goal.overflow_add-result
overflow_add-result c = omega (arith, split_at c, low_square (split_at c))

pub overflow_add-result-then-top-square : goal.overflow_add-result-then-top-square
overflow_add-result-then-top-square c =
    let n = (start c).args.n in let h = (start c).args.h in fits (split_at c) (test (h - 1) (over n h / h) (over n h % h))

pub returns-then-top-square : goal.returns-then-top-square
returns-then-top-square c = decided (split_at c)
