-- Whole numbers with a sign, as f64s have them, and their order: linear in two parts, so that `omega` reads it. Assumes nothing.
use mathlib.Core.Path.{◌≡◌, refl, sym, ap, ◌∙◌}
use mathlib.Core.Logic.{◌⊎◌, inl, inr}
use mathlib.Core.Bool.{Bool, true, false, ◌||◌}
use Prim.Native.Nat.{ℕ, ◌+◌, ◌*◌, ◌≤◌, ◌<◌}
use native.Mathlib.Nat.{le_trans, le_of_eq, eq-or-lt_of_le, zero-mul, add-mul, mul_right_comm, mul-le-mul_right, le_of_mul-le-mul_right}
use native.Mathlib.Omega.{arith}
use mir.Facts.{or_yes}
use lib.Dec.{T, ltb, eqb, eqb→eq, ltb→lt, lt→ltb}
use lib.Ieee.{below, level}
use lib.Ieee.Fits.{and_l, and_r, and_i, eq→eqb}

-- the number is `over s a` less `under s a`
abbrev pub over : Bool → ℕ → ℕ
over false a = a
over true a = 0

abbrev pub under : Bool → ℕ → ℕ
under false a = 0
under true a = a

-- ±a <= ±b
abbrev pub Leq : Bool → ℕ → Bool → ℕ → Type 0
Leq s a t b = over s a + under t b ≤ over t b + under s a

pub over_mul : (s : Bool) (a k : ℕ) → over s (a * k) ≡ over s a * k
over_mul false a k = refl
over_mul true a k = sym (zero-mul k)

pub under_mul : (s : Bool) (a k : ℕ) → under s (a * k) ≡ under s a * k
under_mul false a k = sym (zero-mul k)
under_mul true a k = refl

pub scale : (s : Bool) (a : ℕ) (t : Bool) (b k : ℕ) → Leq s a t b → Leq s (a * k) t (b * k)
scale s a t b k h =
    rw (
      over_mul s a k,
      under_mul t b k,
      over_mul t b k,
      under_mul s a k,
      ← (add-mul (over s a) (under t b) k),
      ←
          (add-mul (over t b) (under s a) k),
    ) (mul-le-mul_right k h)

pub unscale : (s : Bool) (a : ℕ) (t : Bool) (b k : ℕ) → 0 < k → Leq s (a * k) t (b * k) → Leq s a t b
unscale s a t b k K h =
    le_of_mul-le-mul_right
    (le_trans (le_of_eq
    (add-mul (over s a) (under t b) k ∙ ap (λ (z : ℕ). z + under t b * k) (sym (over_mul s a k))
    ∙ ap (λ (z : ℕ). over s (a * k) + z) (sym (under_mul t b k))))
    (le_trans h
    (le_of_eq (sym (add-mul (over t b) (under s a) k ∙ ap (λ (z : ℕ). z + under s a * k) (sym (over_mul t b k))
    ∙ ap (λ (z : ℕ). over t (b * k) + z) (sym (under_mul s a k)))))))
    K

pub leq_trans : (s : Bool) (a : ℕ) (t : Bool) (b : ℕ) (u : Bool) (c : ℕ) → Leq s a t b → Leq t b u c → Leq s a u c
leq_trans s a t b u c h k = plain (over s a) (under s a) (over t b) (under t b) (over u c) (under u c) h k
  where
    plain : (p p' q q' r r' : ℕ) → p + q' ≤ q + p' → q + r' ≤ r + q' → p + r' ≤ r + p'
    plain p p' q q' r r' h k = omega arith

pub leq_same : (s : Bool) (a b : ℕ) → a ≡ b → Leq s a s b
leq_same s a b e = rw e (omega arith)

-- x/dx <= y/dy <= z/dz
pub leq_through : (sx sy sz : Bool) (x y z dx dy dz : ℕ) → 0 < dy → Leq sx (x * dy) sy (y * dx) → Leq sy (y * dz) sz (z * dy)
    → Leq sx (x * dz) sz (z * dx)
leq_through sx sy sz x y z dx dy dz Y h k =
    unscale sx (x * dz) sz (z * dx) dy Y
    (leq_trans sx (x * dz * dy) sy (y * dx * dz) sz (z * dx * dy)
    (leq_trans sx (x * dz * dy) sx (x * dy * dz) sy (y * dx * dz) (leq_same sx (x * dz * dy) (x * dy * dz) (mul_right_comm x dz dy))
    (scale sx (x * dy) sy (y * dx) dz h))
    (leq_trans sy (y * dx * dz) sy (y * dz * dx) sz (z * dx * dy) (leq_same sy (y * dx * dz) (y * dz * dx) (mul_right_comm y dx dz))
    (leq_trans sy (y * dz * dx) sz (z * dy * dx) sz (z * dx * dy) (scale sy (y * dz) sz (z * dy) dx k)
    (leq_same sz (z * dy * dx) (z * dx * dy) (mul_right_comm z dy dx)))))

-- ---- sums: ±a ± b is ±c
abbrev pub Adds : Bool → ℕ → Bool → ℕ → Bool → ℕ → Type 0
Adds s a t b u c = over s a + over t b + under u c ≡ under s a + under t b + over u c

pub adds_scale : (s : Bool) (a : ℕ) (t : Bool) (b : ℕ) (u : Bool) (c k : ℕ) → Adds s a t b u c → Adds s (a * k) t (b * k) u (c * k)
adds_scale s a t b u c k h =
    rw (over_mul s a k, over_mul t b k, under_mul u c k, under_mul s a k, under_mul t b k, over_mul u c k)
    (three (over s a) (over t b) (under u c) k ∙ ap (λ (z : ℕ). z * k) h ∙ sym (three (under s a) (under t b) (over u c) k))
  where
    three : (x y z k : ℕ) → x * k + y * k + z * k ≡ (x + y + z) * k
    three x y z k = sym (add-mul (x + y) z k ∙ ap (λ (w : ℕ). w + z * k) (add-mul x y k))

-- a sum grows with its first part
pub adds_mono : (s : Bool) (a : ℕ) (t : Bool) (b : ℕ) (u : Bool) (c : ℕ) (v : Bool) (x : ℕ) (w : Bool) (y : ℕ) → Leq s a t b
    → Adds s a u c v x → Adds t b u c w y → Leq v x w y
adds_mono s a t b u c v x w y h p q = plain (over s a) (under s a) (over t b) (under t b) (over u c) (under u c) (over v x) (under v x)
    (over w y) (under w y) h p q
  where
    plain : (a a' b b' c c' x x' y y' : ℕ) → a + b' ≤ b + a' → a + c + x' ≡ a' + c' + x → b + c + y' ≡ b' + c' + y → x + y' ≤ y + x'
    plain a a' b b' c c' x x' y y' h p q = omega arith

-- and is at most both sizes
both_parts : (s : Bool) (a : ℕ) → over s a + under s a ≡ a
both_parts false a = omega arith
both_parts true a = omega arith

pub adds_most : (s : Bool) (a : ℕ) (t : Bool) (b : ℕ) (u : Bool) (c : ℕ) → Adds s a t b u c → c ≤ a + b
adds_most s a t b false c h = let p = both_parts s a in let q = both_parts t b in omega arith
adds_most s a t b true c h = let p = both_parts s a in let q = both_parts t b in omega arith

-- ---- as f64 compares them
or_l : (a b : Bool) → T a → T (a || b)
or_l true b t = tt
or_l false b t = absurd t

or_r : (a b : Bool) → T b → T (a || b)
or_r true b t = tt
or_r false b t = t

zero_left : (a b : ℕ) → a + b ≤ 0 → a ≡ 0
zero_left a b h = omega arith

zero_both : (a b : ℕ) → a + b ≤ 0 → a ≡ b
zero_both a b h = omega arith

some : (a b : ℕ) → (0 < a + b) ⊎ (a + b ≤ 0)
some a b = let h : 0 ≤ a + b = omega arith in elim (eq-or-lt_of_le h) [ inl e ↦ inr (le_of_eq (sym e)) | inr l ↦ inl l ]

pub leq→le : (s : Bool) (a : ℕ) (t : Bool) (b : ℕ) → Leq s a t b → T (below s a t b || level s a t b)
leq→le false a false b h = let g : a ≤ b = omega arith in elim (eq-or-lt_of_le g) [
  | inl e ↦ or_r (ltb a b) (level false a false b) (and_i (eqb a b) true (eq→eqb e) tt)
  | inr l ↦ or_l (ltb a b) (level false a false b) (lt→ltb a b l)
]
leq→le false a true b h = and_i (eqb a b) (eqb a 0) (eq→eqb (zero_both a b h)) (eq→eqb (zero_left a b h))
leq→le true a false b h = elim (some a b) [
  | inl l ↦ or_l (ltb 0 (a + b)) (level true a false b) (lt→ltb 0 (a + b) l)
  | inr l ↦ or_r (ltb 0 (a + b)) (level true a false b) (and_i (eqb a b) (eqb a 0) (eq→eqb (zero_both a b l)) (eq→eqb (zero_left a b l)))
]
leq→le true a true b h = let g : b ≤ a = omega arith in elim (eq-or-lt_of_le g) [
  | inl e ↦ or_r (ltb b a) (level true a true b) (and_i (eqb a b) true (eq→eqb (sym e)) tt)
  | inr l ↦ or_l (ltb b a) (level true a true b) (lt→ltb b a l)
]

pub le→leq : (s : Bool) (a : ℕ) (t : Bool) (b : ℕ) → T (below s a t b || level s a t b) → Leq s a t b
le→leq false a false b h = elim (or_yes (ltb a b) (level false a false b) h) [
  | inl l ↦ (let k = ltb→lt a b l in omega arith)
  | inr l ↦ (let k = eqb→eq a b (and_l (eqb a b) true l) in omega arith)
]
le→leq false a true b h = let k = eqb→eq a b (and_l (eqb a b) (eqb a 0) h) in let l = eqb→eq a 0 (and_r (eqb a b) (eqb a 0) h) in
    omega arith
le→leq true a false b h = omega arith
le→leq true a true b h = elim (or_yes (ltb b a) (level true a true b) h) [
  | inl l ↦ (let k = ltb→lt b a l in omega arith)
  | inr l ↦ (let k = eqb→eq a b (and_l (eqb a b) true l) in omega arith)
]
