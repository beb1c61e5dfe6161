-- Two different f64s that are multiples of 2^-k differ by 2^-k at least, and so does their rounded difference; an f64 of 2^-s at least is
-- a multiple of 2^-(52 + s). Assumes nothing.
use mathlib.Core.Path.{◌≡◌, refl, sym, ap, ◌∙◌, subst}
use mathlib.Core.Logic.{◌⊎◌, inl, inr}
use mathlib.Core.Bool.{Bool, true, false, not, ◌&&◌, true≢false}
use Prim.Native.Nat.{ℕ, zero, suc, ◌+◌, ◌-◌, ◌*◌, ◌%◌, ◌^◌, ◌≤◌, ◌<◌}
use native.Mathlib.Nat.{le_trans, le_of_eq, le_of_lt, lt_of_le_of_lt, mul-one, one-mul, zero-mul, mul_comm, mul_assoc, add-mul, mul-le-mul}
use native.Mathlib.Nat.{mul-le-mul_right, mul-pos, mul-lt-mul_of_pos_right, zero-lt-suc}
use native.Mathlib.Omega.{arith}
use lib.Dec.{T, leb, ltb, eqb, leb→le, nleb→lt, ltb→lt}
use lib.IntN.{pos, negsuc}
use lib.Pow.{pow-add, pow_mono, pow_pos}
use lib.Ieee.{Float, nan, inf, fin, binary64, up, down, neg, sub, eq, level, fits}
use lib.Ieee.Digits.{back}
use lib.Ieee.Fits.{and_i, and_l, and_r, eq→eqb, down_pos}
use lib.Ieee.Bits.{is_true}
use lib.Ieee.Scale.{finite}
use lib.Ieee.Positive.{den}
use Rattle.floats.specs.Operations.{◌⊖◌}
use Rattle.rounding.specs.Sizes.{AtLeast, Above, OnGrid}
use Rattle.rounding.proofs.Signed.{Adds}
use Rattle.rounding.proofs.Exact.{small_exact, pow_lt_back}
use Rattle.rounding.proofs.Rounding.{round_least}
use Rattle.rounding.proofs.Operations.{add_is}

-- ---- a sum of multiples of g is 0, or g at least
multiple : (k g c : ℕ) → c ≡ k * g → (c ≡ 0) ⊎ (g ≤ c)
multiple zero g c e = inl (e ∙ zero-mul g)
multiple (suc k) g c e = inr
    (le_trans (le_of_eq (sym (one-mul g))) (le_trans (mul-le-mul_right g (lit (suc k) (zero-lt-suc k))) (le_of_eq (sym e))))
  where
    lit : (n : ℕ) → 0 < n → 1 ≤ n
    lit n h = h

sub_mul : (a b g c : ℕ) → b * g + c ≡ a * g → c ≡ (a - b) * g
sub_mul a b g c e = go (leb b a) (leb→le b a) (nleb→lt b a)
  where
    plain : (x y z c : ℕ) → x + c ≡ y → z + x ≡ y → c ≡ z
    plain x y z c e f = omega arith

    less : (x y c : ℕ) → x + c ≡ y → y ≤ x → c ≡ 0
    less x y c e f = omega arith

    none : (a b : ℕ) → a < b → a - b ≡ 0
    none a b h = omega arith

    go : (t : Bool) → (T t → b ≤ a) → (T (not t) → a < b) → c ≡ (a - b) * g
    go true p q = plain (b * g) (a * g) ((a - b) * g) c e (sym (add-mul (a - b) b g) ∙ ap (λ (z : ℕ). z * g) (back a b (p tt)))
    go false p q = less (b * g) (a * g) c e (mul-le-mul_right g (le_of_lt (q tt))) ∙ sym (zero-mul g)
        ∙ ap (λ (z : ℕ). z * g) (sym (none a b (q tt)))

gap : (a b g c : ℕ) → b * g + c ≡ a * g → (c ≡ 0) ⊎ (g ≤ c)
gap a b g c e = multiple (a - b) g c (sub_mul a b g c e)

sum_gap : (a b g c : ℕ) → c ≡ a * g + b * g → (c ≡ 0) ⊎ (g ≤ c)
sum_gap a b g c e = multiple (a + b) g c (e ∙ sym (add-mul a b g))

adds_gap : (s : Bool) (a : ℕ) (t : Bool) (b : ℕ) (u : Bool) (c g : ℕ) → Adds s (a * g) t (b * g) u c → (c ≡ 0) ⊎ (g ≤ c)
adds_gap false a false b false c g h = sum_gap a b g c (omega arith)
adds_gap false a false b true c g h = inl (omega arith)
adds_gap false a true b false c g h = gap a b g c (omega arith)
adds_gap false a true b true c g h = gap b a g c (omega arith)
adds_gap true a false b false c g h = gap b a g c (omega arith)
adds_gap true a false b true c g h = gap a b g c (omega arith)
adds_gap true a true b false c g h = inl (omega arith)
adds_gap true a true b true c g h = sum_gap a b g c (omega arith)

-- ---- den x is a power of two
den_pow : (x : Float) → (i : ℕ) × (den x ≡ 2 ^ i)
den_pow nan = (0, refl)
den_pow (inf s) = (0, refl)
den_pow (fin s m (pos k)) = (0, refl)
den_pow (fin s m (negsuc k)) = (suc k, refl)

-- the smaller divides the larger: x = i, y = j
steps : (i j : ℕ) → i ≤ j → 2 ^ j ≡ 2 ^ (j - i) * 2 ^ i
steps i j h = ap (λ (z : ℕ). 2 ^ z) (sym (back j i h)) ∙ pow-add 2 (j - i) i

either : (i j : ℕ) → (i ≤ j) ⊎ (j ≤ i)
either i j = go (leb i j) (leb→le i j) (nleb→lt i j)
  where
    go : (t : Bool) → (T t → i ≤ j) → (T (not t) → j < i) → (i ≤ j) ⊎ (j ≤ i)
    go true p q = inl (p tt)
    go false p q = inr (le_of_lt (q tt))

-- the exact difference of nx/dx and ny/dy, over dx * dy, is 0 or 2^-k at least
wide : (s : Bool) (nx : ℕ) (t : Bool) (ny : ℕ) (u : Bool) (c dx dy i j k : ℕ) → dx ≡ 2 ^ i → dy ≡ 2 ^ j → dx ≤ 2 ^ k → dy ≤ 2 ^ k
    → Adds s (nx * dy) t (ny * dx) u c → (c ≡ 0) ⊎ (dx * dy ≤ c * 2 ^ k)
wide s nx t ny u c dx dy i j k p q x y h = elim (either i j) [
  | inl l ↦
      (let e : dy ≡ 2 ^ (j - i) * dx = q ∙ steps i j l ∙ ap (λ (z : ℕ). 2 ^ (j - i) * z) (sym p) in
      elim (adds_gap s (nx * 2 ^ (j - i)) t ny u c dx
      (subst (λ (z : ℕ). Adds s z t (ny * dx) u c) (ap (λ (z : ℕ). nx * z) e ∙ sym (mul_assoc nx (2 ^ (j - i)) dx)) h)) [
        | inl z ↦ inl z
        | inr g ↦ inr (mul-le-mul g y)
      ])
  | inr l ↦
      (let e : dx ≡ 2 ^ (i - j) * dy = p ∙ steps j i l ∙ ap (λ (z : ℕ). 2 ^ (i - j) * z) (sym q) in
      elim (adds_gap s nx t (ny * 2 ^ (i - j)) u c dy
      (subst (λ (z : ℕ). Adds s (nx * dy) t z u c) (ap (λ (z : ℕ). ny * z) e ∙ sym (mul_assoc ny (2 ^ (i - j)) dy)) h)) [
        | inl z ↦ inl z
        | inr g ↦ inr (le_trans (le_of_eq (mul_comm dx dy)) (mul-le-mul g x))
      ])
]

-- ---- a difference of 0 is one of equals
level_of : (s : Bool) (a : ℕ) (t : Bool) (b : ℕ) (u : Bool) → Adds s a (not t) b u 0 → T (level s a t b)
level_of false a false b false h = and_i (eqb a b) true (let e : a ≡ b = omega arith in eq→eqb e) tt
level_of false a false b true h = and_i (eqb a b) true (let e : a ≡ b = omega arith in eq→eqb e) tt
level_of true a true b false h = and_i (eqb a b) true (let e : a ≡ b = omega arith in eq→eqb e) tt
level_of true a true b true h = and_i (eqb a b) true (let e : a ≡ b = omega arith in eq→eqb e) tt
level_of false a true b false h = and_i (eqb a b) (eqb a 0) (let e : a ≡ b = omega arith in eq→eqb e)
    (let e : a ≡ 0 = omega arith in eq→eqb e)
level_of false a true b true h = and_i (eqb a b) (eqb a 0) (let e : a ≡ b = omega arith in eq→eqb e)
    (let e : a ≡ 0 = omega arith in eq→eqb e)
level_of true a false b false h = and_i (eqb a b) (eqb a 0) (let e : a ≡ b = omega arith in eq→eqb e)
    (let e : a ≡ 0 = omega arith in eq→eqb e)
level_of true a false b true h = and_i (eqb a b) (eqb a 0) (let e : a ≡ b = omega arith in eq→eqb e)
    (let e : a ≡ 0 = omega arith in eq→eqb e)

-- ---- the rounded difference
pub sub_above : (x y : Float) (k : ℕ) → k ≤ 1074 → OnGrid k x → OnGrid k y → eq x y ≡ false → T (finite (x ⊖ y)) → Above k (x ⊖ y)
unfolding sub neg eq
sub_above nan y k r p q d i = absurd p.0
sub_above (inf s) y k r p q d i = absurd p.0
sub_above (fin s m e) nan k r p q d i = absurd q.0
sub_above (fin s m e) (inf t) k r p q d i = absurd q.0
sub_above (fin s m e) (fin t n g) k r p q d i =
    let w = add_is binary64 (fin s m e) (fin (not t) n g) tt tt in
    let de = den_pow (fin s m e) in
    let dg = den_pow (fin t n g) in
    elim (wide s (m * up e) (not t) (n * up g) w.sign w.size (down e) (down g) de.0 dg.0 k de.1 dg.1 p.1 q.1
    w.adds) [
      | inl z ↦ absurd
          (true≢false (sym (is_true (level s (m * up e * down g) t (n * up g * down e))
          (level_of s (m * up e * down g) t (n * up g * down e) w.sign
          (subst (λ (c : ℕ). Adds s (m * up e * down g) (not t) (n * up g * down e) w.sign c) z w.adds))) ∙ d))
      | inr l ↦
          subst (λ (z : Float). AtLeast 1 (2 ^ k) z) (sym w.is)
          (round_least binary64 w.sign w.size (down e * down g) 1 (2 ^ k) (mul-pos (down_pos e) (down_pos g)) (pow_pos k)
          (small_exact binary64 k r)
          (subst (λ (z : Float). T (finite z)) w.is i) (rw (one-mul (down e * down g)) l))
    ]

-- ---- an f64 of 2^-s at least is a multiple of 2^-(52 + s)
last : (k s : ℕ) → k < 53 + s → k ≤ 52 + s
last k s h = omega arith

pub grid_of_above : (x : Float) (s : ℕ) → T (fits binary64 x) → Above s x → OnGrid (52 + s) x
unfolding fits
grid_of_above nan s t h = absurd h.finite
grid_of_above (inf u) s t h = absurd h.finite
grid_of_above (fin u m (pos k)) s t h = (tt, pow_pos (52 + s))
grid_of_above (fin u zero (negsuc k)) s t h = absurd
    (let a = pow_pos (suc k) in let b = h.size in let c = zero-mul (2 ^ s) in let n : ⊥ = omega arith in n)
grid_of_above (fin u (suc m) (negsuc k)) s t h =
    let a : Bool = eqb (suc m % 2) 1 in
    let b : Bool = ltb (suc m) (2 ^ 53) in
    let c : Bool = leb (2 ^ suc k) (2 ^ 1074) in
    let d : Bool = ltb (suc m * 1) (2 ^ 1024 * 2 ^ suc k) in
    let small : suc m < 2 ^ 53 = ltb→lt (suc m) (2 ^ 53) (and_r a b (and_l (a && b) c (and_l (a && b && c) d t))) in
    let size : 2 ^ suc k ≤ suc m * 2 ^ s = rw (one-mul (2 ^ suc k)) at (rw (mul-one (suc m)) at h.size) in (
      tt,
      pow_mono (last (suc k) s
          (pow_lt_back (suc k) (53 + s) (lt_of_le_of_lt size (rw (pow-add 2 53 s) (mul-lt-mul_of_pos_right small (pow_pos s)))))),
    )
