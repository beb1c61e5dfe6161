-- Which fractions are values of a format: m·2^j / 2^k, where m has few enough digits, and so every f64 times a power of
-- two. Assumes nothing.
use mathlib.Core.Path.{◌≡◌, sym, ap, ◌∙◌, subst}
use mathlib.Core.Bool.{Bool, true, false, not, ◌&&◌}
use Prim.Native.Nat.{ℕ, zero, suc, ◌+◌, ◌-◌, ◌*◌, ◌%◌, ◌^◌, ◌≤◌, ◌<◌, zero-le}
use native.Mathlib.Nat.{le_trans, le_of_eq, lt_of_lt_of_le, not-le_of_lt, mul-one, one-mul, mul_comm, mul_assoc, mul_left_comm, zero-lt-suc}
use native.Mathlib.Nat.{mul-lt-mul_of_pos_right, lt_of_mul-lt-mul_right}
use native.Mathlib.Omega.{arith}
use lib.Dec.{T, leb, ltb, eqb, ltb→lt, leb→le, nleb→lt, eqb→eq}
use lib.IntN.{ℤ, pos, negsuc}
use lib.Pow.{pow-add, pow-lt, pow_pos, pow_mono}
use lib.Ieee.{Float, nan, inf, fin, Format, binary64, prec, emax, low, up, down, round, neg, fits}
use lib.Ieee.Digits.{back}
use lib.Ieee.Fits.{and_l, and_r, two, two-le_pos}
use lib.Ieee.Exact.{HasValue, round_exact}
use lib.Ieee.Scale.{finite}
use lib.Ieee.Positive.{num, den}
use Rattle.rounding.proofs.Signs.{sign, round_sign}

-- b / d is a value of the format: rounding it changes nothing
abbrev pub Exact : Format → ℕ → ℕ → Type 0
Exact f b d = HasValue (round f false b d) false b d

signed_value : (s : Bool) (x : Float) (b d : ℕ) → HasValue x false b d → HasValue (sign s x) s b d
unfolding sign neg
signed_value false x b d v = v
signed_value true nan b d v = v
signed_value true (inf t) b d v = v
signed_value true (fin t m e) b d v = (ap not v.0, v.1)

pub exact_value : (f : Format) (s : Bool) (b d : ℕ) → Exact f b d → HasValue (round f s b d) s b d
exact_value f s b d v = rw (round_sign f s b d) (signed_value s (round f false b d) b d v)

-- ---- m·2^j / 2^k
arrange : (m a j k : ℕ) → m * (a * j) * k ≡ m * j * (a * k)
arrange m a j k = simp (mul_assoc, mul_left_comm)

pub dyadic_exact : (f : Format) (m j k : ℕ) → m < 2 ^ prec f → k ≤ low f → m * 2 ^ j < 2 ^ suc (emax f) * 2 ^ k
    → Exact f (m * 2 ^ j) (2 ^ k)
dyadic_exact f m j k a g b =
    let l = low f in
    let e : m * 2 ^ (l - k + j) * 2 ^ k ≡ m * 2 ^ j * 2 ^ l =
    rw (pow-add 2 (l - k) j)
    (arrange m (2 ^ (l - k)) (2 ^ j) (2 ^ k)
    ∙ ap (λ (z : ℕ). m * 2 ^ j * z) (sym (pow-add 2 (l - k) k) ∙ ap (λ (z : ℕ). 2 ^ z) (back l k g))) in
    round_exact f false (m * 2 ^ j) (2 ^ k) m (l - k + j) (pow_pos k) a
    (lt_of_mul-lt-mul_right (2 ^ k)
    (rw (e, pow-add 2 l (suc (emax f)), mul_assoc (2 ^ l) (2 ^ suc (emax f)) (2 ^ k), mul_comm (2 ^ l) (2 ^ suc (emax f) * 2 ^ k))
    (mul-lt-mul_of_pos_right b (pow_pos l))))
    (sym e)

whole_exact : (f : Format) (m j : ℕ) → m < 2 ^ prec f → m * 2 ^ j < 2 ^ suc (emax f) → Exact f (m * 2 ^ j) 1
whole_exact f m j a b = dyadic_exact f m j 0 a zero-le (rw (mul-one (2 ^ suc (emax f))) b)

one_small : (f : Format) → 1 < 2 ^ prec f
one_small f = pow-lt (two-le_pos (prec f) (two f))

pub zero_exact : (f : Format) → Exact f 0 1
zero_exact f = whole_exact f 0 0 (pow_pos (prec f)) (pow_pos (suc (emax f)))

-- 2^p
pub pow_exact : (f : Format) (p : ℕ) → p ≤ emax f → Exact f (2 ^ p) 1
pow_exact f p h =
    subst (λ (z : ℕ). Exact f z 1) (one-mul (2 ^ p)) (whole_exact f 1 p (one_small f) (rw (one-mul (2 ^ p)) (pow-lt (room p (emax f) h))))
  where
    room : (p t : ℕ) → p ≤ t → p < suc t
    room p t h = omega arith

-- 2^-s
pub small_exact : (f : Format) (s : ℕ) → s ≤ low f → Exact f 1 (2 ^ s)
small_exact f s h = dyadic_exact f 1 0 s (one_small f) h (rw (← (pow-add 2 (suc (emax f)) s)) (pow-lt (room (emax f) s)))
  where
    room : (t s : ℕ) → 0 < suc t + s
    room t s = omega arith

-- n·2^p, of f64
pub count_exact : (n p : ℕ) → n < 2 ^ 53 → p ≤ 970 → Exact binary64 (n * 2 ^ p) 1
count_exact n p h l =
    whole_exact binary64 n p h
    (lt_of_lt_of_le (mul-lt-mul_of_pos_right h (pow_pos p)) (le_trans (le_of_eq (sym (pow-add 2 53 p))) (pow_mono (far p l))))
  where
    far : (p : ℕ) → p ≤ 970 → 53 + p ≤ 1024
    far p h = omega arith

-- ---- an f64 times 2^j, unless it overflows
pow_le_back : (a b : ℕ) → 2 ^ a ≤ 2 ^ b → a ≤ b
pow_le_back a b h = go (leb a b) (leb→le a b) (nleb→lt a b)
  where
    go : (c : Bool) → (T c → a ≤ b) → (T (not c) → b < a) → a ≤ b
    go true p q = p tt
    go false p q = absurd (not-le_of_lt (pow-lt (q tt)) h)

pub pow_lt_back : (a b : ℕ) → 2 ^ a < 2 ^ b → a < b
pow_lt_back a b h = go (leb b a) (leb→le b a) (nleb→lt b a)
  where
    go : (t : Bool) → (T t → b ≤ a) → (T (not t) → a < b) → a < b
    go true p q = absurd (not-le_of_lt h (pow_mono (p tt)))
    go false p q = q tt

shifted_exact : (f : Format) (m : ℕ) (e : ℤ) (j : ℕ) → m < 2 ^ prec f → down e ≤ 2 ^ low f → m * up e * 2 ^ j < 2 ^ suc (emax f) * down e
    → Exact f (m * up e * 2 ^ j) (down e)
shifted_exact f m (pos k) j a b h =
    let q : m * 2 ^ k * 2 ^ j ≡ m * 2 ^ (k + j) = mul_assoc m (2 ^ k) (2 ^ j) ∙ ap (λ (z : ℕ). m * z) (sym (pow-add 2 k j)) in
    subst (λ (z : ℕ). Exact f z 1) (sym q) (whole_exact f m (k + j) a (rw (← q) (rw (mul-one (2 ^ suc (emax f))) at h)))
shifted_exact f m (negsuc k) j a b h =
    subst (λ (z : ℕ). Exact f (z * 2 ^ j) (2 ^ suc k)) (sym (mul-one m))
    (dyadic_exact f m j (suc k) a (pow_le_back (suc k) (low f) b) (rw (mul-one m) at h))

pub fits_exact : (f : Format) (x : Float) (j : ℕ) → T (fits f x) → T (finite x) → num x * 2 ^ j < 2 ^ suc (emax f) * den x
    → Exact f (num x * 2 ^ j) (den x)
unfolding fits
fits_exact f nan j t i h = absurd i
fits_exact f (inf s) j t i h = absurd i
fits_exact f (fin s zero (pos k)) j t i h = shifted_exact f 0 (pos k) j (pow_pos (prec f)) (pow_pos (low f)) h
fits_exact f (fin s zero (negsuc k)) j t i h = absurd
    (let z = zero-lt-suc k in let a = pow-lt z in let b = eqb→eq (1 * 2 ^ suc k) 1 t in let c = one-mul (2 ^ suc k) in let n :
    ⊥ = omega arith in n)
fits_exact f (fin s (suc m) e) j t i h =
    let a : Bool = eqb (suc m % 2) 1 in
    let b : Bool = ltb (suc m) (2 ^ prec f) in
    let c : Bool = leb (down e) (2 ^ low f) in
    let d : Bool = ltb (suc m * up e) (2 ^ suc (emax f) * down e) in
    shifted_exact f (suc m) e j (ltb→lt (suc m) (2 ^ prec f) (and_r a b (and_l (a && b) c (and_l (a && b && c) d t))))
    (leb→le (down e) (2 ^ low f) (and_r (a && b) c (and_l (a && b && c) d t))) h
